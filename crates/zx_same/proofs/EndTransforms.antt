-- The sum of a graph with its ends taken off: summed over all bits with the ends' own factors at given labels, only these
-- labels are left.
use Rattle.std.proofs.Common.{◌≡◌, ◌≢◌, refl, sym, ◌∙◌, ap, ap₂, ℕ, zero as nought, suc, Bool, true, false, List, [], ◌∷◌, length, true≢false, arith}
use Rattle.zx_model.specs.Bits.{member}
use Rattle.zx_model.specs.Number.{Number, zero, one, add, mul}
use Rattle.zx_model.specs.Sums.{labelled, over, sum_over}
use Rattle.zx_model.proofs.Ring.{expand, sorted, mul-zero, zero-mul, mul-add, add-zero, zero-add, mul-one, mul_assoc, mul_comm, mul_left_comm}
use Rattle.zx_model.proofs.SumLemmas.{labelled-same, labelled-other, sum_over_same, sum_over_mul, sum_over_add}
use Rattle.zx_calculus.specs.Graph.{End, Distinct}
use Rattle.zx_calculus.specs.Sum.{end_factor, end_product}
use Rattle.zx_calculus.proofs.Ids.{by_equal, apart_of_member, member-here, member-there}
use Rattle.zx_gates.specs.Maps.{amp}

-- f summed over all lists of n bits
abbrev pub over_bits : ℕ → (List Bool → Number) → Number
over_bits nought f = f []
over_bits (suc n) f = add (over_bits n (λ x. f (false ∷ x))) (over_bits n (λ x. f (true ∷ x)))

pub over_bits_same : (n : ℕ) (f g : List Bool → Number) → ((x : List Bool) → length x ≡ n → f x ≡ g x) → over_bits n f ≡ over_bits n g
over_bits_same nought f g e = e [] refl
over_bits_same (suc n) f g e =
    ap₂ add (over_bits_same n _ _ (λ x l. e (false ∷ x) (omega arith))) (over_bits_same n _ _ (λ x l. e (true ∷ x) (omega arith)))

pub over_bits_mul : (c : Number) (n : ℕ) (f : List Bool → Number) → over_bits n (λ x. mul c (f x)) ≡ mul c (over_bits n f)
over_bits_mul c nought f = refl
over_bits_mul c (suc n) f = ap₂ add (over_bits_mul c n _) (over_bits_mul c n _) ∙ sym (mul-add c _ _)

pub over_bits_sum : (n : ℕ) (vs : List ℕ) (f : List Bool → (ℕ → Bool) → Number) →
    over_bits n (λ x. sum_over vs (f x)) ≡ sum_over vs (λ label. over_bits n (λ x. f x label))
over_bits_sum nought vs f = refl
over_bits_sum (suc n) vs f =
    ap₂ add (over_bits_sum n vs (λ x. f (false ∷ x))) (over_bits_sum n vs (λ x. f (true ∷ x)))
    ∙ sym (sum_over_add vs (λ label. over_bits n (λ x. f (false ∷ x) label)) (λ label. over_bits n (λ x. f (true ∷ x) label)))

-- two ends that meet: the sum over their common bit, at the labels k and l
abbrev pub meeting : Bool → Bool → Bool → Bool → Number
meeting g h k l = add (mul (end_factor g k false) (end_factor h l false)) (mul (end_factor g k true) (end_factor h l true))

-- all that meet, the one list at the labels k, the other at l
abbrev pub meetings : List End → List End → (ℕ → Bool) → (ℕ → Bool) → Number
meetings (i ∷ ins) (o ∷ outs) k l = mul (meeting i.hadamard o.hadamard (k i.vertex) (l o.vertex)) (meetings ins outs k l)
meetings ins outs k l = one

grouped : (a b p q : Number) → mul (mul a p) (mul b q) ≡ mul (mul a b) (mul p q)
grouped a b p q = simp sorted

two_products : (a b c d r : Number) → add (mul (mul a b) r) (mul (mul c d) r) ≡ mul (add (mul a b) (mul c d)) r
two_products a b c d r = simp expand

-- two lists of ends that meet bit by bit
pub ends_meet : (ins outs : List End) (k l : ℕ → Bool) → length ins ≡ length outs →
    over_bits (length ins) (λ x. mul (end_product ins x k) (end_product outs x l)) ≡ meetings ins outs k l
ends_meet [] [] k l e = mul-one one
ends_meet [] (o ∷ outs) k l e = absurd (omega arith)
ends_meet (i ∷ ins) [] k l e = absurd (omega arith)
ends_meet (i ∷ ins) (o ∷ outs) k l e =
    ap₂ add (part false (ends_meet ins outs k l (omega arith))) (part true (ends_meet ins outs k l (omega arith))) ∙ two_products _ _ _ _ _
  where
    part : (b : Bool) → over_bits (length ins) (λ x. mul (end_product ins x k) (end_product outs x l)) ≡ meetings ins outs k l →
        over_bits (length ins) (λ x. mul (end_product (i ∷ ins) (b ∷ x) k) (end_product (o ∷ outs) (b ∷ x) l))
        ≡ mul (mul (end_factor i.hadamard (k i.vertex) b) (end_factor o.hadamard (l o.vertex) b)) (meetings ins outs k l)
    part b rest =
        over_bits_same (length ins) _ _ (λ x s. grouped _ _ _ _)
        ∙ over_bits_mul _ (length ins) _
        ∙ ap (mul (mul (end_factor i.hadamard (k i.vertex) b) (end_factor o.hadamard (l o.vertex) b))) rest

-- the identity's map hands the bits on
pub handed_on : (outs : List End) (x : List Bool) (l : ℕ → Bool) → length x ≡ length outs →
    over_bits (length outs) (λ y. mul (end_product outs y l) (amp [] x y)) ≡ end_product outs x l
handed_on [] [] l e = mul-one one
handed_on [] (b ∷ x) l e = absurd (omega arith)
handed_on (o ∷ outs) [] l e = absurd (omega arith)
handed_on (o ∷ outs) (b ∷ x) l e = at b (handed_on outs x l (omega arith))
  where
    kept : (b : Bool) → over_bits (length outs) (λ y. mul (end_product outs y l) (amp [] x y)) ≡ end_product outs x l →
        over_bits (length outs) (λ y. mul (mul (end_factor o.hadamard (l o.vertex) b) (end_product outs y l)) (amp [] x y))
        ≡ mul (end_factor o.hadamard (l o.vertex) b) (end_product outs x l)
    kept b rest =
        over_bits_same (length outs) _ _ (λ y s. mul_assoc _ _ _)
        ∙ over_bits_mul _ (length outs) _ ∙ ap (mul (end_factor o.hadamard (l o.vertex) b)) rest

    none : (c : Bool) → over_bits (length outs) (λ y. mul (mul (end_factor o.hadamard (l o.vertex) c) (end_product outs y l)) zero) ≡ zero
    none c = over_bits_same (length outs) _ (λ y. mul zero zero) (λ y s. mul-zero _ ∙ sym (mul-zero zero)) ∙ over_bits_mul zero (length outs) (λ y. zero) ∙ zero-mul _

    at : (b : Bool) → over_bits (length outs) (λ y. mul (end_product outs y l) (amp [] x y)) ≡ end_product outs x l →
        over_bits (suc (length outs)) (λ y. mul (end_product (o ∷ outs) y l) (amp [] (b ∷ x) y)) ≡ end_product (o ∷ outs) (b ∷ x) l
    at false rest = ap₂ add (kept false rest) (none true) ∙ add-zero _
    at true rest = ap₂ add (none false) (kept true rest) ∙ zero-add _

-- ---- the ends of a sum taken off
moved_in : (p q w a b : Number) → mul (mul p q) (mul w (mul a b)) ≡ mul (mul p a) (mul w (mul q b))
moved_in p q w a b = simp sorted

-- two sums over bits within a sum over labels
pub each_within : (n m : ℕ) (vs : List ℕ) (P Q : List Bool → (ℕ → Bool) → Number) (W : (ℕ → Bool) → Number) →
    over_bits n (λ x. over_bits m (λ y. sum_over vs (λ label. mul (P x label) (mul (W label) (Q y label)))))
    ≡ sum_over vs (λ label. mul (over_bits n (λ x. P x label)) (mul (W label) (over_bits m (λ y. Q y label))))
each_within n m vs P Q W =
    over_bits_same n _ _
    (λ x s. over_bits_sum m vs (λ y label. mul (P x label) (mul (W label) (Q y label)))
    ∙ sum_over_same vs _ (λ label. mul (mul (W label) (over_bits m (λ y. Q y label))) (P x label))
    (λ label. over_bits_mul (P x label) m (λ y. mul (W label) (Q y label)) ∙ ap (mul (P x label)) (over_bits_mul (W label) m (λ y. Q y label)) ∙ mul_comm _ _))
    ∙ over_bits_sum n vs (λ x label. mul (mul (W label) (over_bits m (λ y. Q y label))) (P x label))
    ∙ sum_over_same vs _ _ (λ label. over_bits_mul (mul (W label) (over_bits m (λ y. Q y label))) n (λ x. P x label) ∙ mul_comm _ _)

-- what the labels of a sum over the ends' bits are, where the sum is the identity's map up to two numbers
pub ends_taken_off : (vs : List ℕ) (W : (ℕ → Bool) → Number) (ins outs : List End) (left right : Number) → length ins ≡ length outs →
    ((x y : List Bool) → length x ≡ length ins → length y ≡ length outs →
    mul left (sum_over vs (λ label. mul (W label) (mul (end_product ins x label) (end_product outs y label)))) ≡ mul right (amp [] x y)) →
    (k l : ℕ → Bool) →
    mul left (sum_over vs (λ label. mul (meetings ins ins k label) (mul (W label) (meetings outs outs l label)))) ≡ mul right (meetings ins outs k l)
ends_taken_off vs W ins outs left right as_many equal k l =
    ap (mul left)
    (sum_over_same vs _ _ (λ label. sym (ap₂ (λ p q. mul p (mul (W label) q)) (ends_meet ins ins k label refl) (ends_meet outs outs l label refl)))
    ∙ sym (each_within (length ins) (length outs) vs (λ x label. mul (end_product ins x k) (end_product ins x label)) (λ y label. mul (end_product outs y l) (end_product outs y label)) W))
    ∙ sym (over_bits_mul left (length ins) _)
    ∙ over_bits_same (length ins) _ (λ x. mul right (mul (end_product ins x k) (end_product outs x l))) (λ x s. at x s)
    ∙ over_bits_mul right (length ins) _
    ∙ ap (mul right) (ends_meet ins outs k l as_many)
  where
    entry : (x y : List Bool) → length x ≡ length ins → length y ≡ length outs →
        mul left (sum_over vs (λ label. mul (mul (end_product ins x k) (end_product ins x label)) (mul (W label) (mul (end_product outs y l) (end_product outs y label)))))
        ≡ mul (mul right (end_product ins x k)) (mul (end_product outs y l) (amp [] x y))
    entry x y s t =
        ap (mul left) (sum_over_same vs _ _ (λ label. sym (moved_in (end_product ins x k) (end_product outs y l) (W label) (end_product ins x label) (end_product outs y label)))
        ∙ sum_over_mul (mul (end_product ins x k) (end_product outs y l)) vs _)
        ∙ mul_left_comm left (mul (end_product ins x k) (end_product outs y l)) _
        ∙ ap (mul (mul (end_product ins x k) (end_product outs y l))) (equal x y s t)
        ∙ shuffled _ _ _ _
      where
        shuffled : (p q r a : Number) → mul (mul p q) (mul r a) ≡ mul (mul r p) (mul q a)
        shuffled p q r a = simp sorted

    at : (x : List Bool) → length x ≡ length ins →
        mul left (over_bits (length outs) (λ y. sum_over vs (λ label. mul (mul (end_product ins x k) (end_product ins x label)) (mul (W label) (mul (end_product outs y l) (end_product outs y label))))))
        ≡ mul right (mul (end_product ins x k) (end_product outs x l))
    at x s =
        sym (over_bits_mul left (length outs) _)
        ∙ over_bits_same (length outs) _ _ (λ y t. entry x y s t)
        ∙ over_bits_mul (mul right (end_product ins x k)) (length outs) _
        ∙ ap (mul (mul right (end_product ins x k))) (handed_on outs x l (s ∙ as_many))
        ∙ mul_assoc _ _ _

-- ---- one choice of labels
-- the labels of those listed, and false elsewhere
abbrev pub restricted : (ℕ → Bool) → List ℕ → ℕ → Bool
restricted k [] = λ u. false
restricted k (v ∷ vs) = labelled (restricted k vs) v (k v)

pub restricted_at : (k : ℕ → Bool) (vs : List ℕ) (u : ℕ) → member u vs ≡ true → restricted k vs u ≡ k u
restricted_at k [] u there = absurd (true≢false (sym there))
restricted_at k (v ∷ vs) u there =
    by_equal u v
    (λ t e. ap (labelled (restricted k vs) v (k v)) e ∙ labelled-same (restricted k vs) v (k v) ∙ ap k (sym e))
    (λ f n. labelled-other (restricted k vs) v (k v) u n ∙ restricted_at k vs u (rw f at there))

-- a sum of which one choice of labels alone isn't 0
pub picked : (k : ℕ → Bool) (vs : List ℕ) (f : (ℕ → Bool) → Number) → Distinct vs →
    ((v : ℕ) (label : ℕ → Bool) → member v vs ≡ true → label v ≢ k v → f label ≡ zero) → sum_over vs f ≡ f (restricted k vs)
picked k [] f d none = refl
picked k (v ∷ vs) f d none =
    sum_over_same vs (over v f) (λ label. f (labelled label v (k v))) (λ label. left_over label (k v) (λ b other. none v (labelled label v b) (member-here v vs) (λ e. other (sym (labelled-same label v b) ∙ e))))
    ∙ picked k vs (λ label. f (labelled label v (k v))) d.1
    (λ u label there other. none u (labelled label v (k v)) (member-there u v vs there)
    (λ e. other (sym (labelled-other label v (k v) u (apart_of_member u v vs there d.0)) ∙ e)))
  where
    left_over : (label : ℕ → Bool) (b : Bool) → ((c : Bool) → c ≢ b → f (labelled label v c) ≡ zero) → over v f label ≡ f (labelled label v b)
    left_over label false h = ap (add (f (labelled label v false))) (h true true≢false) ∙ add-zero _
    left_over label true h = ap (λ n. add n (f (labelled label v true))) (h false (λ e. true≢false (sym e))) ∙ zero-add _
