-- A function of the output bits as one of the labels at the outputs, and what gates make of it there.
use Rattle.std.proofs.Common.{◌≡◌, sym, ◌∙◌, ap, ap₂, subst, refl, ℕ, zero as nought, suc, Bool, true, false, ◌&&◌, List, [], ◌∷◌, map, length, set, true≢false}
use Rattle.std.specs.Prelude.{slice_get, Some}
use Rattle.zx_model.specs.Bits.{xor, bit, member}
use Rattle.zx_model.specs.Number.{Number, add, mul, sign}
use Rattle.zx_model.specs.Sums.{total, all_labels, labelled}
use Rattle.zx_model.proofs.Ring.{expand, sorted, mul_assoc, one-mul}
use Rattle.zx_model.proofs.SumLemmas.{labelled-same, labelled-other, sum_over_same}
use Rattle.zx_calculus.specs.Internal.Pairs.{quad}
use Rattle.zx_calculus.specs.Graph.{End, Graph, ids, joined, end_vertices, in_order, different, WellFormed, plain}
use Rattle.zx_calculus.specs.Sum.{spider, vertex_product, end_factor, end_product}
use Rattle.zx_calculus.proofs.Ids.{by_equal, or-left, or-right, and-left, and-right, member-different}
use Rattle.zx_calculus.proofs.Forms.{form, value, at_ends, sum_is_form}
use Rattle.zx_gates.specs.Maps.{act, phase}
use Rattle.zx_gates.specs.declared.gate.Gate.TheVariants.{H, Phase, Cz, Cx}
use Rattle.zx_gates.proofs.MapLemmas.{act-phase}
use Rattle.circuit_laws.specs.Followed.{followed}
use Rattle.circuit_laws.proofs.Totals.{total-map_mul, total_split, total-sum_over}
use Rattle.circuit_laws.proofs.Places.{first_is, slice_get-set, apart_from}

-- over both bits of each output, the ends' factors times f of the bits
abbrev pub leave : List End → (List Bool → Number) → (ℕ → Bool) → Number
leave [] f label = f []
leave (e ∷ es) f label =
    add (mul (end_factor e.hadamard (label e.vertex) false) (leave es (λ z. f (false ∷ z)) label))
    (mul (end_factor e.hadamard (label e.vertex) true) (leave es (λ z. f (true ∷ z)) label))

-- the inputs' factors and what follows the outputs
abbrev pub around : List End → List End → List Bool → (List Bool → Number) → (ℕ → Bool) → Number
around inputs outputs x f label = mul (end_product inputs x label) (leave outputs f label)

total-end_product : (es : List End) (f : List Bool → Number) (label : ℕ → Bool) →
    total (map (λ y. mul (end_product es y label) (f y)) (all_labels (length es))) ≡ leave es f label
total-end_product [] f label = simp expand
total-end_product (e ∷ es) f label =
    total_split (length es) (λ y. mul (end_product (e ∷ es) y label) (f y))
    ∙ ap₂ add (at false (total-end_product es (λ z. f (false ∷ z)) label)) (at true (total-end_product es (λ z. f (true ∷ z)) label))
  where
    at : (b : Bool) →
        total (map (λ y. mul (end_product es y label) (f (b ∷ y))) (all_labels (length es))) ≡ leave es (λ z. f (b ∷ z)) label
        → total (map (λ y. mul (mul (end_factor e.hadamard (label e.vertex) b) (end_product es y label)) (f (b ∷ y))) (all_labels (length es)))
        ≡ mul (end_factor e.hadamard (label e.vertex) b) (leave es (λ z. f (b ∷ z)) label)
    at b again =
        ap (λ (h : List Bool → Number). total (map h (all_labels (length es)))) (λ i y. mul_assoc (end_factor e.hadamard (label e.vertex) b) (end_product es y label) (f (b ∷ y)) i)
        ∙ total-map_mul (end_factor e.hadamard (label e.vertex) b) (λ y. mul (end_product es y label) (f (b ∷ y))) (all_labels (length es))
        ∙ ap (mul (end_factor e.hadamard (label e.vertex) b)) again

to_the_left : (p q i o f : Number) → mul (mul p (mul q (mul i o))) f ≡ mul (mul p (mul q i)) (mul o f)
to_the_left p q i o f = simp sorted

back_again : (p q i o : Number) → mul (mul p (mul q i)) o ≡ mul p (mul q (mul i o))
back_again p q i o = simp sorted

-- a graph that is followed is a form
pub followed_is_form : (g : Graph) (f : List Bool → Number) (x : List Bool) → WellFormed g →
    followed g f x ≡ form (joined g.edges) (around g.inputs g.outputs x f) g.vertices
followed_is_form g f x w =
    ap (λ (s : List Bool → Number). total (map (λ y. mul (s y) (f y)) (all_labels (length g.outputs)))) (λ i y. sum_is_form g x y w i)
    ∙ total-sum_over (ids g.vertices) (λ y. value (joined g.edges) (at_ends g.inputs g.outputs x y) g.vertices) f (all_labels (length g.outputs))
    ∙ sum_over_same (ids g.vertices) _ _ at
  where
    at : (label : ℕ → Bool) →
        total (map (λ y. mul (value (joined g.edges) (at_ends g.inputs g.outputs x y) g.vertices label) (f y)) (all_labels (length g.outputs)))
        ≡ value (joined g.edges) (around g.inputs g.outputs x f) g.vertices label
    at label =
        ap (λ (h : List Bool → Number). total (map h (all_labels (length g.outputs))))
        (λ i y. to_the_left (vertex_product g.vertices label) (sign (quad (joined g.edges) (ids g.vertices) label)) (end_product g.inputs x label) (end_product g.outputs y label) (f y) i)
        ∙ total-map_mul (mul (vertex_product g.vertices label) (mul (sign (quad (joined g.edges) (ids g.vertices) label)) (end_product g.inputs x label))) (λ y. mul (end_product g.outputs y label) (f y)) (all_labels (length g.outputs))
        ∙ ap (mul (mul (vertex_product g.vertices label) (mul (sign (quad (joined g.edges) (ids g.vertices) label)) (end_product g.inputs x label)))) (total-end_product g.outputs f label)
        ∙ back_again _ _ _ _

-- ---- linear in f
pub leave-mul : (es : List End) (c : Number) (f : List Bool → Number) (label : ℕ → Bool) →
    leave es (λ z. mul c (f z)) label ≡ mul c (leave es f label)
leave-mul [] c f label = refl
leave-mul (e ∷ es) c f label =
    ap₂ (λ p q. add (mul (end_factor e.hadamard (label e.vertex) false) p) (mul (end_factor e.hadamard (label e.vertex) true) q))
    (leave-mul es c (λ z. f (false ∷ z)) label) (leave-mul es c (λ z. f (true ∷ z)) label)
    ∙ out _ _ _ _ _
  where
    out : (s t c p q : Number) → add (mul s (mul c p)) (mul t (mul c q)) ≡ mul c (add (mul s p) (mul t q))
    out s t c p q = simp expand

pub leave-add : (es : List End) (f g : List Bool → Number) (label : ℕ → Bool) →
    leave es (λ z. add (f z) (g z)) label ≡ add (leave es f label) (leave es g label)
leave-add [] f g label = refl
leave-add (e ∷ es) f g label =
    ap₂ (λ p q. add (mul (end_factor e.hadamard (label e.vertex) false) p) (mul (end_factor e.hadamard (label e.vertex) true) q))
    (leave-add es (λ z. f (false ∷ z)) (λ z. g (false ∷ z)) label) (leave-add es (λ z. f (true ∷ z)) (λ z. g (true ∷ z)) label)
    ∙ apart _ _ _ _ _ _
  where
    apart : (s t a b c d : Number) →
        add (mul s (add a b)) (mul t (add c d)) ≡ add (add (mul s a) (mul t c)) (add (mul s b) (mul t d))
    apart s t a b c d = simp expand

-- ---- a plain output
-- of the two bits at a plain output one is left, the label
pub picked : (l : Bool) (h : Bool → Number) →
    add (mul (end_factor false l false) (h false)) (mul (end_factor false l true) (h true)) ≡ h l
picked false h = simp expand
picked true h = simp expand

-- what is done by the bit of a plain output is done by its label
pub leave-bit : (es : List End) (q u : ℕ) (F : Bool → List Bool → Number) (label : ℕ → Bool) →
    slice_get es q ≡ Some (plain u) → leave es (λ z. F (bit z q) z) label ≡ leave es (F (label u)) label
leave-bit [] q u F label h = cc
leave-bit (e ∷ es) nought u F label h =
    subst (λ d. leave (d ∷ es) (λ z. F (bit z 0) z) label ≡ leave (d ∷ es) (F (label u)) label) (sym (first_is e (plain u) h))
    (picked (label u) (λ b. leave es (λ z. F b (b ∷ z)) label) ∙ sym (picked (label u) (λ b. leave es (λ z. F (label u) (b ∷ z)) label)))
leave-bit (e ∷ es) (suc q) u F label h =
    ap₂ (λ s t. add (mul (end_factor e.hadamard (label e.vertex) false) s) (mul (end_factor e.hadamard (label e.vertex) true) t))
    (leave-bit es q u (λ b z. F b (false ∷ z)) label h) (leave-bit es q u (λ b z. F b (true ∷ z)) label h)

-- the label of a vertex that holds none of the ends doesn't matter
pub leave-labelled : (es : List End) (u : ℕ) (f : List Bool → Number) (label : ℕ → Bool) (b : Bool) →
    member u (end_vertices es) ≡ false → leave es f (labelled label u b) ≡ leave es f label
leave-labelled [] u f label b absent = refl
leave-labelled (e ∷ es) u f label b absent =
    ap₂ (λ l (p : Bool → Number). add (mul (end_factor e.hadamard l false) (p false)) (mul (end_factor e.hadamard l true) (p true)))
    (labelled-other label u b e.vertex (λ q. by_equal u e.vertex (λ t s. true≢false (sym t ∙ or-left _ _ absent)) (λ f n. n (sym q))))
    (λ i c. leave-labelled es u (λ z. f (c ∷ z)) label b (or-right _ _ absent) i)

-- a bit that is written after a plain output may be its label instead
pub leave-set : (es : List End) (q u : ℕ) (f : List Bool → Number) (label : ℕ → Bool) (b : Bool) →
    in_order different (end_vertices es) ≡ true → slice_get es q ≡ Some (plain u) →
    leave es (λ z. f (set z q b)) label ≡ leave es f (labelled label u b)
leave-set [] q u f label b once h = cc
leave-set (e ∷ es) nought u f label b once h =
    subst (λ d. list_of d → leave (d ∷ es) (λ z. f (set z 0 b)) label ≡ leave (d ∷ es) f (labelled label u b)) (sym (first_is e (plain u) h)) at once
  where
    list_of : End → Type 0
    list_of d = in_order different (end_vertices (d ∷ es)) ≡ true

    at : in_order different (end_vertices (plain u ∷ es)) ≡ true →
        leave (plain u ∷ es) (λ z. f (set z 0 b)) label ≡ leave (plain u ∷ es) f (labelled label u b)
    at o =
        picked (label u) (λ c. leave es (λ z. f (b ∷ z)) label)
        ∙ sym (leave-labelled es u (λ z. f (b ∷ z)) label b (member-different u (end_vertices es) (and-left _ _ o)))
        ∙ sym (picked b (λ c. leave es (λ z. f (c ∷ z)) (labelled label u b)))
        ∙ ap (λ l. add (mul (end_factor false l false) (leave es (λ z. f (false ∷ z)) (labelled label u b))) (mul (end_factor false l true) (leave es (λ z. f (true ∷ z)) (labelled label u b)))) (sym (labelled-same label u b))
leave-set (e ∷ es) (suc q) u f label b once h =
    ap₂ (λ l (p : Bool → Number). add (mul (end_factor e.hadamard l false) (p false)) (mul (end_factor e.hadamard l true) (p true)))
    (sym (labelled-other label u b e.vertex (apart_from e.vertex es q (plain u) (and-left _ _ once) h)))
    (λ i c. leave-set es q u (λ z. f (c ∷ z)) label b (and-right _ _ once) h i)

-- ---- gates at plain outputs
phase_is : (k : ℕ) (b : Bool) → phase k b b ≡ spider k b
phase_is k false = refl
phase_is k true = refl

pub leave-phase : (es : List End) (q u k : ℕ) (f : List Bool → Number) (label : ℕ → Bool) →
    slice_get es q ≡ Some (plain u) → leave es (act (Phase q k) f) label ≡ mul (spider k (label u)) (leave es f label)
leave-phase es q u k f label h =
    ap (λ (g : List Bool → Number). leave es g label) (λ i z. act-phase q k f z i)
    ∙ leave-bit es q u (λ b z. mul (phase k b b) (f z)) label h
    ∙ leave-mul es (phase k (label u) (label u)) f label
    ∙ ap (λ c. mul c (leave es f label)) (phase_is k (label u))

pub leave-cz : (es : List End) (p q u v : ℕ) (f : List Bool → Number) (label : ℕ → Bool) →
    slice_get es p ≡ Some (plain u) → slice_get es q ≡ Some (plain v) →
    leave es (act (Cz p q) f) label ≡ mul (sign (label u && label v)) (leave es f label)
leave-cz es p q u v f label h i =
    leave-bit es p u (λ b z. mul (sign (b && bit z q)) (f z)) label h
    ∙ leave-bit es q v (λ b z. mul (sign (label u && b)) (f z)) label i
    ∙ leave-mul es (sign (label u && label v)) f label

pub leave-cx : (es : List End) (c t u v : ℕ) (f : List Bool → Number) (label : ℕ → Bool) →
    in_order different (end_vertices es) ≡ true → slice_get es c ≡ Some (plain u) → slice_get es t ≡ Some (plain v) →
    leave es (act (Cx c t) f) label ≡ leave es f (labelled label v (xor (label u) (label v)))
leave-cx es c t u v f label once h i =
    leave-bit es c u (λ b z. f (set z t (xor b (bit z t)))) label h
    ∙ leave-bit es t v (λ b z. f (set z t (xor (label u) b))) label i
    ∙ leave-set es t v f label (xor (label u) (label v)) once i

-- the two terms of H
mixed_terms : (b : Bool) (s t : Number) →
    add (mul (sign (false && b)) s) (mul (sign (true && b)) t) ≡ add s (mul (sign b) t)
mixed_terms b s t = ap (λ r. add r (mul (sign b) t)) (one-mul s)

pub leave-h_bits : (es : List End) (q u : ℕ) (f : List Bool → Number) (label : ℕ → Bool) →
    slice_get es q ≡ Some (plain u) →
    leave es (act (H q) f) label ≡ add (leave es (λ z. f (set z q false)) label) (mul (sign (label u)) (leave es (λ z. f (set z q true)) label))
leave-h_bits es q u f label h =
    ap (λ (g : List Bool → Number). leave es g label) (λ i z. mixed_terms (bit z q) (f (set z q false)) (f (set z q true)) i)
    ∙ leave-bit es q u (λ b z. add (f (set z q false)) (mul (sign b) (f (set z q true)))) label h
    ∙ leave-add es (λ z. f (set z q false)) (λ z. mul (sign (label u)) (f (set z q true))) label
    ∙ ap (add (leave es (λ z. f (set z q false)) label)) (leave-mul es (sign (label u)) (λ z. f (set z q true)) label)

pub leave-h : (es : List End) (q u : ℕ) (f : List Bool → Number) (label : ℕ → Bool) →
    in_order different (end_vertices es) ≡ true → slice_get es q ≡ Some (plain u) →
    leave es (act (H q) f) label ≡ add (leave es f (labelled label u false)) (mul (sign (label u)) (leave es f (labelled label u true)))
leave-h es q u f label once h =
    leave-h_bits es q u f label h
    ∙ ap₂ (λ s t. add s (mul (sign (label u)) t)) (leave-set es q u f label false once h) (leave-set es q u f label true once h)

-- ---- a Hadamard mark
pub leave-marked : (es : List End) (q u : ℕ) (f : List Bool → Number) (label : ℕ → Bool) →
    slice_get es q ≡ Some (record { vertex = u; hadamard = true }) →
    leave es f label ≡ leave (set es q (plain u)) (act (H q) f) label
leave-marked es q u f label h =
    bits es q f h ∙ sym (leave-h_bits (set es q (plain u)) q u f label (slice_get-set es q (record { vertex = u; hadamard = true }) (plain u) h))
  where
    two_terms : (l : Bool) (s t : Number) →
        add (mul (sign (l && false)) s) (mul (sign (l && true)) t) ≡ add s (mul (sign l) t)
    two_terms false s t = simp expand
    two_terms true s t = simp expand

    apart : (m n s a b c d : Number) →
        add (mul m (add a (mul s b))) (mul n (add c (mul s d))) ≡ add (add (mul m a) (mul n c)) (mul s (add (mul m b) (mul n d)))
    apart m n s a b c d = simp expand

    bits : (es : List End) (q : ℕ) (f : List Bool → Number) →
        slice_get es q ≡ Some (record { vertex = u; hadamard = true }) →
        leave es f label ≡ add (leave (set es q (plain u)) (λ z. f (set z q false)) label) (mul (sign (label u)) (leave (set es q (plain u)) (λ z. f (set z q true)) label))
    bits [] q f h = cc
    bits (e ∷ es) nought f h =
        subst (λ d. leave (d ∷ es) f label ≡ add (leave (plain u ∷ es) (λ z. f (set z 0 false)) label) (mul (sign (label u)) (leave (plain u ∷ es) (λ z. f (set z 0 true)) label)))
        (sym (first_is e (record { vertex = u; hadamard = true }) h))
        (two_terms (label u) _ _
        ∙ sym (ap₂ (λ s t. add s (mul (sign (label u)) t)) (picked (label u) (λ b. leave es (λ z. f (false ∷ z)) label)) (picked (label u) (λ b. leave es (λ z. f (true ∷ z)) label))))
    bits (e ∷ es) (suc q) f h =
        ap₂ (λ s t. add (mul (end_factor e.hadamard (label e.vertex) false) s) (mul (end_factor e.hadamard (label e.vertex) true) t))
        (bits es q (λ z. f (false ∷ z)) h) (bits es q (λ z. f (true ∷ z)) h)
        ∙ apart _ _ _ _ _ _ _
