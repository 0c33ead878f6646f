-- Vertices of surplus ends: an end at a new vertex, its mark toggled, is the end where it was, up to a factor.
use Rattle.std.proofs.Common.{◌≡◌, ◌≢◌, refl, sym, ◌∙◌, ap, ap₂, subst, ℕ, suc, ◌+◌, ◌<◌, ◌≤◌, Bool, true, false, not, ◌&&◌, List, [], ◌∷◌, ◌++◌, length, arith}
use Rattle.std.specs.Prelude.{if◌then◌else◌}
use Rattle.zx_model.specs.Bits.{member}
use Rattle.zx_model.specs.Number.{Number, zero, one, add, mul, sign}
use Rattle.zx_model.specs.Sums.{labelled, over, sum_over}
use Rattle.zx_model.proofs.Ring.{one-mul, mul-sign, mul_assoc, sorted, one_nonzero, two_nonzero}
use Rattle.zx_model.proofs.Domain.{mul-nonzero}
use Rattle.zx_model.proofs.SumLemmas.{sum_over_same, sum_over_mul, labelled-same, labelled-other}
use Rattle.zx_calculus.specs.Graph.{End, end_vertices}
use Rattle.zx_calculus.specs.Sum.{end_factor, end_product}
use Rattle.zx_calculus.specs.Internal.Pairs.{quad}
use Rattle.zx_calculus.specs.Edits.{is_pair}
use Rattle.zx_calculus.proofs.Factors.{split_left}
use Rattle.zx_calculus.proofs.Ids.{by_test, by_equal, member-here, member-there}
use Rattle.zx_calculus.proofs.Parity.{quad-xor}
use Rattle.zx_calculus.proofs.Pairs.{quad-pair}
use Rattle.zx_calculus.proofs.Forms.{Ignores, end_product-labelled}
use Rattle.zx_calculus.proofs.Splits.{mark_toggled}
use Rattle.zx_diagram.specs.Diagram.{numbers_from}
use Rattle.graph_like.specs.LikeForm.{surplus_in, placed_in, hangs}
use Rattle.graph_like.proofs.ClassLemmas.{member-numbers_from, Distinct-numbers_from}
use Rattle.graph_like.proofs.Fusion.{quad-none}

-- all listed ones are below a number
abbrev pub AreBelow : ℕ → List ℕ → Type 0
AreBelow c vs = (v : ℕ) → member v vs ≡ true → v < c

-- the signs of the edges to new vertices
abbrev pub hang_product : ℕ → List ℕ → (ℕ → Bool) → Number
hang_product next [] label = one
hang_product next (v ∷ vs) label = mul (sign (label v && label next)) (hang_product (suc next) vs label)

pub sign_hangs : (c next m : ℕ) (vs : List ℕ) (label : ℕ → Bool) → AreBelow c vs → c ≤ next → next + length vs ≤ m →
    sign (quad (hangs next vs) (numbers_from 0 m) label) ≡ hang_product next vs label
sign_hangs c next m [] label below above room = ap sign (quad-none (numbers_from 0 m) label)
sign_hangs c next m (v ∷ vs) label below above room =
    ap sign (quad-xor (is_pair v next) (hangs (suc next) vs) (numbers_from 0 m) label)
    ∙ sym (mul-sign _ _)
    ∙ ap₂ mul
    (ap sign (quad-pair v next (numbers_from 0 m) label (Distinct-numbers_from 0 m) (λ e. absurd (omega (arith, low)))
    (member-numbers_from v 0 m (omega arith) (omega (arith, low))) (member-numbers_from next 0 m (omega arith) (omega arith))))
    (sign_hangs c (suc next) m vs label (λ w t. below w (member-there w v vs t)) (omega arith) (omega arith))
  where
    low : v < c
    low = below v (member-here v vs)

pub hang_product-append : (next : ℕ) (vs ws : List ℕ) (label : ℕ → Bool) →
    hang_product next (vs ++ ws) label ≡ mul (hang_product next vs label) (hang_product (next + length vs) ws label)
hang_product-append next [] ws label = ap (λ n. hang_product n ws label) (omega arith) ∙ sym (one-mul _)
hang_product-append next (v ∷ vs) ws label =
    ap (mul _) (hang_product-append (suc next) vs ws label ∙ ap (λ n. mul (hang_product (suc next) vs label) (hang_product n ws label)) (omega arith))
    ∙ sym (mul_assoc _ _ _)

pub hang_product-labelled : (c next : ℕ) (vs : List ℕ) (w : ℕ) (label : ℕ → Bool) (h : Bool) → AreBelow c vs → c ≤ w → w < next →
    hang_product next vs (labelled label w h) ≡ hang_product next vs label
hang_product-labelled c next [] w label h below far early = refl
hang_product-labelled c next (v ∷ vs) w label h below far early =
    ap₂ mul
    (ap₂ (λ a b. sign (a && b))
    (labelled-other label w h v (λ e. absurd (omega (arith, low))))
    (labelled-other label w h next (λ e. absurd (omega arith))))
    (hang_product-labelled c (suc next) vs w label h (λ u t. below u (member-there u v vs t)) far (omega arith))
  where
    low : v < c
    low = below v (member-here v vs)

pub surplus-below : (c : ℕ) (seen vs : List ℕ) → AreBelow c vs → AreBelow c (surplus_in seen vs)
surplus-below c seen [] below = below
surplus-below c seen (v ∷ vs) below =
    by_test (member v seen)
    (λ t. rw t (λ w there. by_equal w v (λ s e. below w (rw s refl)) (λ s n. surplus-below c seen vs rest w (rw s at there))))
    (λ t. rw t (surplus-below c (v ∷ seen) vs rest))
  where
    rest : AreBelow c vs
    rest w there = below w (member-there w v vs there)

-- an earlier number has no end behind those that are placed from `next` on
pub absent-placed : (c next : ℕ) (seen : List ℕ) (ends : List End) (w : ℕ) → AreBelow c (end_vertices ends) → c ≤ w → w < next →
    member w (end_vertices (placed_in seen next ends)) ≡ false
absent-placed c next seen [] w below far early = refl
absent-placed c next seen (e ∷ es) w below far early =
    by_test (member e.vertex seen)
    (λ t. rw t (by_equal w next (λ s q. absurd (omega arith)) (λ s n. rw s (absent-placed c (suc next) seen es w rest far (omega arith)))))
    (λ t. rw t (by_equal w e.vertex (λ s q. absurd (omega (arith, low))) (λ s n. rw s (absent-placed c next (e.vertex ∷ seen) es w rest far early))))
  where
    low : e.vertex < c
    low = below e.vertex (member-here e.vertex (end_vertices es))

    rest : AreBelow c (end_vertices es)
    rest u there = below u (member-there u e.vertex (end_vertices es) there)

-- the factors of all surplus ends
abbrev pub surplus_scale : List ℕ → List End → Number
surplus_scale seen [] = one
surplus_scale seen (e ∷ es) =
    if member e.vertex seen then mul (split_left e.hadamard) (surplus_scale seen es) else surplus_scale (e.vertex ∷ seen) es

split_left-nonzero : (m : Bool) → split_left m ≢ zero
split_left-nonzero true = one_nonzero
split_left-nonzero false = two_nonzero

pub surplus_scale-nonzero : (seen : List ℕ) (ends : List End) → surplus_scale seen ends ≢ zero
surplus_scale-nonzero seen [] = one_nonzero
surplus_scale-nonzero seen (e ∷ es) =
    by_test (member e.vertex seen)
    (λ t. rw t (mul-nonzero _ _ (split_left-nonzero e.hadamard) (surplus_scale-nonzero seen es)))
    (λ t. rw t (surplus_scale-nonzero (e.vertex ∷ seen) es))

-- a Hadamard at a bit, then at a label: twice nothing, or the other mark
split_end : (m a b : Bool) (p : Number) →
    add (mul (sign (a && false)) (mul (end_factor (not m) false b) p)) (mul (sign (a && true)) (mul (end_factor (not m) true b) p))
    ≡ mul (split_left m) (mul (end_factor m a b) p)
split_end m true b p = rw one-mul (mark_toggled m true b p)
split_end m false b p = rw one-mul (mark_toggled m false b p)

take_out : (s h f e g : Number) → mul (mul s h) (mul (mul f e) g) ≡ mul s (mul f (mul h (mul e g)))
take_out s h f e g = simp sorted

put_in : (s f h e g : Number) → mul s (mul f (mul h (mul e g))) ≡ mul s (mul h (mul e (mul f g)))
put_in s f h e g = simp sorted

pass_on : (h f e g : Number) → mul h (mul (mul f e) g) ≡ mul h (mul e (mul f g))
pass_on h f e g = simp sorted

put_back : (f e g : Number) → mul e (mul f g) ≡ mul (mul f e) g
put_back f e g = simp sorted

-- what is summed over new vertices
abbrev hung : List ℕ → ℕ → List End → List Bool → ((ℕ → Bool) → Number) → (ℕ → Bool) → Number
hung seen next ends bits g label =
    mul (hang_product next (surplus_in seen (end_vertices ends)) label) (mul (end_product (placed_in seen next ends) bits label) (g label))

abbrev kept : List End → List Bool → ((ℕ → Bool) → Number) → (ℕ → Bool) → Number
kept ends bits g label = mul (end_product ends bits label) (g label)

abbrev with_end : End → Bool → ((ℕ → Bool) → Number) → (ℕ → Bool) → Number
with_end e b g label = mul (end_factor e.hadamard (label e.vertex) b) (g label)

pub sum_out_surplus : (c next : ℕ) (seen : List ℕ) (ends : List End) (bits : List Bool) (ws : List ℕ) (g : (ℕ → Bool) → Number) →
    length bits ≡ length ends → AreBelow c (end_vertices ends) → c ≤ next →
    ((w : ℕ) → next ≤ w → w < next + length (surplus_in seen (end_vertices ends)) → Ignores g w) →
    sum_over (numbers_from next (length (surplus_in seen (end_vertices ends))) ++ ws) (hung seen next ends bits g)
    ≡ mul (surplus_scale seen ends) (sum_over ws (kept ends bits g))
sum_out_surplus c next seen [] bits ws g long below above ignores =
    sum_over_same ws _ (kept [] bits g) (λ label. one-mul _) ∙ sym (one-mul _)
sum_out_surplus c next seen (e ∷ es) [] ws g long below above ignores = absurd (omega arith)
sum_out_surplus c next seen (e ∷ es) (b ∷ bits) ws g long below above ignores =
    by_test (member e.vertex seen)
    (λ t.
    let quiet : (w : ℕ) → next ≤ w → w < next + suc (length (surplus_in seen vs)) → Ignores g w = rw t at ignores in
    subst by_choice (sym t) (moved (quiet next (omega arith) (omega arith))
    (sum_out_surplus c (suc next) seen es bits ws (with_end e b g) long_rest rest (omega arith)
    (λ w from to. ignored w (omega arith) (quiet w (omega arith) (omega arith))))))
    (λ t.
    let quiet : (w : ℕ) → next ≤ w → w < next + length (surplus_in (e.vertex ∷ seen) vs) → Ignores g w = rw t at ignores in
    subst by_choice (sym t) (stays
    (sum_out_surplus c next (e.vertex ∷ seen) es bits ws (with_end e b g) long_rest rest above
    (λ w from to. ignored w (omega arith) (quiet w from to)))))
  where
    vs : List ℕ
    vs = end_vertices es

    -- the claim, whether or not the first end is surplus
    by_choice : Bool → Type 0
    by_choice surplus =
        sum_over (numbers_from next (length (vertices surplus)) ++ ws)
        (λ label. mul (hang_product next (vertices surplus) label) (mul (end_product (ends surplus) (b ∷ bits) label) (g label)))
        ≡ mul (scale surplus) (sum_over ws (kept (e ∷ es) (b ∷ bits) g))
      where
        vertices : Bool → List ℕ
        vertices surplus = if surplus then e.vertex ∷ surplus_in seen vs else surplus_in (e.vertex ∷ seen) vs

        ends : Bool → List End
        ends surplus =
            if surplus then record { vertex = next; hadamard = not e.hadamard } ∷ placed_in seen (suc next) es
            else e ∷ placed_in (e.vertex ∷ seen) next es

        scale : Bool → Number
        scale surplus =
            if surplus then mul (split_left e.hadamard) (surplus_scale seen es) else surplus_scale (e.vertex ∷ seen) es

    low : e.vertex < c
    low = below e.vertex (member-here e.vertex vs)

    rest : AreBelow c vs
    rest u there = below u (member-there u e.vertex vs there)

    long_rest : length bits ≡ length es
    long_rest = omega arith

    ignored : (w : ℕ) → c ≤ w → Ignores g w → Ignores (with_end e b g) w
    ignored w far quiet label h =
        ap₂ (λ a n. mul (end_factor e.hadamard a b) n) (labelled-other label w h e.vertex (λ q. absurd (omega (arith, low)))) (quiet label h)

    back : (scale : Number) → mul scale (sum_over ws (kept es bits (with_end e b g))) ≡ mul scale (sum_over ws (kept (e ∷ es) (b ∷ bits) g))
    back scale = ap (mul scale) (sum_over_same ws _ _ (λ label. put_back _ _ _))

    stays : sum_over (numbers_from next (length (surplus_in (e.vertex ∷ seen) vs)) ++ ws) (hung (e.vertex ∷ seen) next es bits (with_end e b g))
        ≡ mul (surplus_scale (e.vertex ∷ seen) es) (sum_over ws (kept es bits (with_end e b g))) →
        sum_over (numbers_from next (length (surplus_in (e.vertex ∷ seen) vs)) ++ ws)
        (λ label. mul (hang_product next (surplus_in (e.vertex ∷ seen) vs) label)
        (mul (mul (end_factor e.hadamard (label e.vertex) b) (end_product (placed_in (e.vertex ∷ seen) next es) bits label)) (g label)))
        ≡ mul (surplus_scale (e.vertex ∷ seen) es) (sum_over ws (kept (e ∷ es) (b ∷ bits) g))
    stays again =
        sum_over_same (numbers_from next (length (surplus_in (e.vertex ∷ seen) vs)) ++ ws) _ (hung (e.vertex ∷ seen) next es bits (with_end e b g)) (λ label. pass_on _ _ _ _)
        ∙ again
        ∙ back (surplus_scale (e.vertex ∷ seen) es)

    moved_term : (ℕ → Bool) → Number
    moved_term label =
        mul (mul (sign (label e.vertex && label next)) (hang_product (suc next) (surplus_in seen vs) label))
        (mul (mul (end_factor (not e.hadamard) (label next) b) (end_product (placed_in seen (suc next) es) bits label)) (g label))

    moved : Ignores g next → sum_over (numbers_from (suc next) (length (surplus_in seen vs)) ++ ws) (hung seen (suc next) es bits (with_end e b g))
        ≡ mul (surplus_scale seen es) (sum_over ws (kept es bits (with_end e b g))) →
        sum_over (numbers_from (suc next) (length (surplus_in seen vs)) ++ ws) (over next moved_term)
        ≡ mul (mul (split_left e.hadamard) (surplus_scale seen es)) (sum_over ws (kept (e ∷ es) (b ∷ bits) g))
    moved quiet again =
        sum_over_same all _ (λ label. mul (split_left e.hadamard) (hung seen (suc next) es bits (with_end e b g) label))
        (λ label. ap₂ add (at label false) (at label true) ∙ split_end e.hadamard (label e.vertex) b (inner label) ∙ put_in _ _ _ _ _)
        ∙ sum_over_mul (split_left e.hadamard) all (hung seen (suc next) es bits (with_end e b g))
        ∙ ap (mul (split_left e.hadamard)) again
        ∙ sym (mul_assoc _ _ _)
        ∙ back (mul (split_left e.hadamard) (surplus_scale seen es))
      where
        all : List ℕ
        all = numbers_from (suc next) (length (surplus_in seen vs)) ++ ws

        inner : (ℕ → Bool) → Number
        inner label = mul (hang_product (suc next) (surplus_in seen vs) label) (mul (end_product (placed_in seen (suc next) es) bits label) (g label))

        at : (label : ℕ → Bool) (h : Bool) → moved_term (labelled label next h)
            ≡ mul (sign (label e.vertex && h)) (mul (end_factor (not e.hadamard) h b) (inner label))
        at label h =
            ap₂ mul
            (ap₂ mul
            (ap₂ (λ p q. sign (p && q)) (labelled-other label next h e.vertex (λ q. absurd (omega (arith, low)))) (labelled-same label next h))
            (hang_product-labelled c (suc next) (surplus_in seen vs) next label h (surplus-below c seen vs rest) above (omega arith)))
            (ap₂ mul
            (ap₂ mul (ap (λ q. end_factor (not e.hadamard) q b) (labelled-same label next h))
            (end_product-labelled next (placed_in seen (suc next) es) bits label h (absent-placed c (suc next) seen es next rest above (omega arith))))
            (quiet label h))
            ∙ take_out _ _ _ _ _
