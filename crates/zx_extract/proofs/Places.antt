-- Outputs by their end_vertices.
use Rattle.std.proofs.Common.{◌≡◌, refl, sym, ◌∙◌, ap, ap₂, ℕ, zero as nought, suc, ◌+◌, ◌<◌, Bool, true, false, not, ◌&&◌, ◌||◌, eqb, ne_eqb, List, [], ◌∷◌, ◌++◌, length, get_or, remove, set, take, add-one, true≢false, arith}
use Rattle.std.specs.Prelude.{slice_get, Some}
use Rattle.std.proofs.lemmas.Option.{slice_get-get_or}
use Rattle.std.proofs.Math.Seq.{take-suc}
use Rattle.zx_model.specs.Bits.{xor, member}
use Rattle.zx_model.proofs.BitLemmas.{xor-false}
use Rattle.zx_calculus.specs.Graph.{End, Graph, end_vertices, in_order, different, WellFormed, plain}
use Rattle.zx_calculus.proofs.Ids.{by_equal, and-left, and-right, member-different}
use Rattle.zx_calculus.proofs.Booleans.{and-false, and-true, or-true}
use Rattle.gflow_laws.proofs.Lists.{member-append, is_in-one}
use Rattle.circuit_laws.specs.Peeling.{HasPlainOutput, are_plain}
use Rattle.circuit_laws.proofs.Places.{first_is, one_place, apart_from, plain_end}
use Rattle.zx_extract.specs.Internal.Lists.{IsPlainAt}

-- at an output there is one vertex
pub one_vertex : (g : Graph) (q u v : ℕ) → HasPlainOutput g q u → HasPlainOutput g q v → u ≡ v
one_vertex g q u v h i = ap (λ (e : End). e.vertex) (first_is (plain u) (plain v) (sym h ∙ i))

-- a vertex holds one output
pub one_output : (g : Graph) (p q u : ℕ) → WellFormed g → HasPlainOutput g p u → HasPlainOutput g q u → p ≡ q
one_output g p q u w h i = one_place g.outputs p q (plain u) (plain u) w.outputs.one_each h i refl

-- each of the end_vertices is that of an output
pub place_of_output : (es : List End) (u : ℕ) → are_plain es ≡ true → member u (end_vertices es) ≡ true →
    (p : ℕ) × (slice_get es p ≡ Some (plain u))
place_of_output [] u all there = absurd (true≢false (sym there))
place_of_output (e ∷ es) u all there =
    by_equal u e.vertex
    (λ t same. (0, ap (λ d. Some d) (plain_end e (and-left (not e.hadamard) (are_plain es) all) ∙ ap plain (sym same))))
    (λ f n. let rest : (p : ℕ) × (slice_get es p ≡ Some (plain u)) =
    place_of_output es u (and-right (not e.hadamard) (are_plain es) all)
    (ap (λ b. b || member u (end_vertices es)) (sym f) ∙ there) in
    (suc rest.0, rest.1))

-- all ends are plain where each is
pub all_plain : (es : List End) → ((p : ℕ) → p < length es → IsPlainAt es p) → are_plain es ≡ true
all_plain [] each = refl
all_plain (e ∷ es) each =
    ap₂ (λ a b. not a && b) (each 0 (omega arith) e refl) (all_plain es (λ p within. each (suc p) (omega arith)))

-- the end_vertices after an end moved to another vertex
pub member-places_set : (es : List End) (q u v x : ℕ) → in_order different (end_vertices es) ≡ true →
    slice_get es q ≡ Some (plain u) →
    member x (end_vertices (set es q (plain v))) ≡ (eqb x v || (member x (end_vertices es) && not (eqb u x)))
member-places_set [] q u v x once h = cc
member-places_set (c ∷ es) nought u v x once h =
    ap (λ b. eqb x v || b)
    (by_equal u x
    (λ t e. absent e ∙ sym (ap (λ b. (eqb x c.vertex || member x (end_vertices es)) && not b) t
    ∙ and-false (eqb x c.vertex || member x (end_vertices es))))
    (λ f n. sym (ap₂ (λ a b. (a || member x (end_vertices es)) && not b) (ne_eqb x c.vertex (λ e. n (at_c ∙ sym e))) f
    ∙ and-true (member x (end_vertices es)))))
  where
    at_c : u ≡ c.vertex
    at_c = ap (λ (e : End). e.vertex) (sym (first_is c (plain u) h))

    absent : u ≡ x → member x (end_vertices es) ≡ false
    absent e = ap (λ y. member y (end_vertices es)) (sym e ∙ at_c) ∙ member-different c.vertex (end_vertices es) (and-left _ _ once)
member-places_set (c ∷ es) (suc q) u v x once h =
    ap (λ b. eqb x c.vertex || b) (member-places_set es q u v x (and-right _ _ once) h)
    ∙ by_equal x c.vertex
    (λ t e. ap (λ b. b || (eqb x v || (member x (end_vertices es) && not (eqb u x)))) t
    ∙ sym (ap₂ (λ a b. eqb x v || ((a || member x (end_vertices es)) && not b)) t
    (ne_eqb u x (λ same. apart_from c.vertex es q (plain u) (and-left _ _ once) h (sym (same ∙ e))))
    ∙ or-true (eqb x v)))
    (λ f n. ap (λ b. b || (eqb x v || (member x (end_vertices es) && not (eqb u x)))) f
    ∙ sym (ap (λ a. eqb x v || ((a || member x (end_vertices es)) && not (eqb u x))) f))

-- one more of the end_vertices
pub take-places : (es : List End) (i w : ℕ) → slice_get es i ≡ Some (plain w) →
    take (i + 1) (end_vertices es) ≡ take i (end_vertices es) ++ w ∷ []
take-places es i w h = rw add-one (at es i h)
  where
    at : (es : List End) (i : ℕ) → slice_get es i ≡ Some (plain w) →
        take (suc i) (end_vertices es) ≡ take i (end_vertices es) ++ w ∷ []
    at [] i h = cc
    at (e ∷ es) nought h = ap (λ x. x ∷ []) (ap (λ (d : End). d.vertex) (first_is e (plain w) h))
    at (e ∷ es) (suc i) h = ap (λ r. e.vertex ∷ r) (at es i h)

-- the end that is read at a place
pub read_at : {X : Type 0} (es fs : List X) (q i : ℕ) (e : X) → fs ≡ es → i ≡ q → q < length es → e ≡ get_or fs i e →
    slice_get es q ≡ Some e
read_at es fs q i e same place within is =
    slice_get-get_or es q e within ∙ ap Some (ap₂ (λ ds j. get_or ds j e) (sym same) (sym place) ∙ sym is)

-- an end's vertex holds no other one
pub once_removed : (es : List End) (q : ℕ) (e : End) → in_order different (end_vertices es) ≡ true →
    slice_get es q ≡ Some e → member e.vertex (end_vertices (remove es q)) ≡ false
once_removed [] q e once h = cc
once_removed (c ∷ es) nought e once h = ap (λ (d : End). member d.vertex (end_vertices es)) (sym (first_is c e h))
    ∙ member-different c.vertex (end_vertices es) (and-left _ _ once)
once_removed (c ∷ es) (suc q) e once h =
    ap₂ (λ a b. a || b) (ne_eqb e.vertex c.vertex (λ same. apart_from c.vertex es q e (and-left _ _ once) h
    (sym same))) (once_removed es q e (and-right _ _ once) h)

-- one more of the end_vertices of ends
pub places_more : (es : List End) (i : ℕ) (e : End) (v : ℕ) → i < length es → e ≡ get_or es i e → v ≡ e.vertex →
    end_vertices (take (i + 1) es) ≡ end_vertices (take i es) ++ v ∷ []
places_more es i e v within is same = rw add-one (ap end_vertices (take-suc es i e within
    ∙ ap (λ d. take i es ++ d ∷ []) (sym is)) ∙ pushed (take i es) ∙ ap (λ u. end_vertices (take i es) ++ u ∷ []) (sym same))
  where
    pushed : (ds : List End) → end_vertices (ds ++ e ∷ []) ≡ end_vertices ds ++ e.vertex ∷ []
    pushed [] = refl
    pushed (d ∷ ds) = ap (λ r. d.vertex ∷ r) (pushed ds)

-- one more end is taken out of a set
pub ends_out_more : (es : List End) (i : ℕ) (e : End) (v : ℕ) (old now new : List ℕ) → i < length es → e ≡ get_or es i e →
    v ≡ e.vertex → ((w : ℕ) → member w now ≡ (member w old && not (member w (end_vertices (take i es))))) →
    ((w : ℕ) → member w new ≡ (member w now && not (eqb w v))) →
    (w : ℕ) → member w new ≡ (member w old && not (member w (end_vertices (take (i + 1) es))))
ends_out_more es i e v old now new within is same before step w =
    step w ∙ ap (λ b. b && not (eqb w v)) (before w)
    ∙ both (member w old) (member w (end_vertices (take i es))) (eqb w v)
    ∙ sym (ap (λ b. member w old && not b) (ap (member w) (places_more es i e v within is same)
    ∙ member-append w (end_vertices (take i es)) (v ∷ [])
    ∙ ap (λ b. member w (end_vertices (take i es)) || b) (is_in-one v w)))
  where
    both : (a b c : Bool) → ((a && not b) && not c) ≡ (a && not (b || c))
    both false b c = refl
    both true true c = refl
    both true false c = refl

pub out_toggled : (v : ℕ) (now new : List ℕ) → member v now ≡ true → ((w : ℕ) → member w new ≡ xor (member w now) (eqb w v)) →
    (w : ℕ) → member w new ≡ (member w now && not (eqb w v))
out_toggled v now new there step w = step w ∙ by_equal w v
    (λ t e. ap₂ xor (ap (λ x. member x now) e ∙ there) t
    ∙ sym (ap (λ b. member w now && not b) t ∙ and-false (member w now)))
    (λ f n. ap (xor (member w now)) f ∙ xor-false (member w now) ∙ sym (ap (λ b. member w now && not b) f
    ∙ and-true (member w now)))

pub out_already : (v : ℕ) (now : List ℕ) → member v now ≡ false → (w : ℕ) → member w now ≡ (member w now && not (eqb w v))
out_already v now out w = by_equal w v
    (λ t e. ap (λ x. member x now) e ∙ out ∙ sym (ap (λ b. b && not (eqb w v)) (ap (λ x. member x now) e ∙ out)))
    (λ f n. sym (ap (λ b. member w now && not b) f ∙ and-true (member w now)))
