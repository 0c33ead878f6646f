-- Turns done twice, and planes and phases changed twice.
use Rattle.std.proofs.Common.{◌≡◌, ◌≢◌, refl, sym, ◌∙◌, ap, ap₂, ℕ, ◌<◌, Bool, true, List, [], ◌∷◌, ltb-true, arith}
use Rattle.zx_model.specs.Phase.{turn, sum_of_phases, half_turn, opposite_phase, quarter_turn}
use Rattle.zx_model.specs.Bits.{xor}
use Rattle.zx_model.proofs.BitLemmas.{expand as expand_bits}
use Rattle.zx_calculus.specs.Turns.{half_turned, in_plane, half_turned_in, quarter_turned, quarter_turned_in, pivoted, pivoted_in}
use Rattle.zx_calculus.specs.Edits.{KeepsEnds}
use Rattle.zx_calculus.specs.Graph.{Kind, YZ, Plane, XY, XZ, Graph, Vertex, with_kinds}
use Rattle.zx_calculus.proofs.Ids.{by_equal, Symmetric, and-right, and-left}
use Rattle.zx_calculus.proofs.Vertices.{all_below_a_turn}

half_back : (k : ℕ) → k < turn → sum_of_phases (sum_of_phases k half_turn) half_turn ≡ k
half_back k h = omega arith

opposite_back : (k : ℕ) → k < turn → opposite_phase (opposite_phase k) ≡ k
opposite_back k h = omega arith

pub half_turned_in-twice : (plane : Plane) (k : ℕ) → k < turn → half_turned (half_turned_in plane k) ≡ in_plane plane k
half_turned_in-twice XY k h = ap (in_plane XY) (half_back k h)
half_turned_in-twice XZ k h = ap (in_plane XZ) (opposite_back k h)
half_turned_in-twice YZ k h = ap (in_plane YZ) (opposite_back k h)

pub half_turned-half_turned : (kind : Kind) → kind.phase < turn → half_turned (half_turned kind) ≡ kind
half_turned-half_turned kind h = half_turned_in-twice kind.plane kind.phase h

quarter_turned-twice_in : (plane : Plane) (k : ℕ) → quarter_turned (quarter_turned_in plane k) ≡ half_turned_in plane k
quarter_turned-twice_in XY k = ap (in_plane XY) (omega arith)
quarter_turned-twice_in XZ k = refl
quarter_turned-twice_in YZ k = refl

pub quarter_turned-quarter_turned : (kind : Kind) → quarter_turned (quarter_turned kind) ≡ half_turned kind
quarter_turned-quarter_turned kind = quarter_turned-twice_in kind.plane kind.phase

quarter_back : (k : ℕ) → k < turn → sum_of_phases quarter_turn (opposite_phase (sum_of_phases quarter_turn (opposite_phase k))) ≡ k
quarter_back k h = omega arith

pub pivoted_in-twice : (plane : Plane) (k : ℕ) → k < turn → pivoted (pivoted_in plane k) ≡ in_plane plane k
pivoted_in-twice XY k h = refl
pivoted_in-twice XZ k h = ap (in_plane XZ) (quarter_back k h)
pivoted_in-twice YZ k h = refl

pub pivoted-pivoted : (kind : Kind) → kind.phase < turn → pivoted (pivoted kind) ≡ kind
pivoted-pivoted kind h = pivoted_in-twice kind.plane kind.phase h

-- two adjacencies agree where they do at u, at v and elsewhere
pub agree : (u v : ℕ) (a b : ℕ → ℕ → Bool) → Symmetric a → Symmetric b → a u v ≡ b u v → ((q : ℕ) → q ≢ u → q ≢ v → a u q ≡ b u q) → ((q : ℕ) → q ≢ u → q ≢ v → a v q ≡ b v q) →
    ((p q : ℕ) → p ≢ u → p ≢ v → q ≢ u → q ≢ v → p ≢ q → a p q ≡ b p q) → (p q : ℕ) → p ≢ q → a p q ≡ b p q
agree u v a b s t together at_u at_v between p q n =
    by_equal p u
    (λ e eu. by_equal q v (λ e' ev. ap₂ a eu ev ∙ together ∙ sym (ap₂ b eu ev))
    (λ f nv. ap (λ w. a w q) eu ∙ at_u q (λ e'. n (eu ∙ sym e')) nv ∙ ap (λ w. b w q) (sym eu)))
    (λ f nu. by_equal p v
    (λ e ev. by_equal q u (λ e' eu. s p q ∙ ap₂ a eu ev ∙ together ∙ sym (ap₂ b eu ev) ∙ t q p)
    (λ f mu. ap (λ w. a w q) ev ∙ at_v q mu (λ e'. n (ev ∙ sym e')) ∙ ap (λ w. b w q) (sym ev)))
    (λ f' nv. by_equal q u
    (λ e eu. s p q ∙ ap (λ w. a w p) eu ∙ at_u p nu nv ∙ ap (λ w. b w p) (sym eu) ∙ t q p)
    (λ f mu. by_equal q v
    (λ e ev. s p q ∙ ap (λ w. a w p) ev ∙ at_v p nu nv ∙ ap (λ w. b w p) (sym ev) ∙ t q p)
    (λ f mv. between p q nu nv mu mv n))))

pub same_graph : (h g : Graph) → h.vertices ≡ g.vertices → h.edges ≡ g.edges → KeepsEnds g h → h ≡ g
same_graph h g vertices edges frame = λ i. record { vertices = vertices i; edges = edges i; inputs = frame.inputs i; outputs = frame.outputs i }

pub with_kinds-with_kinds : (f g : ℕ → Kind → Kind) (vs : List Vertex) → with_kinds f (with_kinds g vs) ≡ with_kinds (λ p k. f p (g p k)) vs
with_kinds-with_kinds f g [] = refl
with_kinds-with_kinds f g (v ∷ vs) = ap (λ r. record { id = v.id; kind = f v.id (g v.id v.kind) } ∷ r) (with_kinds-with_kinds f g vs)

-- a change that keeps each kind with a phase below a turn
pub with_kinds-kept : (f : ℕ → Kind → Kind) (vs : List Vertex) → all_below_a_turn vs ≡ true → ((p : ℕ) (k : Kind) → k.phase < turn → f p k ≡ k) → with_kinds f vs ≡ vs
with_kinds-kept f [] below h = refl
with_kinds-kept f (v ∷ vs) below h =
    ap₂ (λ k r. record { id = v.id; kind = k } ∷ r) (h v.id v.kind (ltb-true v.kind.phase turn (and-left _ _ below))) (with_kinds-kept f vs (and-right _ _ below) h)

pub toggled_back : (r x : Bool) → xor (xor r x) x ≡ r
toggled_back r x = simp expand_bits
