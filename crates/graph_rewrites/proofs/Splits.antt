-- The ends of a side, and the split of one of them.
use Rattle.std.proofs.Common.{◌≡◌, refl, sym, ◌∙◌, ap, subst, not, ℕ, zero, suc, ◌<◌, true, false, ◌||◌, eqb, eq-eqb, List, [], ◌∷◌, length, set, slice_get, get_or, Some}
use Rattle.std.proofs.lemmas.Option.{slice_get-get_or, slice_get_within, same_Some}
use Rattle.zx_model.specs.Bits.{member}
use Rattle.zx_calculus.specs.Graph.{End, Graph, end_vertices, in_order, different, IsVertex, OrderedEnds, WellFormed}
use Rattle.zx_calculus.specs.Splits.{mark_of, move_end, new_vertex, IsSplitInput, IsSplitOutput}
use Rattle.zx_calculus.specs.Steps.{allowed, IsStep}
use Rattle.zx_calculus.specs.StepScalars.{step_scalar}
use Rattle.zx_calculus.specs.Splits.{split_scalar}
use Rattle.zx_calculus.specs.Edits.{KeepsEnds}
use Rattle.zx_calculus.proofs.Edits.{set-move_end}
use Rattle.zx_calculus.proofs.Ids.{and-left, and-right, eqb_comm, not-true, member-there}
use Rattle.zx_calculus.proofs.Splitting.{all_at}
use Rattle.open_graph.proofs.PlaceLemmas.{slice_get-places}
use Rattle.open_graph.specs.declared.side.Side.{Side}
use Rattle.open_graph.specs.declared.side.Side.TheVariants.{Input, Output}
use Rattle.open_graph.specs.Sides.{ends_of, with_ends}
use Rattle.graph_rewrites.specs.Internal.Sides.{split_of}
use Rattle.graph_rewrites.specs.Internal.Spiders.{IsSpiderAdded}
use Rattle.graph_rewrites.proofs.Spiders.{end_live}

pub allowed_is : (side : Side) (g : Graph) (b : ℕ) → allowed g (split_of side b) ≡ member b (end_vertices (ends_of side g))
allowed_is Input g b = refl
allowed_is Output g b = refl

pub scalar_is : (side : Side) (g : Graph) (b : ℕ) → step_scalar g (split_of side b) ≡ split_scalar (mark_of (ends_of side g) b)
scalar_is Input g b = refl
scalar_is Output g b = refl

pub ends_ordered : (side : Side) (g : Graph) → WellFormed g → OrderedEnds g.vertices (ends_of side g)
ends_ordered Input g w = w.inputs
ends_ordered Output g w = w.outputs

pub ends_kept : (side : Side) (g h : Graph) → KeepsEnds g h → ends_of side h ≡ ends_of side g
ends_kept Input g h kept = kept.inputs
ends_kept Output g h kept = kept.outputs

-- the vertex of an end that may be split is live
pub split_live : (side : Side) (g : Graph) (b : ℕ) → WellFormed g → allowed g (split_of side b) ≡ true → IsVertex g b
split_live side g b w may = end_live g (ends_of side g) b (ends_ordered side g w) (sym (allowed_is side g b) ∙ may)

-- ---- the end at b, and its place
length-places : (ends : List End) → length (end_vertices ends) ≡ length ends
length-places [] = refl
length-places (e ∷ es) = ap (λ n. suc n) (length-places es)

-- the place of an end is in range
pub place_within : (ends : List End) (i b : ℕ) → slice_get (end_vertices ends) i ≡ Some b → i < length ends
place_within ends i b found = subst (λ n. i < n) (length-places ends) (slice_get_within (end_vertices ends) i b found)

-- the end at its place, written back at the new vertex
pub end_moved : (ends : List End) (i b new : ℕ) (e d : End) → in_order different (end_vertices ends) ≡ true → slice_get (end_vertices ends) i ≡ Some b → e ≡ get_or ends i e →
    d ≡ record { vertex = new; hadamard = not e.hadamard } → set ends i d ≡ move_end b new ends
end_moved ends i b new e d once found read written =
    let here : slice_get ends i ≡ Some e = slice_get-get_or ends i e (place_within ends i b found) ∙ ap Some (sym read) in
    let same : e.vertex ≡ b = same_Some e.vertex b (sym (slice_get-places ends i e here) ∙ found) in
    ap (λ c. set ends i c) written ∙ set-move_end ends i e new once here ∙ ap (λ v. move_end v new ends) same

found_there : (ends : List End) (i : ℕ) (e : End) → slice_get ends i ≡ Some e → member e.vertex (end_vertices ends) ≡ true
found_there [] i e found = cc
found_there (d ∷ ds) zero e found =
    let same : d ≡ e = cc in
    ap (λ b. b || member e.vertex (end_vertices ds)) (eq-eqb e.vertex d.vertex (ap (λ x. x.vertex) (sym same)))
found_there (d ∷ ds) (suc i) e found = member-there e.vertex d.vertex (end_vertices ds) (found_there ds i e found)

-- its mark
mark_at : (ends : List End) (i : ℕ) (e : End) → in_order different (end_vertices ends) ≡ true → slice_get ends i ≡ Some e → mark_of ends e.vertex ≡ e.hadamard
mark_at [] i e o found = cc
mark_at (d ∷ ds) zero e o found =
    let same : d ≡ e = cc in
    rw (eq-eqb e.vertex d.vertex (ap (λ x. x.vertex) (sym same))) (ap (λ x. x.hadamard) same)
mark_at (d ∷ ds) (suc i) e o found =
    let there : member e.vertex (end_vertices ds) ≡ true = found_there ds i e found in
    let apart : eqb e.vertex d.vertex ≡ false = eqb_comm e.vertex d.vertex ∙ not-true _ (all_at (different d.vertex) (end_vertices ds) e.vertex (and-left _ _ o) there) in
    rw apart (mark_at ds i e (and-right _ _ o) found)

pub mark_of_end : (ends : List End) (i b : ℕ) (e : End) → in_order different (end_vertices ends) ≡ true → slice_get (end_vertices ends) i ≡ Some b → e ≡ get_or ends i e → mark_of ends b ≡ e.hadamard
mark_of_end ends i b e once found read =
    let here : slice_get ends i ≡ Some e = slice_get-get_or ends i e (place_within ends i b found) ∙ ap Some (sym read) in
    let same : e.vertex ≡ b = same_Some e.vertex b (sym (slice_get-places ends i e here) ∙ found) in
    ap (mark_of ends) (sym same) ∙ mark_at ends i e once here

-- with the end moved, the graph is that after the split
pub split_step : (side : Side) (old : Graph) (b new : ℕ) (h k : Graph) (ends : List End) → IsSpiderAdded old b new h → new ≡ new_vertex old →
    allowed old (split_of side b) ≡ true → ends ≡ move_end b new (ends_of side old) → k ≡ with_ends side ends h → IsStep old (split_of side b) k
split_step Input old b new h k ends s least there moved made =
    subst (λ (g : Graph). IsSplitInput old b (new_vertex old) g) (sym made) (subst (λ n. IsSplitInput old b n (record h { inputs = ends })) least
    (record { fresh = s.fresh; has_input = there; vertices = s.vertices; ordered = s.frame.ordered; edges = s.edges; inputs = moved; outputs = s.frame.outputs }))
split_step Output old b new h k ends s least there moved made =
    subst (λ (g : Graph). IsSplitOutput old b (new_vertex old) g) (sym made) (subst (λ n. IsSplitOutput old b n (record h { outputs = ends })) least
    (record { fresh = s.fresh; has_output = there; vertices = s.vertices; ordered = s.frame.ordered; edges = s.edges; inputs = s.frame.inputs; outputs = moved }))
