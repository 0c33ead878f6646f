use Rattle.std.proofs.Common.{◌≡◌, ◌∙◌, ap, ℕ, List, ◌++◌, length, take, take_all, drop, append-nil, arith}
use Rattle.std.proofs.lemmas.List.{drop_all}
use Rattle.open_graph.specs.VertexSets.{VertexSet}
use Rattle.zx_flow.specs.VertexSets.{VertexSets, set_at}
use Rattle.zx_flow.proofs.RoomLemmas.{zip_same}
use Rattle.zx_flow.proofs.sets.VertexSets.copy.Goals as goal

-- what stands in a `Vec` after a change of all its elements
written : (new old : List VertexSet) (k : ℕ) → k ≡ length old → length new ≡ length old → take k (new ++ drop (length new) old) ≡ new
written new old k same size =
    ap (λ (l : List VertexSet). take k (new ++ l)) (drop_all (length new) old (omega (arith, size))) ∙ ap (take k) (append-nil new)
    ∙ take_all k new (omega (arith, same, size))

pub returns-clause-same : goal.returns-clause-same
returns-clause-same c = λ p.
    ap (λ (l : List VertexSet). set_at l p)
    (written c.reserve_each.new.lists c.in_ok-lists.lists.items c.in_ok-lists.lists.len c.in_ok-lists.lists.ok.0
    (c.reserve_each.ensures.length ∙ ap (λ (l : List VertexSet). length l) c.deref_mut.ensures.value))
    ∙ c.reserve_each.ensures.same p ∙ ap (λ (l : List VertexSet). set_at l p) c.deref_mut.ensures.value
    ∙ zip_same c.self.inside.lists.items c.in_ok-lists.lists.items c.in_ok-lists.ensures.cases.0 p
    ∙ ap (λ (s : VertexSets). set_at s.lists p) c.self.view_is
