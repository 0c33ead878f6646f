use Rattle.std.proofs.Common.{◌∙◌, sym, ap, suc, List, ◌∷◌, ℕ, add-one, arith}
use Rattle.zx_calculus.specs.Graph.{ids}
use Rattle.open_graph.specs.Internal.Rows.{not_below}
use Rattle.open_graph.specs.Internal.Slots.{vertices_of}
use Rattle.open_graph.proofs.RowLemmas.{first_is_next, none_is_left}
use Rattle.open_graph.proofs.SlotLemmas.{rising_vertices, first_vertex}
use Rattle.open_graph.proofs.vertices.VerticesIterator.next.Goals as goal

pub returns-in-Some-clause-steps : goal.returns-in-Some-clause-steps
returns-in-Some-clause-steps c =
    let slots = c.self.inside.slots.now.slots in
    let all : List ℕ = ids (vertices_of slots) in
    let found = first_vertex slots c.self.inside.next c.first_from.result c.first_from.ensures.first in
    sym c.self.view_is
    ∙ first_is_next c.self.inside.next c.in-Some.first all (rising_vertices 0 slots) (rw c.in-Some.is at found)
    ∙ rw add-one (ap (λ v. v ∷ not_below (suc c.in-Some.first) all) (sym c.new.ensures))

pub returns-in-Some-clause-goes : goal.returns-in-Some-clause-goes
returns-in-Some-clause-goes c =
    rw (returns-in-Some-clause-steps c) (record { on = λ f. (tt, tt, omega arith); keeps = tt; rests = λ f. tt })

pub returns-in-None-clause-steps : goal.returns-in-None-clause-steps
returns-in-None-clause-steps c =
    let slots = c.self.inside.slots.now.slots in
    let found = first_vertex slots c.self.inside.next c.first_from.result c.first_from.ensures.first in
    let none = sym c.self.view_is ∙ none_is_left c.self.inside.next (ids (vertices_of slots)) (rw c.in-None.is at found) in (none, none)
