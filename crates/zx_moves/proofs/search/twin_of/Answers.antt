-- A twin is beside the first neighbour.
use Rattle.std.proofs.Common.{Some, ◌≡◌, ◌∙◌, sym, slice_get}
use Rattle.zx_calculus.specs.Graph.{neighbours}
use Rattle.zx_moves.proofs.SearchPairs.{near_live, twins_where, twins_nowhere}
use Rattle.zx_moves.proofs.search.twin_of.Goals as goal

pub twin_beside-requires-clause-near : goal.twin_beside-requires-clause-near
twin_beside-requires-clause-near c =
    near_live c.args.g.now.graph c.requires.valid c.args.u c.in_ok-near.near (sym c.first_neighbour.ensures ∙ c.in_ok-near.was)

pub returns-clause-found : goal.returns-clause-found
returns-clause-found c =
    twins_where c.args.g.now.graph c.requires.valid c.args.u c.in_ok-near.near c.twin_beside.result c.requires.gadget c.twin_beside.ensures

pub returns-clause-none : goal.returns-clause-none
returns-clause-none c =
    let first : slice_get (neighbours c.args.g.now.graph c.args.u) 0 ≡ Some c.in_ok-near.near = sym c.first_neighbour.ensures ∙ c.in_ok-near.was in
    twins_nowhere c.args.g.now.graph c.requires.valid c.args.u c.in_ok-near.near c.twin_beside.result first c.twin_beside.ensures
