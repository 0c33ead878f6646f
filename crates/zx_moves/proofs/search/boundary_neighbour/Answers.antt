-- Either a neighbour has no end, or the first one is one of many with ends.
use Rattle.std.proofs.Common.{◌∙◌, sym}
use Rattle.zx_moves.proofs.SearchTests.{none_from, some_from}
use Rattle.zx_moves.proofs.SearchPairs.{boundary_inner, boundary_where, boundary_nowhere}
use Rattle.zx_moves.proofs.search.boundary_neighbour.Goals as goal

pub returns-then-is_some-clause-none : goal.returns-then-is_some-clause-none
returns-then-is_some-clause-none c =
    let some = some_from c.inner_neighbour.result _ c.inner_neighbour.ensures.found (sym c.is_some.ensures ∙ c.if-is_some.true) in
    boundary_inner c.args.g.now.graph c.requires.valid c.args.u some.0 some.1.0 some.1.1

pub returns-clause-found : goal.returns-clause-found
returns-clause-found c =
    boundary_where c.args.g.now.graph c.requires.valid c.args.u c.first_neighbour.result
    (none_from c.inner_neighbour.result _ c.inner_neighbour.ensures.none (sym c.is_some.ensures ∙ c.if-is_some.false)) c.requires.spider
    c.first_neighbour.ensures

pub returns-clause-none : goal.returns-clause-none
returns-clause-none c = boundary_nowhere c.args.g.now.graph c.requires.valid c.args.u c.first_neighbour.result c.first_neighbour.ensures
