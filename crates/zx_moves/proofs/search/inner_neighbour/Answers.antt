-- The neighbours one after the other.
use Rattle.zx_calculus.specs.Graph.{neighbours}
use Rattle.open_graph.proofs.Walks.{next_some, next_none, next_all, next_there}
use Rattle.zx_moves.proofs.SearchWalks.{best_found, best_none, best_end}
use Rattle.zx_moves.proofs.search.inner_neighbour.Goals as goal

pub loop-v-preserved : goal.loop-v-preserved
loop-v-preserved c =
    let g = c.args.g.now.graph in
    let past = c.loop-v.invariant in
    let rest = next_some c.next.result c.loop-v.v-iterator c.next.new.self c.in-Some.v c.next.ensures.steps c.in-Some.is in
    record {
      all = next_all c.loop-v.yielded c.loop-v.v-iterator c.next.new.self (neighbours g c.args.u) c.in-Some.v past.all rest;
      some = best_found g c.args.u c.loop-v.best c.better_of.result.0 c.in-Some.v
          (next_there c.loop-v.yielded c.loop-v.v-iterator c.next.new.self (neighbours g c.args.u) c.in-Some.v past.all rest)
          past.some c.better_of.ensures.found;
      none = best_none g c.loop-v.best c.better_of.result.0 c.loop-v.yielded c.in-Some.v past.none c.better_of.ensures.none;
    }

pub returns-clause-none : goal.returns-clause-none
returns-clause-none c =
    best_end c.args.g.now.graph c.loop-v.best c.loop-v.yielded c.loop-v.v-iterator (neighbours c.args.g.now.graph c.args.u) c.loop-v.invariant.all
    (next_none c.next.result c.loop-v.v-iterator c.next.new.self c.next.ensures.steps c.in-None.is) c.loop-v.invariant.none
