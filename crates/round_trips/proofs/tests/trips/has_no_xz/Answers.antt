-- The vertices one after the other.
use Rattle.zx_calculus.specs.Graph.{XZ, ids, plane_of}
use Rattle.std.proofs.Common.{◌≢◌}
use Rattle.open_graph.proofs.Walks.{next_some, next_none, next_there, next_all, next_passed, all_passed}
use Rattle.round_trips.proofs.tests.trips.has_no_xz.Goals as goal

pub is_xz-requires : goal.is_xz-requires
is_xz-requires c =
    next_there c.loop-v.yielded c.loop-v.v-iterator c.next.new.self (ids c.args.graph.now.graph.vertices) c.in-Some.v
    c.loop-v.invariant.all
    (next_some c.next.result c.loop-v.v-iterator c.next.new.self c.in-Some.v c.next.ensures.steps c.in-Some.is)

pub loop-v-preserved : goal.loop-v-preserved
loop-v-preserved c = record {
  all = next_all c.loop-v.yielded c.loop-v.v-iterator c.next.new.self (ids c.args.graph.now.graph.vertices) c.in-Some.v
      c.loop-v.invariant.all
      (next_some c.next.result c.loop-v.v-iterator c.next.new.self c.in-Some.v c.next.ensures.steps c.in-Some.is);
  others = next_passed (λ u. plane_of c.args.graph.now.graph u ≢ XZ) c.loop-v.yielded c.in-Some.v
      c.loop-v.invariant.others (c.is_xz.ensures c.if-is_xz.false);
}

pub returns : goal.returns
returns c =
    λ _. all_passed (λ u. plane_of c.args.graph.now.graph u ≢ XZ) c.loop-v.yielded c.loop-v.v-iterator
    (ids c.args.graph.now.graph.vertices) c.loop-v.invariant.all
    (next_none c.next.result c.loop-v.v-iterator c.next.new.self c.next.ensures.steps c.in-None.is)
    c.loop-v.invariant.others
