-- One vertex more was tried.
use Rattle.gflow_laws.specs.Seen.{seen}
use Rattle.gflow_laws.specs.Flow.{is_in}
use Rattle.open_graph.proofs.Walks.{next_some, next_there, next_all, next_passed}
use Rattle.flow_find.specs.Internal.Solving.{IsMissed}
use Rattle.flow_find.proofs.search.first_left.Goals as goal

pub with_set-requires-clause-live : goal.with_set-requires-clause-live
with_set-requires-clause-live c =
    let here = next_some c.next.result c.loop-v.v-iterator c.next.new.self c.in-Some.v c.next.ensures.steps c.in-Some.is in
    c.requires c.in-Some.v (next_there c.loop-v.yielded c.loop-v.v-iterator c.next.new.self c.args.left.now.ids c.in-Some.v c.loop-v.invariant.all here)

pub with_set-requires-clause-there : goal.with_set-requires-clause-there
with_set-requires-clause-there c =
    let here = next_some c.next.result c.loop-v.v-iterator c.next.new.self c.in-Some.v c.next.ensures.steps c.in-Some.is in
    next_there c.loop-v.yielded c.loop-v.v-iterator c.next.new.self c.args.left.now.ids c.in-Some.v c.loop-v.invariant.all here

pub is_xy-requires : goal.is_xy-requires
is_xy-requires c =
    let here = next_some c.next.result c.loop-v.v-iterator c.next.new.self c.in-Some.v c.next.ensures.steps c.in-Some.is in
    c.requires c.in-Some.v (next_there c.loop-v.yielded c.loop-v.v-iterator c.next.new.self c.args.left.now.ids c.in-Some.v c.loop-v.invariant.all here)

pub loop-v-preserved-in-loop-v : goal.loop-v-preserved-in-loop-v
loop-v-preserved-in-loop-v c =
    let here = next_some c.next.result c.loop-v.v-iterator c.next.new.self c.in-Some.v c.next.ensures.steps c.in-Some.is in
    let missed : IsMissed (seen c.args.g.now.graph) (is_in c.args.left.now.ids) c.args.rows.now c.in-Some.v = rw c.in_default.is at c.in_ok-found.ensures.none in
    record {
      all = next_all c.loop-v.yielded c.loop-v.v-iterator c.next.new.self c.args.left.now.ids c.in-Some.v c.loop-v.invariant.all here;
      passed = λ every. next_passed (IsMissed (seen c.args.g.now.graph) (is_in c.args.left.now.ids) c.args.rows.now) c.loop-v.yielded c.in-Some.v
          (c.loop-v.invariant.passed every) missed;
    }
