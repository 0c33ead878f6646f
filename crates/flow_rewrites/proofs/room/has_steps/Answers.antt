-- One vertex after the other.
use Rattle.std.proofs.Common.{refl, sym, true≢false, arith}
use Rattle.zx_calculus.specs.Graph.{ids}
use Rattle.open_graph.proofs.Walks.{next_some, next_none, next_all, next_there}
use Rattle.flow_rewrites.proofs.StepsNeeded.{suffices, lacks, one_taken}
use Rattle.flow_rewrites.proofs.room.has_steps.Goals as goal

pub steps_at-needed-requires : goal.steps_at-needed-requires
steps_at-needed-requires c =
    next_there c.loop-v.yielded c.loop-v.v-iterator c.next.new.self (ids c.args.g.now.graph.vertices) c.in-Some.v
    c.loop-v.invariant.all
    (next_some c.next.result c.loop-v.v-iterator c.next.new.self c.in-Some.v c.next.ensures.steps c.in-Some.is)

pub returns-then-left-needed : goal.returns-then-left-needed
returns-then-left-needed c = (
  λ e. absurd (true≢false (sym e)),
  λ enough. lacks c.args.g.now.graph c.loop-v.yielded c.next.new.self c.in-Some.v c.loop-v.left c.args.steps c.requires
      (next_all c.loop-v.yielded c.loop-v.v-iterator c.next.new.self (ids c.args.g.now.graph.vertices) c.in-Some.v
      c.loop-v.invariant.all
      (next_some c.next.result c.loop-v.v-iterator c.next.new.self c.in-Some.v c.next.ensures.steps c.in-Some.is))
      c.loop-v.invariant.left (omega (arith, c.steps_at-needed.ensures, c.if-left-needed.true)) enough,
)

pub loop-v-preserved : goal.loop-v-preserved
loop-v-preserved c = record {
  all = next_all c.loop-v.yielded c.loop-v.v-iterator c.next.new.self (ids c.args.g.now.graph.vertices) c.in-Some.v
      c.loop-v.invariant.all
      (next_some c.next.result c.loop-v.v-iterator c.next.new.self c.in-Some.v c.next.ensures.steps c.in-Some.is);
  left = one_taken c.args.g.now.graph c.loop-v.yielded c.in-Some.v c.loop-v.left _ c.args.steps c.loop-v.invariant.left
      (omega (arith, c.steps_at-needed.ensures, c.if-left-needed.false));
}

pub returns : goal.returns
returns c = (
  λ _. suffices c.args.g.now.graph c.loop-v.yielded c.loop-v.v-iterator c.loop-v.left c.args.steps c.requires
      c.loop-v.invariant.all
      (next_none c.next.result c.loop-v.v-iterator c.next.new.self c.next.ensures.steps c.in-None.is)
      c.loop-v.invariant.left,
  λ _. refl,
)
