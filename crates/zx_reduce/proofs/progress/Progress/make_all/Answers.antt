-- One move after the other: each leaves fewer, so there is room for their steps.
use Rattle.std.proofs.Common.{refl, ◌∙◌, subst, [], ◌++◌, ◌≤◌, length, arith}
use Rattle.zx_calculus.specs.Graph.{Graph}
use Rattle.open_graph.specs.OpenGraph.{most_vertices_in_memory}
use Rattle.zx_calculus.specs.Steps.{IsRun}
use Rattle.zx_moves.specs.Search.{AppliesAt, IsOfFirstKind}
use Rattle.zx_moves.proofs.MoveCounts.{most_moves-move, most_moves-few}
use Rattle.zx_moves.proofs.MoveSteps.{move_made}
use Rattle.zx_moves.proofs.Scaling.{steps_six}
use Rattle.zx_reduce.proofs.Doing.{done_then, done_run, done_count, done_ordered, done_gates}
use Rattle.zx_reduce.proofs.progress.Progress.make_all.Goals as goal

pub loop-found-init : goal.loop-found-init
loop-found-init c = record {
  steps = [];
  done = refl;
  few = let most = most_moves-few c.args.self.now.ordered.graph c.requires.ordered.well_formed in
      let few = c.requires.few in
      let vertices = subst (λ (g : Graph). length g.vertices ≤ most_vertices_in_memory) c.graph.ensures c.vertex_count.ensures.few in
      omega (arith, most, few, vertices);
}

pub make-requires-clause-valid : goal.make-requires-clause-valid
make-requires-clause-valid c = (done_ordered c.args.self.now c.loop-found.invariant.steps c.loop-found.self c.loop-found.invariant.done c.requires.ordered).well_formed

pub make-requires-clause-closed : goal.make-requires-clause-closed
make-requires-clause-closed c = done_gates c.args.self.now c.loop-found.invariant.steps c.loop-found.self c.loop-found.invariant.done ∙ c.requires.closed

pub make-requires-clause-few : goal.make-requires-clause-few
make-requires-clause-few c =
    let g = c.loop-found.self.ordered.graph in
    let m = c.in-Some.found in
    let w = make-requires-clause-valid c in
    let applies = subst (λ h. AppliesAt h m) c.graph-in-loop-found.ensures c.in-Some.ensures.found in
    let first = subst (λ h. IsOfFirstKind h m) c.graph-in-loop-found.ensures c.in-Some.ensures.first in
    let made = move_made g m w applies first in
    let fewer = most_moves-move g made.0 m w applies made.1.run in
    let few = c.loop-found.invariant.few in
    omega (arith, fewer, few)

pub loop-found-smaller : goal.loop-found-smaller
loop-found-smaller c =
    let g = c.loop-found.self.ordered.graph in
    let m = c.in-Some.found in
    let makes = c.in_ok-make.ensures in
    most_moves-move g c.make.new.self.ordered.graph m (done_ordered c.args.self.now c.loop-found.invariant.steps c.loop-found.self c.loop-found.invariant.done c.requires.ordered).well_formed
    (subst (λ h. AppliesAt h m) c.graph-in-loop-found.ensures c.in-Some.ensures.found)
    (subst (λ s. IsRun g s c.make.new.self.ordered.graph) makes.are (done_run c.loop-found.self makes.steps c.make.new.self makes.done))

pub loop-found-preserved : goal.loop-found-preserved
loop-found-preserved c =
    let makes = c.in_ok-make.ensures in
    let count = done_count c.loop-found.self makes.steps c.make.new.self makes.done in
    let six = steps_six c.loop-found.self.ordered.graph c.in-Some.found makes.steps makes.are in
    let few = c.loop-found.invariant.few in
    let fewer = loop-found-smaller c in
    record {
      steps = c.loop-found.invariant.steps ++ makes.steps;
      done = done_then c.args.self.now c.loop-found.invariant.steps c.loop-found.self makes.steps c.make.new.self c.loop-found.invariant.done makes.done;
      few = omega (arith, count, six, few, fewer);
    }
