-- The sum changed by so much, and the steps that are left can be done and lead where all steps lead.
use Rattle.std.proofs.Common.{◌*◌, ◌<◌, drop, map}
use Rattle.zx_model.specs.Phase.{turn}
use Rattle.zx_calculus.specs.Graph.{Graph}
use Rattle.zx_calculus.specs.Steps.{IsRun}
use Rattle.graph_rewrites.specs.Steps.{step_named}
use Rattle.zx_moves.specs.Internal.Scaling.{Scales}
use Rattle.zx_teleport.specs.Internal.Scaling.{MayRun}
use Rattle.zx_teleport.proofs.scalars.scalar_of_run.Given as goal

abbrev pub invariant-loop-step : goal.invariant-loop-step
invariant-loop-step l = record {
  may : MayRun l.graph.graph (map step_named (drop l.step-index l.fn.steps));
  left : (h : Graph) → IsRun l.fn.graph.graph (map step_named l.fn.steps) h →
      IsRun l.graph.graph (map step_named (drop l.step-index l.fn.steps)) h;
  scales : Scales l.fn.graph.graph (2 * l.step-index) l.scalar l.graph.graph;
  turn : l.scalar.turn < turn;
}
