-- The steps so far are done, the sum changed by so much, the steps that are left can be done, and there are as many
-- places, of which none was lost.
use Rattle.std.proofs.Common.{ℕ, ◌+◌, ◌*◌, ◌≤◌, map}
use Rattle.zx_calculus.specs.Graph.{WellFormed}
use Rattle.gflow_laws.specs.Flow.{IsFlow}
use Rattle.graph_rewrites.specs.Steps.{step_named}
use Rattle.flow_rewrites.specs.Rooms.{KeepPlaces}
use Rattle.flow_rewrites.specs.Internal.Rooms.{HavePlaces, StaysWithin}
use Rattle.zx_moves.specs.Internal.Scaling.{Scales}
use Rattle.flow_rewrites.proofs.InPlace.{AreUnderWay}
use Rattle.flow_rewrites.proofs.in_place.do_steps.Given as goal

abbrev pub invariant-loop-step : goal.invariant-loop-step
invariant-loop-step l = record {
  way : AreUnderWay l.fn.g.graph l.steps l.step-index l.g.graph;
  valid : WellFormed l.g.graph;
  flow : IsFlow l.g.graph l.f.flow;
  scales : Scales l.fn.g.graph (2 * l.step-index) l.scalar l.g.graph;
  places : (n d : ℕ) → HavePlaces n l.fn.g l.fn.f → d + 2 ≤ n → StaysWithin d l.fn.g.graph (map step_named l.steps) →
      HavePlaces n l.g l.f;
  kept : KeepPlaces l.fn.g l.fn.f l.g l.f;
}
