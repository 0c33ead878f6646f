-- So many moves are made, each leaves fewer, the sum changed by so much, there is room for them, and none was lost.
use Rattle.std.proofs.Common.{◌*◌, ◌-◌, ◌≤◌, length}
use Rattle.zx_calculus.specs.Graph.{WellFormed}
use Rattle.gflow_laws.specs.Flow.{IsFlow}
use Rattle.zx_moves.specs.Moving.{most_moves, GainsMoves}
use Rattle.flow_rewrites.specs.Rooms.{HasRoom, KeepRoom}
use Rattle.zx_moves.specs.Internal.Scaling.{Scales}
use Rattle.flow_rewrites.proofs.InPlace.{IsRoomLeft}
use Rattle.flow_rewrites.proofs.in_place.reduce_in_place.Given as goal

abbrev pub invariant-loop-found : goal.invariant-loop-found
invariant-loop-found l = record {
  valid : WellFormed l.g.graph;
  flow : IsFlow l.g.graph l.f.flow;
  gains : GainsMoves l.fn.g.graph l.g.graph l.fn.trace.steps l.trace.steps 0 l.moves;
  scales : Scales l.fn.g.graph (12 * (l.moves - 0)) l.scalar l.g.graph;
  room : HasRoom l.fn.g l.fn.f l.fn.trace → IsRoomLeft l.fn.g l.g l.f l.trace;
  kept : KeepRoom l.fn.g l.fn.f l.fn.trace l.g l.f l.trace;
  few : l.moves ≤ 3 * length l.fn.g.graph.vertices;
}

abbrev pub decreases-loop-found : goal.decreases-loop-found
decreases-loop-found l = most_moves l.g.graph
