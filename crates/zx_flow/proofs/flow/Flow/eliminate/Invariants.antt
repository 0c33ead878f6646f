-- The sets so far are cleared.
use Rattle.std.proofs.Common.{◌≡◌, take}
use Rattle.gflow_laws.specs.Flow.{order_of, set_of}
use Rattle.gflow_laws.specs.Internal.Changes.{AreChanged}
use Rattle.zx_flow.specs.Internal.Clearing.{clearing_change}
use Rattle.zx_flow.proofs.flow.Flow.eliminate.Given as goal

abbrev pub invariant-loop-i : goal.invariant-loop-i
invariant-loop-i l = record {
  sets : AreChanged (clearing_change l.u (set_of l.fn.self.flow l.u)) (take l.i (order_of l.fn.self.flow))
      l.fn.self.flow l.self.flow;
  room : l.self.room ≡ l.fn.self.room;
}
