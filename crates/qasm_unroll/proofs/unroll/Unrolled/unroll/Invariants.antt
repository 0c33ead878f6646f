use Rattle.std.proofs.Common.{◌≡◌, ◌+◌, ◌-◌, ◌*◌, length}
use Rattle.qasm_unroll.specs.Internal.KeptCalls.{IsStacked, Leads, first_events, frames_of, left_events}
use Rattle.qasm_scope.specs.Meaning.{most_calls}
use Rattle.qasm_unroll.proofs.unroll.Unrolled.unroll.Given as goal

abbrev pub invariant-loop-frame : goal.invariant-loop-frame
invariant-loop-frame l = record {
  leads : Leads l.gates l.fn.self (first_events l.fn.called l.fn.self) l.self (left_events l.gates (frames_of l.self) l.self);
  stacked : IsStacked (frames_of l.self) l.self;
  known : l.self.known ≡ l.fn.self.known;
}

abbrev pub decreases-loop-frame : goal.decreases-loop-frame
decreases-loop-frame l = 2 * (most_calls - l.self.calls) + length l.self.frames.items
