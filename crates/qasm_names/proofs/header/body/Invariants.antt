use Rattle.std.proofs.Common.{◌≡◌, map, take}
use Rattle.qasm_names.specs.Internal.HeaderTable.{call_after}
use Rattle.qasm_names.specs.Kept.{kept_call}
use Rattle.qasm_names.proofs.header.body.Given as goal

abbrev pub invariant-loop-call : goal.invariant-loop-call
invariant-loop-call l = map kept_call l.calls.items ≡ map (call_after l.shared.base) (take l.call-index l.gate.calls.now)
