use Rattle.std.proofs.Common.{◌≡◌, length}
use Rattle.qasm_names.specs.Kept.{Represents, gate_count}
use Rattle.qasm_names.proofs.Including.{FurtherLeft}
use Rattle.qasm_scope.specs.HeaderGates.{first_gates}
use Rattle.qasm_scope.specs.Meaning.{with_first}
use Rattle.qasm_scope.specs.Scope.{Scope}
use Rattle.qasm_names.proofs.header.declare_further.Given as goal

abbrev pub invariant-loop-rest : goal.invariant-loop-rest
invariant-loop-rest l = (scope : Scope) → Represents l.fn.names (with_first first_gates scope) → l.shared.base ≡ gate_count scope
    → FurtherLeft l.names scope l.shared.base l.rest

abbrev pub decreases-loop-rest : goal.decreases-loop-rest
decreases-loop-rest l = length l.rest
