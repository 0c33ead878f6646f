use Rattle.std.proofs.Common.{◌≡◌, false, length}
use Rattle.std.specs.List.{list_any}
use Rattle.qasm_names.specs.Kept.{Represents, gate_count}
use Rattle.qasm_names.proofs.Including.{FirstLeft}
use Rattle.qasm_scope.specs.HeaderGates.{first_gates}
use Rattle.qasm_scope.specs.Scope.{Scope, is_declared}
use Rattle.qasm_names.proofs.header.declare_first.Given as goal

abbrev pub invariant-loop-rest : goal.invariant-loop-rest
invariant-loop-rest l = (scope : Scope) → Represents l.fn.names scope → l.shared.base ≡ gate_count scope
    → list_any (λ form. is_declared form.name scope) first_gates ≡ false → FirstLeft l.names scope l.shared.base l.rest

abbrev pub decreases-loop-rest : goal.decreases-loop-rest
decreases-loop-rest l = length l.rest
