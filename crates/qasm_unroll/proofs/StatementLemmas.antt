-- Statements that declare nothing and apply nothing.
use Rattle.std.proofs.Common.{◌≡◌, ℕ, List, Option, None, Some, refl}
use Rattle.std.specs.Option.{option_or}
use Rattle.zx_gates.specs.declared.elementary.Measure.{Measure}
use Rattle.qasm_reader.specs.Syntax.{Version, Opaque, If, Act, Measured, Reset, Operand, Action}
use Rattle.qasm_scope.specs.declared.causes.Cause.TheVariants.{SecondVersion, Unsupported}
use Rattle.qasm_scope.specs.declared.causes.Cause.{Cause}
use Rattle.qasm_scope.specs.Faults.{wrong_behind, wrong_in}
use Rattle.qasm_scope.specs.Meaning.{most_calls, wrong_with}
use Rattle.qasm_unroll.specs.Internal.KeptMeasures.{wrong_measure}
use Rattle.qasm_scope.specs.Scope.{Scope}

pub wrong-version : (scope : Scope) (real : List ℕ) → wrong_in scope (Version real) ≡ Some SecondVersion
unfolding wrong_in
wrong-version scope real = refl

pub wrong-opaque : (scope : Scope) (name : List ℕ) (parameters qubits : List (List ℕ)) → wrong_in scope (Opaque name parameters qubits) ≡ Some Unsupported
unfolding wrong_in
wrong-opaque scope name parameters qubits = refl

pub wrong-if : (scope : Scope) (register value : List ℕ) (action : Action) → wrong_in scope (If register value action) ≡ Some Unsupported
unfolding wrong_in
wrong-if scope register value action = refl

or-none : (first second : Option Cause) → option_or first (option_or second None) ≡ option_or first second
or-none None None = refl
or-none _ second = refl

-- a measurement makes no call
pub measured-wrong : (scope : Scope) (measured : List Measure) (calls : ℕ) (from to : Operand)
    → wrong_with most_calls scope measured calls (Act (Measured from to)) ≡ wrong_measure scope measured from to
measured-wrong scope measured calls from to = or-none (wrong_in scope (Act (Measured from to))) (wrong_behind scope measured (Act (Measured from to)))

pub wrong-reset : (scope : Scope) (operand : Operand) → wrong_in scope (Act (Reset operand)) ≡ Some Unsupported
unfolding wrong_in
wrong-reset scope operand = refl
