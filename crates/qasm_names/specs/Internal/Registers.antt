-- What is wrong with declarations of registers.
use Rattle.std.specs.Prelude.{ℕ, ◌+◌, Bool, if◌then◌else◌, Option, None, Some, nat_lt}
use Rattle.qasm_scope.specs.declared.causes.Cause.{Cause}
use Rattle.qasm_scope.specs.declared.causes.Cause.TheVariants as cause

-- the first cause of a declaration of a register
abbrev pub register_cause : Bool → Bool → Option Cause → Option Cause
register_cause redeclared empty too_many =
    if redeclared then Some cause.Redeclared else
    if empty then Some cause.EmptyRegister else too_many

-- this cause, where with so many more there are more than the most
abbrev pub too_many_cause : ℕ → ℕ → ℕ → Cause → Option Cause
too_many_cause most count more too_many = if nat_lt most (count + more) then Some too_many else None
