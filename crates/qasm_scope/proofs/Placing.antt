-- What is wrong first, as a function of what is wrong with the first statement.
use Rattle.std.proofs.Common.{ℕ, Option}
use Rattle.std.specs.Option.{option_map, option_or}
use Rattle.qasm_scope.specs.declared.causes.Cause.{Cause}

-- a cause and the place of the statement that has it, or what is wrong further on
abbrev pub placed_or : Option Cause → ℕ → Option (Cause × ℕ) → Option (Cause × ℕ)
placed_or first place other = option_or (option_map (λ cause. (cause, place)) first) other
