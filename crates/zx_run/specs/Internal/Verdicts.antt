-- What is written with the answer Done, and what with No.
use Rattle.std.specs.Prelude.{◌≡◌, ℕ, List, Bool, true, false, Option, Some, None, length}
use Rattle.zx_gates.specs.declared.elementary.Elementary.{Elementary}
use Rattle.zx_gates.specs.Circuit.{Circuit, IsCircuit}
use Rattle.zx_run.specs.Comparing.{IsDifference, IsDifferentText, IsSame, IsSameText}
use Rattle.zx_run.specs.Compiling.{IsCompiledText, IsNoFlowText}

abbrev pub IsCompilation : List ℕ → List ℕ → Bool → Type 0
IsCompilation text bytes false = IsCompiledText text bytes
IsCompilation text bytes true = IsNoFlowText text bytes

abbrev pub IsComparison : List ℕ → List ℕ → Bool → Type 0
IsComparison text bytes false = IsSameText text bytes
IsComparison text bytes true = IsDifferentText text bytes

-- the same of the circuits that two texts mean
abbrev pub IsComparisonOf : Elementary → Elementary → List ℕ → Bool → Type 0
IsComparisonOf one other bytes false = IsSame one other bytes
IsComparisonOf one other bytes true = IsDifference one other bytes

-- it isn't shown that two circuits are the same, and a circuit of so many gates is left
abbrev pub HasLeft : Option Circuit → ℕ → Type 0
HasLeft None count = ⊥
HasLeft (Some left) count = (count ≡ length left.gates) × IsCircuit left
