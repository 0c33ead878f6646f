-- What `same` writes for two texts in one.
use Rattle.std.specs.Prelude.{◌≡◌, ◌≢◌, ◌↔◌, ◌⊎◌, ℕ, List, ◌++◌, length, codes, decimal}
use Rattle.std.specs.Prelude.{Contains}
use Rattle.zx_model.specs.Proportional.{Proportional}
use Rattle.zx_calculus.specs.Graph.{Graph}
use Rattle.zx_calculus.specs.Steps.{Step}
use Rattle.zx_gates.specs.declared.elementary.Elementary.{Elementary}
use Rattle.zx_gates.specs.declared.elementary.Measure.{Measure}
use Rattle.zx_gates.specs.Circuit.{Circuit, IsCircuit}
use Rattle.zx_gates.specs.Elementary.{elementary_odd_phases}
use Rattle.zx_gates.specs.Lowering.{lowered}
use Rattle.zx_gates.specs.Maps.{amp}
use Rattle.zx_same.specs.Comparing.{IsLeftOfBoth}
use Rattle.zx_run.specs.declared.status.Status.{Status}
use Rattle.zx_run.specs.declared.status.Status.TheVariants.{Done, No}
use Rattle.zx_run.specs.CircuitTexts.{circuit_for}
use Rattle.zx_run.specs.TwoTexts.{AreAccepted}

-- as many qubits
abbrev pub HaveSameWidths : Elementary → Elementary → Type 0
HaveSameWidths one other = one.qubits ≡ other.qubits

-- as many bits, and the same measurements, in whatever order
abbrev pub HaveSameMeasures : Elementary → Elementary → Type 0
HaveSameMeasures one other =
    (one.bits ≡ other.bits) × ((measure : Measure) → Contains one.measured measure ↔ Contains other.measured measure)

-- ---- what is said of the circuits that two texts mean

-- they are on different numbers of qubits
pub record IsOfWidths (one other : Elementary) (bytes : List ℕ) : Type 0 where
  pub differ : HaveSameWidths one other → ⊥
  pub spelled : bytes ≡ codes "widths " ++ (decimal one.qubits ++ (codes " " ++ (decimal other.qubits ++ codes "\n")))

-- they are on as many qubits, but their bits or measurements differ
pub record IsOfMeasures (one other : Elementary) (bytes : List ℕ) : Type 0 where
  pub widths : HaveSameWidths one other
  pub differ : HaveSameMeasures one other → ⊥
  pub spelled : bytes ≡ codes "measures differ\n"

-- one linear map, up to a nonzero scalar
abbrev pub AreProportional : Elementary → Elementary → Type 0
AreProportional one other = Proportional one.qubits one.qubits (amp (lowered one.gates)) (amp (lowered other.gates))

-- The lowered gates differ. Where neither circuit has an odd phase, so that both are Clifford circuits, the maps
-- differ.
pub record HaveOtherGates (one other : Elementary) : Type 0 where
  pub gates : lowered one.gates ≢ lowered other.gates
  pub maps : elementary_odd_phases one.gates ≡ 0 → elementary_odd_phases other.gates ≡ 0 →
      AreProportional one other → ⊥

-- these agree, but the gates differ, and so many gates are left of both
pub record IsNotShown (one other : Elementary) (bytes : List ℕ) : Type 0 where
  pub widths : HaveSameWidths one other
  pub measures : HaveSameMeasures one other
  pub differ : HaveOtherGates one other
  pub left : Circuit
  pub valid : IsCircuit left
  pub steps : List Step
  pub end : Graph
  pub is_left : IsLeftOfBoth (circuit_for one) (circuit_for other) left steps end
  pub spelled : bytes ≡ codes "not shown " ++ (decimal (length left.gates) ++ codes "\n")

-- they agree in qubits, bits and measurements, and their maps are equal up to a nonzero scalar
pub record HaveOneMap (one other : Elementary) : Type 0 where
  pub widths : HaveSameWidths one other
  pub measures : HaveSameMeasures one other
  pub same_map : AreProportional one other

-- they have one map, and the line says so
pub record IsSame (one other : Elementary) (bytes : List ℕ) : Type 0 where
  pub one_map : HaveOneMap one other
  pub spelled : bytes ≡ codes "same\n"

-- The bytes are what `same` writes with the answer Done for two texts in one.
pub record IsSameText (text bytes : List ℕ) : Type 0 where
  pub one : Elementary
  pub other : Elementary
  pub accepted : AreAccepted text one other
  pub same : IsSame one other bytes

-- Which of three lines `same` writes with the answer No: the widths differ; they agree, but the measurements differ; or
-- these agree too, but that the circuits are the same isn't shown, and their gates differ.
abbrev pub IsDifference : Elementary → Elementary → List ℕ → Type 0
IsDifference one other bytes = IsOfWidths one other bytes ⊎ (IsOfMeasures one other bytes ⊎ IsNotShown one other bytes)

-- The bytes are what `same` writes with the answer No for two texts in one.
pub record IsDifferentText (text bytes : List ℕ) : Type 0 where
  pub one : Elementary
  pub other : Elementary
  pub accepted : AreAccepted text one other
  pub difference : IsDifference one other bytes

-- they differ in qubits, in bits or measurements, or in their lowered gates, and then in their maps too where neither
-- has an odd phase
abbrev pub AreDifferent : Elementary → Elementary → Type 0
AreDifferent one other =
    (HaveSameWidths one other → ⊥) ⊎ ((HaveSameMeasures one other → ⊥) ⊎ HaveOtherGates one other)

-- The answer is Done only where the circuits have one map, and No only where they are different; so it is Done where
-- they are equal, and of two Clifford circuits with the same measurements exactly where they have one map.
abbrev pub IsSamenessVerdict : List ℕ → Status → Type 0
IsSamenessVerdict text status =
    (one : Elementary) × (other : Elementary) × AreAccepted text one other
    × (((status ≡ Done) × HaveOneMap one other) ⊎ ((status ≡ No) × AreDifferent one other))
