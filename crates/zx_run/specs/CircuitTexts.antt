-- What `opt`, `teleport` and `gen` may write.
use Rattle.std.specs.Prelude.{◌≡◌, ◌≤◌, ◌<◌, ◌++◌, ℕ, Bool, true, false, if◌then◌else◌, List, [], codes, decimal}
use Rattle.zx_gates.specs.declared.elementary.Elementary.{Elementary}
use Rattle.zx_gates.specs.declared.gate.Gate.{Gate}
use Rattle.zx_gates.specs.Circuit.{Circuit, IsCircuit, circuit_of}
use Rattle.zx_gates.specs.Elementary.{elementary_odd_phases}
use Rattle.zx_gates.specs.ElementaryMaps.{amp_elementary}
use Rattle.zx_gates.specs.Lowering.{lowered}
use Rattle.zx_gen.specs.Generator.{generated}
use Rattle.zx_model.specs.Phase.{turn}
use Rattle.zx_model.specs.Proportional.{Proportional}
use Rattle.zx_model.specs.Scalar.{IsScaled}
use Rattle.zx_model.specs.declared.scalar.Scalar.{Scalar}
use Rattle.zx_report.specs.Report.{report_lines, scalar_line}
use Rattle.qasm_scope.specs.Texts.{TextMeans, program_size}
use Rattle.qasm_writer.specs.Elements.{elements_of}
use Rattle.qasm_writer.specs.Written.{written}
use Rattle.zx_run.specs.FirstFault.{IsAccepted}
use Rattle.zx_extract.specs.Simplified.{gate_bound}
use Rattle.zx_optimise.specs.Optimising.{Optimises, Teleports, IsBest, IsPlain, counts_of, most_optimised_root2}

-- the lowered circuit
abbrev pub circuit_for : Elementary → Circuit
circuit_for read = circuit_of read.qubits (lowered read.gates)

-- the report of two lists of gates, where it is asked for
abbrev pub report_if : Bool → List Gate → List Gate → List ℕ
report_if report read made = if report then report_lines (counts_of read) (counts_of made) else []

-- the line of a scalar, where it is asked for
abbrev pub scalar_if : Bool → Scalar → List ℕ
scalar_if asked s = if asked then scalar_line s else []

-- The bytes are what `opt` may write for a text, with the flags `best`, `report` and `scalar` or without: the text
-- has no fault, and they are the text of a circuit that optimises the one that is meant, lowered, its report, and the
-- line of a scalar. That text means, with n qubits and t odd phases in the text that was read, the same linear map up
-- to a nonzero scalar, with at most t odd phases, and behind it the same measurements, in the same order, into as many
-- bits; the map of the text that was read is exactly the scalar that is told, its turn below 16, times that of the text
-- that is written. Its program applies at most `gate_bound` gates for n and t.
pub record IsOptimisedText (best report scalar : Bool) (text bytes : List ℕ) : Type 0 where
  pub read : Elementary
  pub circuit : Circuit
  pub factor : Scalar
  pub accepted : IsAccepted text read
  pub spelled : bytes ≡ written circuit read.bits read.measured
      ++ (report_if report (lowered read.gates) circuit.gates ++ scalar_if scalar factor)
  -- the headline
  pub means : TextMeans (written circuit read.bits read.measured) read.qubits (elements_of circuit.gates) read.bits
      read.measured
  pub same_map : Proportional read.qubits read.qubits (amp_elementary read.gates)
      (amp_elementary (elements_of circuit.gates))
  pub exact : IsScaled read.qubits read.qubits (amp_elementary read.gates) factor
      (amp_elementary (elements_of circuit.gates))
  pub within_a_turn : factor.turn < turn
  pub no_more_odd : elementary_odd_phases (elements_of circuit.gates) ≤ elementary_odd_phases read.gates
  pub few_gates : program_size means.program ≤ gate_bound read.qubits (elementary_odd_phases read.gates)
  -- what more is known of the circuit
  pub valid : IsCircuit circuit
  pub optimises : (s : Scalar) × Optimises most_optimised_root2 (circuit_for read) circuit s
  pub is_plain : best ≡ false → IsPlain (circuit_for read) circuit
  pub is_best : best ≡ true → IsBest (circuit_for read) circuit

-- The bytes are what `teleport` may write for a text: the text has no fault, and they are the text of a circuit in
-- which phases alone differ from the one that is meant, lowered. That text means the same linear map up to a nonzero
-- scalar, with no more odd phases, and behind it the same measurements, in the same order, into as many bits.
pub record IsTeleportedText (text bytes : List ℕ) : Type 0 where
  pub read : Elementary
  pub circuit : Circuit
  pub accepted : IsAccepted text read
  pub spelled : bytes ≡ written circuit read.bits read.measured
  pub means : TextMeans (written circuit read.bits read.measured) read.qubits (elements_of circuit.gates) read.bits
      read.measured
  pub same_map : Proportional read.qubits read.qubits (amp_elementary read.gates)
      (amp_elementary (elements_of circuit.gates))
  pub no_more_odd : elementary_odd_phases (elements_of circuit.gates) ≤ elementary_odd_phases read.gates
  -- what more is known of the circuit
  pub valid : IsCircuit circuit
  pub teleports : Teleports (circuit_for read) circuit

-- the line of the words of `gen`
abbrev pub generation_line : ℕ → ℕ → ℕ → List ℕ
generation_line seed qubits gates =
    codes "// gen " ++ decimal seed ++ codes " " ++ decimal qubits ++ codes " " ++ decimal gates ++ codes "\n"

-- the bytes are what `gen` may write: its words, and the report of two circuits, that of the seed and what `opt` makes
-- of it
pub record IsGenerationReport (seed qubits gates : ℕ) (bytes : List ℕ) : Type 0 where
  pub made : Circuit
  pub valid : IsCircuit made
  pub optimises : (s : Scalar) × Optimises most_optimised_root2 (circuit_of qubits (generated seed qubits gates)) made s
  pub is_plain : IsPlain (circuit_of qubits (generated seed qubits gates)) made
  pub spelled : bytes ≡ generation_line seed qubits gates
      ++ report_lines (counts_of (generated seed qubits gates)) (counts_of made.gates)
