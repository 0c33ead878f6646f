-- What the optimiser may make of a circuit, and what becomes of one whose phases alone are changed.
use Rattle.std.specs.Prelude.{◌≡◌, ◌<◌, ◌≤◌, ◌^◌, ◌⊎◌, ℕ, List, length}
use Rattle.std.specs.List.{count_by}
use Rattle.zx_model.specs.Proportional.{Proportional}
use Rattle.zx_model.specs.declared.scalar.Scalar.{Scalar}
use Rattle.zx_gates.specs.declared.gate.Gate.{Gate}
use Rattle.zx_gates.specs.declared.tally.Counts.{Counts}
use Rattle.zx_gates.specs.Circuit.{Circuit, gate_odd_phases}
use Rattle.zx_gates.specs.Counting.{is_h, is_phase, is_cz, is_cx, is_not, is_two_qubit}
use Rattle.zx_gates.specs.Maps.{amp}
use Rattle.zx_gates.specs.Passes.{Preserves}
use Rattle.circuit_graph.specs.Translation.{translated}
use Rattle.teleport_circuits.specs.Circuits.{IsSkeleton}
use Rattle.teleport_circuits.specs.Teleporting.{teleported_gates}
use Rattle.zx_extract.specs.Simplified.{gate_bound, IsThroughReduced}
use Rattle.zx_peephole.specs.Tidy.{IsTidy}
use Rattle.zx_simplify.specs.Circuits.{IsSimplified}

-- the most gates of the answer to a circuit
abbrev pub bound_of : Circuit → ℕ
bound_of read = gate_bound read.qubits (gate_odd_phases read.gates)

-- the greatest exponent of the root of two in the scalar of an answer, in size
abbrev pub most_optimised_root2 : ℕ
most_optimised_root2 = 2 ^ 58

-- A pass over the read circuit makes the other one. No gates in it cancel or merge, and it has no more than the bound.
pub record Optimises (most : ℕ) (read made : Circuit) (s : Scalar) : Type 0 where
  pub kept : Preserves most read made s
  pub tidy : IsTidy made.gates
  pub few_gates : length made.gates ≤ bound_of read
  pub reduced : IsThroughReduced (translated read) made

-- The circuit that is made is on as many qubits as the read one, and has its gates in their order, but that phase
-- gates may have other phases or be left out. It has a proportional linear map and no more odd phases. Its phases are
-- the read ones with those put together that rewrites of the graph bring together: the first gate of such a group gets
-- their sum, with its own sign, the others 0, and even phases stay.
pub record Teleports (read made : Circuit) : Type 0 where
  pub qubits : made.qubits ≡ read.qubits
  pub skeleton : IsSkeleton read.gates made.gates
  pub map : Proportional read.qubits read.qubits (amp read.gates) (amp made.gates)
  pub odd : gate_odd_phases made.gates ≤ gate_odd_phases read.gates
  pub reduced : IsThroughReduced (translated read) made
  pub put_together : made.gates ≡ teleported_gates read reduced.steps reduced.end reduced.run

-- how many gates of each kind there are
abbrev pub counts_of : List Gate → Counts
counts_of gates = record {
  total = length gates;
  odd = gate_odd_phases gates;
  two_qubit = count_by is_two_qubit gates;
  h = count_by is_h gates;
  phase = count_by is_phase gates;
  cz = count_by is_cz gates;
  cx = count_by is_cx gates;
  nots = count_by is_not gates;
}

-- Fewer odd phases; or as many of them and fewer gates on two qubits; or as many of both and no more gates
-- in all.
abbrev pub CostsNoMore : Counts → Counts → Type 0
CostsNoMore a b =
    (a.odd < b.odd) ⊎ ((a.odd ≡ b.odd)
    × ((a.two_qubit < b.two_qubit) ⊎ ((a.two_qubit ≡ b.two_qubit) × (a.total ≤ b.total))))

-- What `opt` promises without `--best`: rewrites lead to a reduced graph whose map the circuit has, with no more odd
-- phases and few gates. The read circuit's map is exactly the factor times its own. That extraction made it isn't said.
abbrev pub IsPlain : Circuit → Circuit → Type 0
IsPlain read made = (factor : Scalar) × IsSimplified read made factor

-- what cleanup may make of a circuit
pub record IsCleaned (read made : Circuit) : Type 0 where
  pub qubits : made.qubits ≡ read.qubits
  pub map : Proportional read.qubits read.qubits (amp read.gates) (amp made.gates)
  pub tidy : IsTidy made.gates
  pub total : length made.gates ≤ length read.gates
  pub odd : gate_odd_phases made.gates ≤ gate_odd_phases read.gates
  pub two_qubit : count_by is_two_qubit made.gates ≤ count_by is_two_qubit read.gates

-- The circuit that is made is no dearer than a cleanup of the read one, where that is within the bound; nor
-- than the read one, where that is.
pub record CostsNoMoreThanRead (read made : Circuit) : Type 0 where
  pub cleaned : Circuit
  pub cleanup : IsCleaned read cleaned
  pub costs_no_more : length cleaned.gates ≤ bound_of read →
      CostsNoMore (counts_of made.gates) (counts_of cleaned.gates)
  pub costs_no_more_than_read : length read.gates ≤ bound_of read →
      CostsNoMore (counts_of made.gates) (counts_of read.gates)

-- It is no dearer than one whose phases alone are changed, where that is within the bound.
pub record CostsNoMoreThanTeleported (read made : Circuit) : Type 0 where
  pub teleported : Circuit
  pub teleports : Teleports read teleported
  pub costs_no_more : length teleported.gates ≤ bound_of read →
      CostsNoMore (counts_of made.gates) (counts_of teleported.gates)

-- It is no dearer than what `opt` makes without `--best`; and where that is no dearer either, it is that.
pub record CostsNoMoreThanPlain (read made : Circuit) : Type 0 where
  pub plain : Circuit
  pub is_plain : IsPlain read plain
  pub costs_no_more : CostsNoMore (counts_of made.gates) (counts_of plain.gates)
  pub at_tie : CostsNoMore (counts_of plain.gates) (counts_of made.gates) → made ≡ plain

-- It is no dearer than these candidates.
pub record IsBest (read made : Circuit) : Type 0 where
  pub than_plain : CostsNoMoreThanPlain read made
  pub than_read : CostsNoMoreThanRead read made
  pub than_teleported : CostsNoMoreThanTeleported read made
