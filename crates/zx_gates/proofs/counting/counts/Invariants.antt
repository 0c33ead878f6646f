-- The gates so far are counted.
use Rattle.std.proofs.Common.{◌≡◌, take}
use Rattle.std.specs.List.{count_by}
use Rattle.zx_gates.specs.Circuit.{gate_odd_phases}
use Rattle.zx_gates.specs.Counting.{is_two_qubit, is_h, is_phase, is_cz, is_cx, is_not}
use Rattle.zx_gates.proofs.counting.counts.Given as goal

abbrev pub invariant-loop-gate : goal.invariant-loop-gate
invariant-loop-gate l = record {
  total : l.counts.total ≡ l.gate-index;
  odd : l.counts.odd ≡ gate_odd_phases (take l.gate-index l.g.gates);
  two_qubit : l.counts.two_qubit ≡ count_by is_two_qubit (take l.gate-index l.g.gates);
  h : l.counts.h ≡ count_by is_h (take l.gate-index l.g.gates);
  phase : l.counts.phase ≡ count_by is_phase (take l.gate-index l.g.gates);
  cz : l.counts.cz ≡ count_by is_cz (take l.gate-index l.g.gates);
  cx : l.counts.cx ≡ count_by is_cx (take l.gate-index l.g.gates);
  nots : l.counts.nots ≡ count_by is_not (take l.gate-index l.g.gates);
}
