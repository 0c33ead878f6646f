-- The OpenQASM 2.0 text of a circuit, as Cross, Bishop, Smolin and Gambetta, "Open quantum assembly language"
-- (arXiv 1707.03429), define the language: the version, the include, one register of qubits and one of bits, a line for
-- each gate, and a line for each measurement.
use Rattle.std.specs.Prelude.{ℕ, ◌+◌, ◌/◌, ◌%◌, ◌++◌, ◌==◌, List, [], codes, decimal, if◌then◌else◌}
use Rattle.std.specs.List.{flat_map}
use Rattle.zx_model.specs.Phase.{half_turn, quarter_turn, eighth_turn, opposite_phase}
use Rattle.zx_gates.specs.declared.gate.Gate.{Gate}
use Rattle.zx_gates.specs.declared.gate.Gate.TheVariants.{H, Phase, Cz, Cx, Not}
use Rattle.zx_gates.specs.declared.elementary.Measure.{Measure}
use Rattle.zx_gates.specs.Circuit.{Circuit}

-- the register of n qubits; a circuit without qubits has none
abbrev pub register_line : ℕ → List ℕ
register_line n = if n == 0 then [] else codes "qreg q[" ++ decimal n ++ codes "];\n"

-- the register of m bits; a circuit without bits has none
abbrev pub bits_line : ℕ → List ℕ
bits_line m = if m == 0 then [] else codes "creg c[" ++ decimal m ++ codes "];\n"

-- u1 of k sixteenth turns, the angle k*pi/8 in lowest terms, for phases without a name of their own
abbrev pub u1_name : ℕ → List ℕ
u1_name k =
    codes "u1(" ++ (if k == 1 then codes "pi/8)" else if k % 2 == 0 then decimal (k / 2) ++ codes "*pi/4)" else
    decimal k ++ codes "*pi/8)")

-- the name of a phase gate of k sixteenth turns, 0 < k < turn
abbrev pub phase_name : ℕ → List ℕ
phase_name k =
    if k == eighth_turn then codes "t" else
    if k == quarter_turn then codes "s" else
    if k == half_turn then codes "z" else
    if k == half_turn + quarter_turn then codes "sdg" else
    if k == opposite_phase eighth_turn then codes "tdg" else u1_name k

abbrev pub qubit_name : ℕ → List ℕ
qubit_name q = codes "q[" ++ decimal q ++ codes "]"

-- a gate by its name on one qubit, or on two
abbrev pub on_one : List ℕ → ℕ → List ℕ
on_one name q = name ++ codes " " ++ qubit_name q ++ codes ";\n"

abbrev pub on_two : List ℕ → ℕ → ℕ → List ℕ
on_two name q r = name ++ codes " " ++ qubit_name q ++ codes "," ++ qubit_name r ++ codes ";\n"

abbrev pub gate_line : Gate → List ℕ
gate_line (H q) = on_one (codes "h") q
gate_line (Phase q k) = on_one (phase_name k) q
gate_line (Cz q r) = on_two (codes "cz") q r
gate_line (Cx control target) = on_two (codes "cx") control target
gate_line (Not q) = on_one (codes "x") q

abbrev pub bit_name : ℕ → List ℕ
bit_name b = codes "c[" ++ decimal b ++ codes "]"

abbrev pub measure_line : Measure → List ℕ
measure_line m = codes "measure " ++ qubit_name m.qubit ++ codes " -> " ++ bit_name m.bit ++ codes ";\n"

-- the whole text of a circuit with measurements behind it, into so many bits
unfoldable pub written : Circuit → ℕ → List Measure → List ℕ
written circuit bits measured =
    codes "OPENQASM 2.0;\n" ++ codes "include \"qelib1.inc\";\n" ++ register_line circuit.qubits ++ bits_line bits
    ++ flat_map gate_line circuit.gates ++ flat_map measure_line measured
