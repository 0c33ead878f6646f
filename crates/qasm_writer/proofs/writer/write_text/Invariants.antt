-- The text holds the lines of the gates so far.
use Rattle.std.proofs.Common.{◌≡◌, ◌++◌, take}
use Rattle.std.specs.List.{flat_map}
use Rattle.qasm_writer.specs.Written.{bits_line, register_line, gate_line}
use Rattle.qasm_writer.proofs.writer.write_text.Given as goal
use Rattle.qasm_writer.proofs.Lines.{version_line, include_line}

abbrev pub invariant-loop-gate : goal.invariant-loop-gate
invariant-loop-gate l =
    l.text.items ≡ version_line ++ include_line ++ register_line l.g.qubits ++ bits_line l.bits ++ flat_map gate_line (take l.gate-index l.g.gates)
