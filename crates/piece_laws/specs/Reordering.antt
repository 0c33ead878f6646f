-- Lists of gates that differ only in the order of gates on different qubits.
-- Mazurkiewicz, "Trace theory" (Lecture Notes in Computer Science 255, 1987), with gates that depend on each other
-- where they share a qubit.
use Rattle.std.specs.Prelude.{◌≡◌, ℕ, List}
use Rattle.std.specs.List.{filter}
use Rattle.zx_gates.specs.declared.gate.Gate.{Gate}
use Rattle.zx_peephole.specs.Commuting.{is_on}

-- the gates that are on a qubit, in their order
abbrev pub gates_on : ℕ → List Gate → List Gate
gates_on q gates = filter (is_on q) gates

-- each qubit has the same gates, in the same order
abbrev pub IsReordered : List Gate → List Gate → Type 0
IsReordered gates others = (q : ℕ) → gates_on q gates ≡ gates_on q others
