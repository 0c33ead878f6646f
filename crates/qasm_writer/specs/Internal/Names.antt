-- The qubits of a register as they are written.
use Rattle.std.specs.Prelude.{◌≡◌, ℕ, List, Vec, slice_get, IfSome}
use Rattle.std.specs.Global.{Global}
use Rattle.qasm_writer.specs.Written.{qubit_name}

-- each name is that of the qubit of its number
abbrev pub AreNames : List (Vec ℕ Global) → Type 0
AreNames names = (q : ℕ) → IfSome (slice_get names q) (λ name. name.items ≡ qubit_name q)
