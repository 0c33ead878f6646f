-- The linear map of a circuit: the product of its gates' matrices, the first gate acting first.
-- H is taken without its factor 1/sqrt 2, so a map is known up to a nonzero scalar.
-- The matrices are those of Cross, Bishop, Smolin and Gambetta, "Open quantum assembly language"
-- (arXiv 1707.03429).
use Rattle.std.specs.Prelude.{◌≡◌, ℕ, Bool, true, false, ◌&&◌, not, if◌then◌else◌, List, [], ◌∷◌, length, slice_set}
use Rattle.zx_model.specs.Number.{Number, zero, one, add, mul, sign, root_power}
use Rattle.zx_model.specs.Bits.{xor, bit}
use Rattle.zx_gates.specs.declared.gate.Gate.{Gate}
use Rattle.zx_gates.specs.declared.gate.Gate.TheVariants.{H, Phase, Cz, Cx, Not}

-- a matrix of one qubit: its entry at a row and a column
abbrev pub Matrix : Type 0
Matrix = Bool → Bool → Number

-- 1 1
-- 1 -1
abbrev pub hadamard : Matrix
hadamard row column = sign (row && column)

-- 1 0
-- 0 z^k
abbrev pub phase : ℕ → Matrix
phase k false false = one
phase k true true = root_power k
phase k false true = zero
phase k true false = zero

-- 0 1
-- 1 0
abbrev pub exchange : Matrix
exchange row column = if xor row column then one else zero

-- What follows a gate is a function f of the bits after it. Before the gate it is this function: for a
-- matrix on one qubit, the sum over what the qubit's bit may become.
abbrev pub act_on : Matrix → ℕ → (List Bool → Number) → List Bool → Number
act_on matrix q f x =
    add (mul (matrix false (bit x q)) (f (slice_set x q false))) (mul (matrix true (bit x q)) (f (slice_set x q true)))

-- the same for each gate: H, phase, NOT, CZ and CX
abbrev pub act : Gate → (List Bool → Number) → List Bool → Number
act (H q) f x = act_on hadamard q f x
act (Phase q k) f x = act_on (phase k) q f x
act (Not q) f x = act_on exchange q f x
-- -1 where both bits are 1
act (Cz q r) f x = mul (sign (bit x q && bit x r)) (f x)
-- the control's bit is added to the target's
act (Cx control target) f x = f (slice_set x target (xor (bit x control) (bit x target)))

-- the same through a list of gates
abbrev pub acts : List Gate → (List Bool → Number) → List Bool → Number
acts [] f = f
acts (gate ∷ gates) f = act gate (acts gates f)

-- whether two lists of bits are the same
abbrev pub same_bits : List Bool → List Bool → Bool
same_bits [] [] = true
same_bits (a ∷ rest) (b ∷ others) = not (xor a b) && same_bits rest others
same_bits x y = false

-- The entry of a circuit's matrix at the column x and the row y, the bits of the qubits before and after it.
abbrev pub amp : List Gate → List Bool → List Bool → Number
amp [] x y = if same_bits x y then one else zero
amp (gate ∷ gates) x y = act gate (λ z. amp gates z y) x

-- the map that exchanges two qubits
abbrev pub swap_two : List Bool → List Bool → Number
swap_two x y = if same_bits (bit x 1 ∷ bit x 0 ∷ []) y then one else zero

-- each entry in the row y of a map's matrix is 0, where the columns are for n bits
abbrev pub IsZeroRow : ℕ → (List Bool → List Bool → Number) → List Bool → Type 0
IsZeroRow n map y = (x : List Bool) → length x ≡ n → map x y ≡ zero

-- each entry of the matrix is 0, where there are n bits before and after it
abbrev pub IsZeroMap : ℕ → (List Bool → List Bool → Number) → Type 0
IsZeroMap n map = (y : List Bool) → length y ≡ n → IsZeroRow n map y
