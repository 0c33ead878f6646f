-- The gates of the header as the literature has them, each times a number other than 0, so that its entries are sums of
-- sixteenth roots of one. Sources: Nielsen and Chuang, "Quantum Computation and Quantum Information", sections 1.3, 4.2
-- and 4.3, for the Pauli matrices, H, S, T, rotations and controlled gates; Cross, Bishop, Smolin and Gambetta, "Open
-- quantum assembly language" (arXiv 1707.03429), for U as three rotations; Cross and others, "OpenQASM 3: A broader and
-- deeper quantum assembly language" (arXiv 2104.14722), for the roots of X. The rotation about ZZ is the evolution
-- under a product of two Z, section 4.7 of the first, and the exchange of two qubits its section 1.3.4. Angles are
-- counted in sixteenth turns, pi/8.
use Rattle.std.specs.Prelude.{ℕ, Bool, true, false, if◌then◌else◌, List, ◌∷◌}
use Rattle.zx_model.specs.Number.{Number, zero, one, add, neg, mul, root_power}
use Rattle.zx_model.specs.Constants.{i}
use Rattle.zx_model.specs.Bits.{xor, bit}
use Rattle.zx_gates.specs.Maps.{Matrix, phase, same_bits}

-- ---- matrices on one qubit
-- a b
-- c d
abbrev pub rows : Number → Number → Number → Number → Matrix
rows a b c d false false = a
rows a b c d false true = b
rows a b c d true false = c
rows a b c d true true = d

-- first n, then m
abbrev pub product : Matrix → Matrix → Matrix
product m n row column = add (mul (m row false) (n false column)) (mul (m row true) (n true column))

abbrev pub identity : Matrix
identity = rows one zero zero one

abbrev pub pauli_x : Matrix
pauli_x = rows zero one one zero

abbrev pub pauli_y : Matrix
pauli_y = rows zero (neg i) i zero

abbrev pub pauli_z : Matrix
pauli_z = rows one zero zero (neg one)

-- H, times the root of two
abbrev pub hadamard : Matrix
hadamard = rows one one one (neg one)

-- the square roots of X, times two
abbrev pub root_of_x : Matrix
root_of_x = rows (add one i) (add one (neg i)) (add one (neg i)) (add one i)

abbrev pub other_root_of_x : Matrix
other_root_of_x = rows (add one (neg i)) (add one i) (add one i) (add one (neg i))

-- The rotation by k about x, cos(k/2)*I - i*sin(k/2)*X, times 2*exp(i*k/2), where 2*cos(k/2)*exp(i*k/2) = 1 + z^k and
-- 2*i*sin(k/2)*exp(i*k/2) = z^k - 1.
abbrev pub rotation_x : ℕ → Matrix
rotation_x k =
    rows (add one (root_power k)) (add one (neg (root_power k)))
    (add one (neg (root_power k))) (add one (root_power k))

-- The rotation by k about y, cos(k/2)*I - i*sin(k/2)*Y, times the same.
abbrev pub rotation_y : ℕ → Matrix
rotation_y k =
    rows (add one (root_power k)) (mul i (add (root_power k) (neg one)))
    (mul i (add one (neg (root_power k)))) (add one (root_power k))

-- The rotation by k about z, times exp(i*k/2), is the phase gate of k.
abbrev pub rotation_z : ℕ → Matrix
rotation_z k = phase k

-- U(theta, phi, lambda) is the rotation by lambda about z, then that by theta about y, then that by phi about z.
abbrev pub three_rotations : ℕ → ℕ → ℕ → Matrix
three_rotations theta phi lambda = product (rotation_z phi) (product (rotation_y theta) (rotation_z lambda))

-- ---- maps of qubits, as functions of the bits x of a column and y of a row
abbrev pub Map : Type 0
Map = List Bool → List Bool → Number

-- a matrix on the only qubit
abbrev pub single : Matrix → Map
single m x y = m (bit y 0) (bit x 0)

-- c times the gate that acts on the further qubits where the first one is 1, and does nothing where it is 0; m is c
-- times the gate on the further qubits
abbrev pub controlled : Number → Map → Map
controlled c m (false ∷ x) (false ∷ y) = if same_bits x y then c else zero
controlled c m (true ∷ x) (true ∷ y) = m x y
controlled c m x y = zero

-- exp(-i*(k/2)*ZZ), times exp(i*k/2): exp(i*k) where the bits differ
abbrev pub rotation_zz : ℕ → Map
rotation_zz k x y = if same_bits x y then (if xor (bit x 0) (bit x 1) then root_power k else one) else zero
