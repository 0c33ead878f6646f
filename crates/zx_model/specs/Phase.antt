-- Phases, counted in sixteenth turns: whole numbers modulo 16. A phase k stands for the angle k*pi/8.
use Rattle.std.specs.Prelude.{◌≡◌, ◌⊎◌, ℕ, ◌+◌, ◌-◌, ◌%◌, Bool, not, ◌||◌, ◌==◌, IsTrue}

-- a whole turn
abbrev pub turn : ℕ
turn = 16

-- the phase of a Z gate
abbrev pub half_turn : ℕ
half_turn = 8

-- the phase of an S gate
abbrev pub quarter_turn : ℕ
quarter_turn = 4

-- the phase of a T gate
abbrev pub eighth_turn : ℕ
eighth_turn = 2

abbrev pub sum_of_phases : ℕ → ℕ → ℕ
sum_of_phases j k = (j + k) % turn

abbrev pub opposite_phase : ℕ → ℕ
opposite_phase k = (turn - k) % turn

-- a phase is odd where it isn't a whole number of quarter turns
abbrev pub is_odd : ℕ → Bool
is_odd k = not (k % quarter_turn == 0)

abbrev pub IsOdd : ℕ → Type 0
IsOdd k = IsTrue (is_odd k)

-- a phase is a whole number of half turns: a Pauli phase
abbrev pub IsHalfTurns : ℕ → Type 0
IsHalfTurns k = (k ≡ 0) ⊎ (k ≡ half_turn)

abbrev pub is_half_turns : ℕ → Bool
is_half_turns k = (k == 0) || (k == half_turn)

-- a phase is a quarter turn, or three: a proper Clifford phase
abbrev pub IsQuarterTurn : ℕ → Type 0
IsQuarterTurn k = (k ≡ quarter_turn) ⊎ (k ≡ half_turn + quarter_turn)

abbrev pub is_quarter_turn : ℕ → Bool
is_quarter_turn k = (k == quarter_turn) || (k == half_turn + quarter_turn)
