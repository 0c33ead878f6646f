-- Phase polynomials: sums of phases, each of which counts where some bits of a basis state have an odd sum. See Amy,
-- Maslov and Mosca, "Polynomial-time T-depth optimization of Clifford+T circuits via matroid partitioning" (IEEE
-- Transactions on CAD 33, 1476, 2014), and, for what low weights tell, the signature tensors of Heyfron and Campbell,
-- "An efficient quantum compiler that reduces T count" (arXiv 1712.01557).
use Rattle.std.specs.Prelude.{◌≡◌, ◌%◌, ℕ, Bool, false, ◌&&◌, if◌then◌else◌, List, [], ◌∷◌}
use Rattle.std.specs.List.{count_by}
use Rattle.zx_model.specs.Phase.{eighth_turn, sum_of_phases}
use Rattle.zx_model.specs.Bits.{xor}

-- the sum modulo 2 of those bits of a basis state that a column picks
abbrev pub parity : List Bool → List Bool → Bool
parity [] x = false
parity (c ∷ column) [] = false
parity (c ∷ column) (b ∷ x) = xor (c && b) (parity column x)

-- a phase, and the column of the parity that it belongs to
pub record Term : Type 0 where
  pub column : List Bool
  pub phase : ℕ

-- the value at a basis state
abbrev pub phase_at : List Term → List Bool → ℕ
phase_at [] x = 0
phase_at (term ∷ terms) x = sum_of_phases (if parity term.column x then term.phase else 0) (phase_at terms x)

-- how many bits are set
abbrev pub weight : List Bool → ℕ
weight x = count_by (λ b. b) x

-- a phase is a whole number of eighth turns, as that of T is
abbrev pub IsEighths : ℕ → Type 0
IsEighths k = k % eighth_turn ≡ 0
