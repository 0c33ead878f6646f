-- Scalars by their parts.
use Rattle.std.specs.Prelude.{ℕ, ℤ}
use Rattle.zx_model.specs.declared.scalar.Scalar.{Scalar}

-- the root of two to a power, times a power of z
abbrev pub scalar : ℤ → ℕ → Scalar
scalar power turns = record { root2 = power; turn = turns }
