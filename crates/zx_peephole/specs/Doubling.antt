-- Scalars between linear maps where H is taken without its factor 1/sqrt 2: two H that go leave a factor two.
use Rattle.std.specs.Prelude.{◌≡◌, ℕ, ◌*◌, pos}
use Rattle.zx_model.specs.declared.scalar.Scalar.{Scalar}

-- the scalar is two to some power, which is the root of two to twice that
pub record IsPowerOfTwo (s : Scalar) : Type 0 where
  pub power : ℕ
  pub is : s ≡ record { root2 = pos (2 * power); turn = 0 }
