-- The two-element field: `xor` is its sum, `◌&&◌` its product; and some laws of `◌||◌`.
use Rattle.std.proofs.Common.{◌≡◌, refl, sym, Bool, true, false, ◌&&◌, ◌||◌}
use Rattle.zx_model.specs.Bits.{xor}
pub use Rattle.zx_model.proofs.BitLemmas.{xor_comm, xor_assoc, xor_left_comm, xor-false, xor-same, xor-xor, and_comm, and_assoc, and_left_comm, and-false, and-true, and-same, and-and, and-xor, xor-and}

-- where not both hold, `or` is `xor`
pub or-apart : (a b : Bool) → (a && b) ≡ false → (a || b) ≡ xor a b
or-apart true true e = e
or-apart true false e = refl
or-apart false b e = refl

-- sums of products, sorted; equal summands in pairs vanish
pub ruleset parities = (xor_comm, xor_assoc, xor_left_comm, xor-false, xor-same, xor-xor, and_comm, and_assoc, and_left_comm, and-false, and-true, and-same, and-and, and-xor, xor-and)

pub or-true : (a : Bool) → (a || true) ≡ true
or-true true = refl
or-true false = refl

pub or-false : (a : Bool) → (a || false) ≡ a
or-false true = refl
or-false false = refl

pub or_assoc : (a b c : Bool) → (a || (b || c)) ≡ ((a || b) || c)
or_assoc true b c = refl
or_assoc false b c = refl

pub or_comm : (a b : Bool) → (a || b) ≡ (b || a)
or_comm true b = sym (or-true b)
or_comm false b = sym (or-false b)
