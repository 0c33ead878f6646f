-- Bits form a field: the sum is `xor`, the product `&&`.
use Rattle.std.proofs.Common.{◌≡◌, Bool, true, false, ◌&&◌, ℕ, zero, suc, ◌+◌, ◌%◌, ◌<◌, eqb, refl, arith}
use Rattle.zx_model.specs.Bits.{xor}

pub xor-false : (a : Bool) → xor a false ≡ a
xor-false false = refl
xor-false true = refl

pub false-xor : (a : Bool) → xor false a ≡ a
false-xor a = refl

pub xor-same : (a : Bool) → xor a a ≡ false
xor-same false = refl
xor-same true = refl

pub xor_comm : (a b : Bool) → xor a b ≡ xor b a
xor_comm false false = refl
xor_comm false true = refl
xor_comm true false = refl
xor_comm true true = refl

pub xor_assoc : (a b c : Bool) → xor (xor a b) c ≡ xor a (xor b c)
xor_assoc false b c = refl
xor_assoc true false c = refl
xor_assoc true true false = refl
xor_assoc true true true = refl

pub xor_left_comm : (a b c : Bool) → xor a (xor b c) ≡ xor b (xor a c)
xor_left_comm false b c = refl
xor_left_comm true false c = refl
xor_left_comm true true c = refl

pub xor-xor : (a b : Bool) → xor a (xor a b) ≡ b
xor-xor false b = refl
xor-xor true false = refl
xor-xor true true = refl

pub and-false : (a : Bool) → (a && false) ≡ false
and-false false = refl
and-false true = refl

pub and-true : (a : Bool) → (a && true) ≡ a
and-true false = refl
and-true true = refl

pub false-and : (a : Bool) → (false && a) ≡ false
false-and a = refl

pub true-and : (a : Bool) → (true && a) ≡ a
true-and a = refl

pub and-same : (a : Bool) → (a && a) ≡ a
and-same false = refl
and-same true = refl

pub and-and : (a b : Bool) → (a && (a && b)) ≡ (a && b)
and-and false b = refl
and-and true b = refl

pub and_comm : (a b : Bool) → (a && b) ≡ (b && a)
and_comm false false = refl
and_comm false true = refl
and_comm true false = refl
and_comm true true = refl

pub and_assoc : (a b c : Bool) → ((a && b) && c) ≡ (a && (b && c))
and_assoc false b c = refl
and_assoc true b c = refl

pub and_left_comm : (a b c : Bool) → (a && (b && c)) ≡ (b && (a && c))
and_left_comm false false c = refl
and_left_comm false true c = refl
and_left_comm true false c = refl
and_left_comm true true c = refl

pub and-xor : (a b c : Bool) → (a && xor b c) ≡ xor (a && b) (a && c)
and-xor false b c = refl
and-xor true b c = refl

pub xor-and : (a b c : Bool) → (xor a b && c) ≡ xor (a && c) (b && c)
xor-and false b c = refl
xor-and true false false = refl
xor-and true false true = refl
xor-and true true false = refl
xor-and true true true = refl

-- what a conjunction that holds says of its parts
pub and-left : (a b : Bool) → (a && b) ≡ true → a ≡ true
and-left true b h = refl
and-left false b h = h

pub and-right : (a b : Bool) → (a && b) ≡ true → b ≡ true
and-right true b h = h
and-right false b h = cc

-- By this set `simp` proves each identity of bits in `xor` and `&&`: both sides become sums of products, sorted,
-- and equal terms cancel.
pub ruleset expand = (false-and, and-false, true-and, and-true, false-xor, xor-false, and-xor, xor-and, and_assoc, and-same, and-and, and_comm, and_left_comm, xor_assoc, xor-same, xor-xor, xor_comm, xor_left_comm)

-- ---- bits as numbers
-- what holds of the numbers 0 and 1 holds of any two below 2
pub each_below_two : (P : ℕ → ℕ → Type 0) → P 0 0 → P 0 1 → P 1 0 → P 1 1 → (x y : ℕ) → x < 2 → y < 2 → P x y
each_below_two P a b c d zero zero p q = a
each_below_two P a b c d zero (suc zero) p q = b
each_below_two P a b c d (suc zero) zero p q = c
each_below_two P a b c d (suc zero) (suc zero) p q = d
each_below_two P a b c d x (suc (suc y)) p q = absurd (omega arith)
each_below_two P a b c d (suc (suc x)) y p q = absurd (omega arith)

pub sum_of_bits : (x y : ℕ) → x < 2 → y < 2 → eqb ((x + y) % 2) 1 ≡ xor (eqb x 1) (eqb y 1)
sum_of_bits = each_below_two (λ x y. eqb ((x + y) % 2) 1 ≡ xor (eqb x 1) (eqb y 1)) refl refl refl refl
