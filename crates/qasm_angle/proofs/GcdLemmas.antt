-- The greatest common divisor: one step of Euclid's algorithm, what it divides, and common factors.
use Rattle.std.proofs.Common.{◌≡◌, ℕ, zero, suc, ◌*◌, ◌%◌, ◌/◌, ◌<◌, refl, sym, ◌∙◌, ap, subst, arith}
use Rattle.std.specs.Int.{IsGcd}
use Prim.Native.Nat.{◌∣◌}
use Rattle.std.proofs.lemmas.Nat.Gcd.{IsGcd-from_zero, IsGcd-from_mod, IsGcd-swap, same_from_IsGcd}
use Rattle.std.proofs.Math.Nat.{mul-div-mul_left, div-add-mod, pos_of_dvd_of_pos, mul-div_cancel', mul-one, mul-zero, dvd-mul_left, eq_of_mul-eq-mul_left}
use Rattle.qasm_angle.specs.Ratio.{gcd_within, gcd}

-- enough steps are enough
gcd_within-enough : (k j a b : ℕ) → b < k → b < j → gcd_within k a b ≡ gcd_within j a b
gcd_within-enough (suc k) (suc j) a zero p q = refl
gcd_within-enough (suc k) (suc j) a (suc b) p q = gcd_within-enough k j (suc b) (a % suc b) (omega arith) (omega arith)
gcd_within-enough _ _ a b p q = absurd (omega arith)

pub gcd-zero : (a : ℕ) → gcd a 0 ≡ a
unfolding gcd
gcd-zero a = refl

pub gcd-step : (a b : ℕ) → 0 < b → gcd a b ≡ gcd b (a % b)
unfolding gcd
gcd-step a zero p = absurd (omega arith)
gcd-step a (suc b) p = gcd_within-enough (suc b) (suc (a % suc b)) (suc b) (a % suc b) (omega arith) (omega arith)

IsGcd-gcd_within : (k a b : ℕ) → b < k → IsGcd a b (gcd_within k a b)
IsGcd-gcd_within zero a b p = absurd (omega arith)
IsGcd-gcd_within (suc k) a zero p = IsGcd-from_zero a 0 refl
IsGcd-gcd_within (suc k) a (suc b) p = IsGcd-from_mod a (suc b) _ (IsGcd-gcd_within k (suc b) (a % suc b) (omega arith))

pub IsGcd-gcd : (a b : ℕ) → IsGcd a b (gcd a b)
unfolding gcd
IsGcd-gcd a b = IsGcd-gcd_within (suc b) a b (omega arith)

pub gcd_pos : (a b : ℕ) → 0 < b → 0 < gcd a b
gcd_pos a b p = pos_of_dvd_of_pos (IsGcd-gcd a b).1 p

-- a common factor of both sides of a division is one of its remainder
mul-mod : (m a b : ℕ) → 0 < m → (m * a) % (m * b) ≡ m * (a % b)
mul-mod m a b p =
    let quotient = mul-div-mul_left a b p in
    let product = div-add-mod (m * a) (m * b) in
    let factor = ap (λ x. m * x) (div-add-mod a b) in
    omega (arith, factor, rw quotient at product)

gcd_within-mul : (m k a b : ℕ) → 0 < m → b < k → gcd (m * a) (m * b) ≡ m * gcd_within k a b
gcd_within-mul m zero a b p q = absurd (omega arith)
gcd_within-mul m (suc k) a zero p q = ap (gcd (m * a)) (mul-zero m) ∙ gcd-zero (m * a)
gcd_within-mul m (suc k) a (suc b) p q =
    gcd-step (m * a) (m * suc b) (omega arith) ∙ ap (gcd (m * suc b)) (mul-mod m a (suc b) p) ∙ gcd_within-mul m k (suc b) (a % suc b) p (omega arith)

pub gcd-mul : (m a b : ℕ) → 0 < m → gcd (m * a) (m * b) ≡ m * gcd a b
unfolding gcd
gcd-mul m a b p = gcd_within-mul m (suc b) a b p (omega arith)

positive_factor : (g x b : ℕ) → g * x ≡ b → 0 < b → 0 < x
positive_factor g zero b e p = omega (arith, e, mul-zero g)
positive_factor g (suc x) b e p = omega arith

pub quotient_pos : (a b : ℕ) → 0 < b → 0 < b / gcd a b
quotient_pos a b p = positive_factor (gcd a b) (b / gcd a b) b (mul-div_cancel' (gcd a b) (IsGcd-gcd a b).1) p

-- what is left without the greatest common divisor has no common factor
pub gcd-quotients : (a b : ℕ) → 0 < b → gcd (a / gcd a b) (b / gcd a b) ≡ 1
gcd-quotients a b p =
    let g = gcd a b in
    let divides = IsGcd-gcd a b in
    let positive = gcd_pos a b p in
    eq_of_mul-eq-mul_left g positive _ _
    (sym (gcd-mul g (a / g) (b / g) positive) ∙ ap (λ x. gcd x (g * (b / g))) (mul-div_cancel' g divides.0) ∙ ap (gcd a) (mul-div_cancel' g divides.1) ∙ sym (mul-one g))

-- a factor that has nothing in common with one factor of a product divides the other
pub divides_other : (a b c : ℕ) → 0 < c → gcd a b ≡ 1 → a ∣ c * b → a ∣ c
divides_other a b c p e h =
    let both = (IsGcd-gcd (c * a) (c * b)).2 a (dvd-mul_left a c) h in
    subst (λ x. a ∣ x) (gcd-mul c a b p ∙ ap (λ x. c * x) e ∙ mul-one c) both

pub gcd_comm : (a b : ℕ) → gcd a b ≡ gcd b a
gcd_comm a b = same_from_IsGcd a b _ _ (IsGcd-gcd a b) (IsGcd-swap b a _ (IsGcd-gcd b a))
