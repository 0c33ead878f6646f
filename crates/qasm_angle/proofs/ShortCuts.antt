-- Sums and products that need no greatest common divisor, or a smaller one.
use Rattle.std.proofs.Common.{◌≡◌, ℕ, ◌*◌, ◌<◌, ◌≤◌, ◌⊎◌, inl, inr, ℤ, pos, ◌+ℤ◌, ◌*ℤ◌, nat_abs, Some, sym, ◌∙◌, ap, ap₂, subst, arith}
use Rattle.std.proofs.Math.IntN.{*ℤ_comm, zero-*ℤ, *ℤ-zero, +ℤ_comm, +ℤ_idr}
use Rattle.std.proofs.lemmas.Int.{to_z-of_z}
use mir.Val.{of_z, to_z}
use mir.Syntax.{w64}
use Rattle.std.proofs.Math.Nat.{mul-pos, mul_comm, one-mul}
use Rattle.zx_model.proofs.Whole.{mul_assoc, add-mul}
use Rattle.qasm_angle.specs.Ratio.{Ratio, gcd, lowest, limited, largest, whole, sum, product, IsFraction}
use Rattle.qasm_angle.proofs.LowestLemmas.{lowest_pos, lowest_coprime, lowest_same, lowest_unique, factor_cancels}
use Rattle.qasm_angle.proofs.RatioLemmas.{limited-some, SFits-small}

swap : (x y z : ℤ) → (x *ℤ y) *ℤ z ≡ (x *ℤ z) *ℤ y
swap x y z = mul_assoc x y z ∙ ap (λ n. x *ℤ n) (*ℤ_comm y z) ∙ sym (mul_assoc x z y)

-- a common factor goes
pub lowest-common : (a : ℤ) (b m : ℕ) → 0 < b → 0 < m → lowest (a *ℤ pos m) (b * m) ≡ lowest a b
lowest-common a b m p q =
    let first = lowest (a *ℤ pos m) (b * m) in
    let second = lowest a b in
    let both : 0 < b * m = mul-pos p q in
    let left : (first.numerator *ℤ pos second.denominator) *ℤ pos (b * m) ≡ ((a *ℤ pos m) *ℤ pos first.denominator) *ℤ pos second.denominator =
    swap first.numerator (pos second.denominator) (pos (b * m)) ∙ ap (λ n. n *ℤ pos second.denominator) (lowest_same (a *ℤ pos m) (b * m) both) in
    let right : (second.numerator *ℤ pos first.denominator) *ℤ pos (b * m) ≡ ((a *ℤ pos second.denominator) *ℤ pos first.denominator) *ℤ pos m =
    sym (mul_assoc (second.numerator *ℤ pos first.denominator) (pos b) (pos m))
    ∙ ap (λ n. n *ℤ pos m) (swap second.numerator (pos first.denominator) (pos b) ∙ ap (λ n. n *ℤ pos first.denominator) (lowest_same a b p)) in
    let middle : ((a *ℤ pos m) *ℤ pos first.denominator) *ℤ pos second.denominator ≡ ((a *ℤ pos second.denominator) *ℤ pos first.denominator) *ℤ pos m =
    ap (λ n. n *ℤ pos second.denominator) (swap a (pos m) (pos first.denominator))
    ∙ swap (a *ℤ pos first.denominator) (pos m) (pos second.denominator)
    ∙ ap (λ n. n *ℤ pos m) (swap a (pos first.denominator) (pos second.denominator)) in
    lowest_unique first second (lowest_pos (a *ℤ pos m) (b * m) both) (lowest_pos a b p) (lowest_coprime (a *ℤ pos m) (b * m) both) (lowest_coprime a b p)
    (factor_cancels _ _ (b * m) both (left ∙ middle ∙ sym right))

-- numbers without a common divisor stay
pub lowest-apart : (x : Ratio) → 0 < x.denominator → gcd (nat_abs x.numerator) x.denominator ≡ 1 → lowest x.numerator x.denominator ≡ x
lowest-apart x p e =
    lowest_unique (lowest x.numerator x.denominator) x (lowest_pos _ _ p) p (lowest_coprime _ _ p) e (lowest_same _ _ p)

lowest-fraction : (x : Ratio) → IsFraction x → lowest x.numerator x.denominator ≡ x
lowest-fraction x f = lowest-apart x f.positive f.lowest

-- a machine's number that is 0
pub of_nothing : (a : ℤ) → nat_abs a ≤ largest → of_z w64 a ≡ 0 → a ≡ pos 0
of_nothing a small e = sym (to_z-of_z w64 a (SFits-small a small)) ∙ ap (to_z w64) e

pub both : {x y s o : Ratio} → x ≡ s → y ≡ o → (P : Ratio → Ratio → Type 0) → P x y → P s o
both {x = x} {o = o} e f P h = subst (λ r. P r o) e (subst (P x) f h)

limited-fraction : (x : Ratio) → IsFraction x → limited x ≡ Some x
limited-fraction x f = limited-some x f.small_numerator f.small_denominator

-- adding nothing
pub sum-nothing : (x y : Ratio) → IsFraction x → IsFraction y → y.numerator ≡ pos 0 → Some x ≡ limited (sum x y)
sum-nothing x y f g h =
    let above : x.numerator *ℤ pos y.denominator +ℤ y.numerator *ℤ pos x.denominator ≡ x.numerator *ℤ pos y.denominator =
    ap (λ n. x.numerator *ℤ pos y.denominator +ℤ n *ℤ pos x.denominator) h
    ∙ ap (λ n. x.numerator *ℤ pos y.denominator +ℤ n) (zero-*ℤ (pos x.denominator)) ∙ +ℤ_idr (x.numerator *ℤ pos y.denominator) in
    sym (ap (λ n. limited (lowest n (x.denominator * y.denominator))) above
    ∙ ap limited (lowest-common x.numerator x.denominator y.denominator f.positive g.positive ∙ lowest-fraction x f) ∙ limited-fraction x f)

pub nothing-sum : (x y : Ratio) → IsFraction x → IsFraction y → x.numerator ≡ pos 0 → Some y ≡ limited (sum x y)
nothing-sum x y f g h =
    sum-nothing y x g f h
    ∙ ap₂ (λ n d. limited (lowest n d)) (+ℤ_comm (y.numerator *ℤ pos x.denominator) (x.numerator *ℤ pos y.denominator)) (mul_comm y.denominator x.denominator)

-- one denominator serves both
pub sum-common : (x y : Ratio) → 0 < x.denominator → x.denominator ≡ y.denominator →
    limited (lowest (x.numerator +ℤ y.numerator) x.denominator) ≡ limited (sum x y)
sum-common x y p e =
    sym (ap₂ (λ n d. limited (lowest (x.numerator *ℤ pos n +ℤ y.numerator *ℤ pos x.denominator) (x.denominator * d))) (sym e) (sym e)
    ∙ ap (λ n. limited (lowest n (x.denominator * x.denominator))) (sym (add-mul x.numerator y.numerator (pos x.denominator)))
    ∙ ap limited (lowest-common (x.numerator +ℤ y.numerator) x.denominator x.denominator p p))

nothing : (b : ℕ) → 0 < b → lowest (pos 0) b ≡ whole (pos 0)
unfolding lowest gcd
nothing b p =
    ap₂ lowest (sym (zero-*ℤ (pos b))) (sym (one-mul b)) ∙ lowest-common (pos 0) 1 b (omega arith) p

pub product-nothing : (x y : Ratio) → 0 < x.denominator → 0 < y.denominator → (x.numerator ≡ pos 0) ⊎ (y.numerator ≡ pos 0) →
    Some (whole (pos 0)) ≡ limited (product x y)
unfolding limited
product-nothing x y p q (inl h) =
    sym (ap (λ n. limited (lowest (n *ℤ y.numerator) (x.denominator * y.denominator))) h
    ∙ ap (λ n. limited (lowest n (x.denominator * y.denominator))) (zero-*ℤ y.numerator)
    ∙ ap limited (nothing (x.denominator * y.denominator) (mul-pos p q)))
product-nothing x y p q (inr h) =
    sym (ap (λ n. limited (lowest (x.numerator *ℤ n) (x.denominator * y.denominator))) h
    ∙ ap (λ n. limited (lowest n (x.denominator * y.denominator))) (*ℤ-zero x.numerator)
    ∙ ap limited (nothing (x.denominator * y.denominator) (mul-pos p q)))
