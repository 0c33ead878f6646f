-- Numbers of fractions are the same in longer words, and so is their product.
use Rattle.std.proofs.Common.{◌≡◌, ◌*◌, ◌≤◌, ℤ, ◌*ℤ◌, nat_abs, ◌∙◌, sym, ap, ap₂, subst, arith}
use Rattle.std.proofs.lemmas.Int.{to_z-of_z, fits_signed_from_abs, unsigned_abs-mul}
use Rattle.std.proofs.Math.Nat.{mul-le-mul}
use mir.Val.{SFits, of_z, to_z}
use mir.Syntax.{w64, w128}
use Rattle.qasm_angle.specs.Ratio.{largest}
use Rattle.qasm_angle.proofs.RatioLemmas.{SFits-small}
use Rattle.qasm_angle.proofs.fraction.cross.Goals as goal

same : (a n : ℤ) → nat_abs a ≤ largest → n ≡ to_z w64 (of_z w64 a) → to_z w128 (of_z w128 n) ≡ a
same a n small is =
    ap (λ (m : ℤ). to_z w128 (of_z w128 m)) (is ∙ to_z-of_z w64 a (SFits-small a small))
    ∙ to_z-of_z w128 a (fits_signed_from_abs w128 a (omega arith))

small_product : (a b : ℤ) → nat_abs a ≤ largest → nat_abs b ≤ largest → nat_abs (a *ℤ b) ≤ largest * largest
small_product a b p q = rw unsigned_abs-mul (mul-le-mul p q)

fits : (a b : ℤ) → nat_abs a ≤ largest → nat_abs b ≤ largest → SFits w128 (a *ℤ b)
fits a b p q = fits_signed_from_abs w128 (a *ℤ b) (omega (arith, small_product a b p q))

-- the product in the longer word
product : (c : goal.After-from-2) → to_z w128 (of_z w128 c.from.result) *ℤ to_z w128 (of_z w128 c.from-2.result) ≡ c.args.a *ℤ c.args.b
product c = ap₂ (λ m n. m *ℤ n) (same c.args.a _ c.requires.first c.from.ensures) (same c.args.b _ c.requires.second c.from-2.ensures)

pub overflow_mul-result : goal.overflow_mul-result
overflow_mul-result c = subst (SFits w128) (sym (product c)) (fits c.args.a c.args.b c.requires.first c.requires.second)

value : (c : goal.After-from-2) → to_z w128 (of_z w128 (to_z w128 (of_z w128 c.from.result) *ℤ to_z w128 (of_z w128 c.from-2.result))) ≡ c.args.a *ℤ c.args.b
value c = ap (λ (m : ℤ). to_z w128 (of_z w128 m)) (product c) ∙ to_z-of_z w128 _ (fits c.args.a c.args.b c.requires.first c.requires.second)

pub returns-clause-value : goal.returns-clause-value
returns-clause-value c = value c

pub returns-clause-small : goal.returns-clause-small
returns-clause-small c =
    subst (λ (m : ℤ). nat_abs m ≤ largest * largest) (sym (value c)) (small_product c.args.a c.args.b c.requires.first c.requires.second)
