use Rattle.std.proofs.Common.{◌≡◌, Some}
use Rattle.qasm_angle.specs.Ratio.{limited, sum}
use Rattle.qasm_angle.proofs.ShortCuts.{both, of_nothing, sum-nothing, nothing-sum}
use Rattle.qasm_angle.proofs.fraction.Fraction.checked_add.Goals as goal

pub returns-then-self-eq0 : goal.returns-then-self-eq0
returns-then-self-eq0 c =
    both c.self.view_is c.other.view_is (λ x y. Some y ≡ limited (sum x y))
    (nothing-sum _ _ c.self.invariant c.other.invariant (of_nothing _ c.self.invariant.small_numerator c.if-self-eq0.true))

pub returns-then-other-eq0 : goal.returns-then-other-eq0
returns-then-other-eq0 c =
    both c.self.view_is c.other.view_is (λ x y. Some x ≡ limited (sum x y))
    (sum-nothing _ _ c.self.invariant c.other.invariant (of_nothing _ c.other.invariant.small_numerator c.if-other-eq0.true))
