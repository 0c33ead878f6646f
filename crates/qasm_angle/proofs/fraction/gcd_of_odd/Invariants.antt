use Rattle.std.proofs.Common.{◌≡◌, ◌+◌, ◌%◌}
use Rattle.qasm_angle.specs.Ratio.{gcd}
use Rattle.qasm_angle.proofs.fraction.gcd_of_odd.Given as goal

abbrev pub invariant-loop-left : goal.invariant-loop-left
invariant-loop-left l = (gcd l.left l.right ≡ gcd l.fn.a l.fn.b) × (l.left % 2 ≡ 1) × (l.right % 2 ≡ 1)

abbrev pub decreases-loop-left : goal.decreases-loop-left
decreases-loop-left l = l.left + l.right
