use Rattle.std.proofs.Common.{sym, ◌∙◌}
use Rattle.std.proofs.Math.Nat.{mul-pos}
use Rattle.qasm_angle.proofs.GcdLemmas.{gcd_pos, quotient_pos}
use Rattle.qasm_angle.proofs.DecimalLemmas.{computed-twice, none-twice}
use Rattle.qasm_angle.proofs.scaling.lowered_twice.Goals as goal

pub nonzero_div-below : goal.nonzero_div-below
nonzero_div-below c = rw c.gcd-divisor.ensures (gcd_pos _ _ c.requires.first)

pub nonzero_div-leading : goal.nonzero_div-leading
nonzero_div-leading c = rw c.gcd-divisor.ensures (gcd_pos _ _ c.requires.first)

pub returns-then-below-gt-LARGEST : goal.returns-then-below-gt-LARGEST
returns-then-below-gt-LARGEST c =
    sym (none-twice c.args.leading c.args.first c.args.second c.requires.first c.requires.second (rw c.gcd-divisor.ensures at c.if-below-gt-LARGEST.true))

pub reduced-requires : goal.reduced-requires
reduced-requires c = rw c.gcd-divisor.ensures (mul-pos (quotient_pos c.args.leading c.args.first c.requires.first) c.requires.second)

pub returns : goal.returns
returns c = c.reduced.ensures ∙ computed-twice c.args.leading c.args.first c.args.second _ c.requires.small c.requires.first c.requires.second c.gcd-divisor.ensures
