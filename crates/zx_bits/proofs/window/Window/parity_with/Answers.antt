use Rattle.std.proofs.Common.{◌∙◌, ap, ap₂, arith}
use Rattle.std.specs.Int.RustNames.{bit_and, bit_xor}
use Rattle.zx_bits.specs.Internal.Words.{digit, is_odd}
use Rattle.zx_bits.proofs.Digits.{count_ones-odd}
use Rattle.zx_bits.proofs.WindowLemmas.{word_in, common_at_first, common_next, common_at_last}
use Rattle.zx_bits.proofs.window.Window.parity_with.Goals as goal

pub loop-number-init : goal.loop-number-init
loop-number-init c = common_at_first c.args.self.now c.args.other.now c.max-number.result c.max-number.ensures

pub loop-number-preserved : goal.loop-number-preserved
loop-number-preserved c =
    let ours = word_in c.args.self.now c.as_slice-ours.result.now c.loop-number.number c.as_slice-ours.ensures (omega (arith, c.max-number.ensures)) in
    let theirs = word_in c.args.other.now c.as_slice-theirs.result.now c.loop-number.number c.as_slice-theirs.ensures (omega (arith, c.max-number.ensures)) in
    ap (λ m. is_odd 64 (digit (bit_xor c.loop-number.common m))) (ap₂ bit_and ours theirs)
    ∙ common_next c.args.self.now c.args.other.now c.loop-number.common c.loop-number.number c.loop-number.invariant

pub returns : goal.returns
returns c len unset =
    count_ones-odd 64 c.loop-number.common (omega arith) ∙ c.loop-number.invariant
    ∙ common_at_last c.args.self.now c.args.other.now c.loop-number.number len (omega (arith, c.end.ensures, c.end-2.ensures, c.min-number-end.ensures)) unset
