use Rattle.std.proofs.Common.{◌∙◌, ◌+◌, ◌-◌, ◌*◌, ◌&&◌, arith}
use Rattle.zx_bits.specs.Internal.Windows.{is_set}
use Rattle.zx_bits.proofs.Counts.{many-le}
use Rattle.zx_bits.proofs.WindowLemmas.{word_in}
use Rattle.zx_bits.proofs.SetLemmas.{both_at_first, both_next, both_places}
use Rattle.zx_bits.proofs.window.Window.count_common.Goals as goal

pub loop-number-init : goal.loop-number-init
loop-number-init c = both_at_first c.args.self.now c.args.other.now c.max-number.result c.max-number.ensures

pub loop-number-preserved : goal.loop-number-preserved
loop-number-preserved c =
    let number = c.loop-number.number in
    let ours = word_in c.args.self.now c.as_slice-ours.result.now number c.as_slice-ours.ensures (omega (arith, c.max-number.ensures)) in
    let theirs = word_in c.args.other.now c.as_slice-theirs.result.now number c.as_slice-theirs.ensures (omega (arith, c.max-number.ensures)) in
    let next = both_next c.args.self.now c.args.other.now number _ _ (omega (arith, c.type_inv.ours (number - c.args.self.now.offset))) ours theirs in
    omega (arith, next, c.loop-number.invariant)

pub overflow_add-count : goal.overflow_add-count
overflow_add-count c =
    let most = many-le (64 * (c.loop-number.number + 1)) (λ place. is_set c.args.self.now place && is_set c.args.other.now place) in
    omega (arith, loop-number-preserved c, most, c.requires.bounded, c.end.ensures, c.min-number-end.ensures)

pub returns : goal.returns
returns c =
    c.loop-number.invariant
    ∙ both_places c.args.self.now c.args.other.now c.loop-number.number (omega (arith, c.end.ensures, c.end-2.ensures, c.min-number-end.ensures))
