use Rattle.std.proofs.Common.{◌∙◌, ap, ℕ, ◌+◌, ◌*◌, List, get_or, length, arith}
use Rattle.zx_bits.specs.Internal.Windows.{is_set}
use Rattle.zx_bits.proofs.Counts.{many-le}
use Rattle.zx_bits.proofs.SetLemmas.{many_at_first, many_next, many_places}
use Rattle.zx_bits.proofs.window.Window.count.Goals as goal

pub loop-word-init : goal.loop-word-init
loop-word-init c = many_at_first c.args.self.now

pub loop-word-preserved : goal.loop-word-preserved
loop-word-preserved c =
    let word : ℕ = get_or c.as_slice-word-items.result.now c.loop-word.word-index 0 in
    let next = many_next c.args.self.now c.loop-word.word-index word (omega (arith, c.type_inv.word-items c.loop-word.word-index)) (ap (λ (l : List ℕ). get_or l c.loop-word.word-index 0) c.as_slice-word-items.ensures) in
    omega (arith, next, c.loop-word.invariant)

pub overflow_add-count : goal.overflow_add-count
overflow_add-count c =
    let stop = 64 * (c.args.self.now.offset + (c.loop-word.word-index + 1)) in
    let size = ap length c.as_slice-word-items.ensures in
    omega (arith, loop-word-preserved c, c.requires, size, many-le stop (is_set c.args.self.now))

pub returns : goal.returns
returns c =
    let size = ap length c.as_slice-word-items.ensures in
    c.loop-word.invariant ∙ many_places c.args.self.now (c.args.self.now.offset + c.loop-word.word-index) (omega (arith, size))
