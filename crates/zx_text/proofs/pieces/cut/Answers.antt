-- Where a text is cut.
use Rattle.std.proofs.Common.{arith}
use Rattle.zx_text.proofs.PieceLemmas.{none_before, none_in}
use Rattle.zx_text.proofs.pieces.cut.Goals as goal

pub returns-then-byte-separator-clause-first : goal.returns-then-byte-separator-clause-first
returns-then-byte-separator-clause-first c =
    none_before c.args.separator c.args.text.now c.loop-place.place c.loop-place.invariant

pub returns-clause-none : goal.returns-clause-none
returns-clause-none c =
    none_in c.args.separator c.args.text.now (λ k lt. c.loop-place.invariant k (omega arith))
