use Rattle.std.proofs.Common.{◌-◌, length}
use Rattle.zx_bits.proofs.WindowLemmas.{AddsFirst}
use Rattle.zx_bits.proofs.window.add_words.Given as goal

abbrev pub invariant-fours : goal.invariant-fours
invariant-fours l = AddsFirst l.initial.words l.words l.start l.added l.i

abbrev pub decreases-fours : goal.decreases-fours
decreases-fours l = length l.added - l.i

abbrev pub invariant-rest : goal.invariant-rest
invariant-rest l = AddsFirst l.fn.words l.words l.start l.added l.i

abbrev pub decreases-rest : goal.decreases-rest
decreases-rest l = length l.added - l.i
