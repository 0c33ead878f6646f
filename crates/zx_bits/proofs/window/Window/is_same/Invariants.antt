use Rattle.std.proofs.Common.{◌≡◌, ◌<◌, ℕ}
use Rattle.zx_bits.specs.Internal.Windows.{word_at}
use Rattle.zx_bits.proofs.window.Window.is_same.Given as goal

abbrev pub invariant-loop-number : goal.invariant-loop-number
invariant-loop-number l = (v : ℕ) → v < l.number → word_at l.self v ≡ word_at l.other v
