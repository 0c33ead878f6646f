use Rattle.std.proofs.Common.{◌≡◌, ◌&&◌, ◌*◌}
use Rattle.zx_bits.specs.Internal.Words.{digit, is_odd}
use Rattle.zx_bits.specs.Internal.Windows.{is_set}
use Rattle.zx_bits.proofs.window.Window.parity_with.Given as goal

abbrev pub invariant-loop-number : goal.invariant-loop-number
invariant-loop-number l = is_odd 64 (digit l.common) ≡ is_odd (64 * l.number) (λ place. is_set l.self place && is_set l.other place)
