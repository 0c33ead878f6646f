use Rattle.std.proofs.Common.{◌≡◌, ◌&&◌, ◌*◌}
use Rattle.zx_bits.specs.Internal.Words.{how_many}
use Rattle.zx_bits.specs.Internal.Windows.{is_set}
use Rattle.zx_bits.proofs.window.Window.count_common.Given as goal

abbrev pub invariant-loop-number : goal.invariant-loop-number
invariant-loop-number l = l.count ≡ how_many (64 * l.number) (λ place. is_set l.self place && is_set l.other place)
