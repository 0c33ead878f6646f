-- The text holds the lines so far.
use Rattle.std.proofs.Common.{◌≡◌, ◌++◌, take}
use Rattle.std.specs.List.{flat_map}
use Rattle.zx_text.specs.Numbered.{number_in}
use Rattle.zx_text.specs.Internal.Writing.{part}
use Rattle.zx_text.proofs.graph_writer.push_order.Given as goal

abbrev pub invariant-loop-v : goal.invariant-loop-v
invariant-loop-v l = l.text.items ≡ l.fn.text.items ++ flat_map (λ v. part (number_in l.used v)) (take l.v-index l.order)
