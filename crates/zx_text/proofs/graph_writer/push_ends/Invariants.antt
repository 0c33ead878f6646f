-- The text holds the lines so far.
use Rattle.std.proofs.Common.{◌≡◌, ◌++◌, take}
use Rattle.std.specs.List.{flat_map}
use Rattle.zx_text.specs.Internal.Writing.{end_text}
use Rattle.zx_text.proofs.graph_writer.push_ends.Given as goal

abbrev pub invariant-loop-end : goal.invariant-loop-end
invariant-loop-end l = l.text.items ≡ l.fn.text.items ++ flat_map (end_text l.kind l.used) (take l.end-index l.ends)
