-- The text holds the lines so far.
use Rattle.std.proofs.Common.{◌≡◌, ◌++◌}
use Rattle.std.specs.List.{flat_map}
use Rattle.zx_text.specs.Numbered.{number_in}
use Rattle.zx_text.specs.Internal.Writing.{part}
use Rattle.zx_text.proofs.graph_writer.push_members.Given as goal

abbrev pub invariant-loop-w : goal.invariant-loop-w
invariant-loop-w l = record {
  all : l.yielded ++ l.w-iterator ≡ l.fn.set;
  so_far : l.text.items ≡ l.fn.text.items ++ flat_map (λ w. part (number_in l.used w)) l.yielded;
}
