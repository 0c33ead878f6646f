-- The text holds the lines so far.
use Rattle.std.proofs.Common.{◌≡◌, ◌++◌}
use Rattle.std.specs.List.{flat_map}
use Rattle.zx_text.specs.Internal.Writing.{edge_text}
use Rattle.zx_text.proofs.graph_writer.push_edges_from.Given as goal

abbrev pub invariant-loop-w : goal.invariant-loop-w
invariant-loop-w l = record {
  all : l.yielded ++ l.w-iterator ≡ l.fn.neighbours;
  so_far : l.text.items ≡ l.fn.text.items ++ flat_map (edge_text l.used l.v) l.yielded;
}
