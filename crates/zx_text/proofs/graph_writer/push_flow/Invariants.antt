-- The text holds the lines so far.
use Rattle.std.proofs.Common.{◌≡◌, ◌++◌, true}
use Rattle.std.specs.List.{flat_map, list_all}
use Rattle.zx_calculus.specs.Graph.{ids}
use Rattle.zx_text.specs.Numbered.{number_in}
use Rattle.zx_text.specs.Internal.Writing.{part, set_text, rises}
use Rattle.std.proofs.Common.{codes}
use Rattle.gflow_laws.specs.Flow.{order_of}
use Rattle.zx_text.proofs.graph_writer.push_flow.Given as goal

abbrev pub invariant-loop-v : goal.invariant-loop-v
invariant-loop-v l = record {
  all : l.yielded ++ l.v-iterator ≡ ids l.g.graph.vertices;
  so_far : l.text.items ≡ l.fn.text.items ++ codes "flow\norder" ++ flat_map (λ v. part (number_in l.used v)) (order_of l.flow.flow) ++ codes "\n" ++ flat_map (set_text l.g.graph l.used l.flow.flow) l.yielded;
  rising : list_all (rises l.g.graph l.flow.flow) l.yielded ≡ true;
}
