use Rattle.std.proofs.Common.{◌≡◌, ℕ, drop}
use Rattle.zx_model.specs.Bits.{xor, member}
use Rattle.zx_calculus.specs.Graph.{Distinct}
use Rattle.open_graph.proofs.vertex_set.VertexSet.toggle_each.Given as goal

abbrev pub invariant-loop-id : goal.invariant-loop-id
invariant-loop-id l = record {
  differ : Distinct (drop l.id-index l.ids);
  toggled : (w : ℕ) → xor (member w l.self.ids) (member w (drop l.id-index l.ids)) ≡ xor (member w l.fn.self.ids) (member w l.ids);
}
