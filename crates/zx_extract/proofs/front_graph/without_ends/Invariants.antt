-- The vertices of the first ends are taken out.
use Rattle.std.proofs.Common.{◌≡◌, ℕ, ◌&&◌, not, take}
use Rattle.zx_model.specs.Bits.{member}
use Rattle.zx_calculus.specs.Graph.{end_vertices}
use Rattle.zx_extract.proofs.front_graph.without_ends.Given as goal

abbrev pub invariant-loop-end : goal.invariant-loop-end
invariant-loop-end l = (w : ℕ) → member w l.left.ids ≡ (member w l.initial.left.ids && not (member w (end_vertices (take l.end-index l.ends))))
