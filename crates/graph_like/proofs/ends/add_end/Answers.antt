use Rattle.std.proofs.Common.{◌∙◌, ap, ap₂, ℕ, List}
use Rattle.zx_model.specs.Bits.{member}
use Rattle.zx_calculus.specs.Graph.{End, end_vertices}
use Rattle.graph_like.proofs.Building.{numbered_live}
use Rattle.graph_like.proofs.Ending.{free_behind, ends_of-hangs}
use Rattle.graph_like.proofs.ends.add_end.Goals as goal

pub has_end-requires : goal.has_end-requires
has_end-requires c = numbered_live c.args.graph.now.graph c.args.v c.requires.numbered c.requires.there

pub push_end-requires-clause-free : goal.push_end-requires-clause-free
push_end-requires-clause-free c =
    ap₂ (λ (v : ℕ) (es : List End). member v (end_vertices es)) (ap (λ (e : End). e.vertex) c.in_ok-end.ensures.end)
    (ends_of-hangs c.args.side c.args.v c.args.graph.now.graph c.split_off.new.graph.graph c.in_ok-end.ensures.hangs)
    ∙ free_behind c.args.side c.args.graph.now.graph c.requires.numbered
