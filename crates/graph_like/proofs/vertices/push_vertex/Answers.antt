use Rattle.std.proofs.Common.{◌∙◌, ap, List}
use Rattle.zx_calculus.specs.Graph.{Vertex, Graph}
use Rattle.graph_like.proofs.Building.{pushed_last, numbered_least, numbered_more}
use Rattle.graph_like.proofs.vertices.push_vertex.Goals as goal

pub returns-clause-number : goal.returns-clause-number
returns-clause-number c = c.in_ok-v.ensures.least ∙ numbered_least c.args.graph.now.graph c.requires

pub returns-clause-ok : goal.returns-clause-ok
returns-clause-ok c =
    c.in_ok-v.ensures.ok
    ∙ ap (λ (vs : List Vertex). let h : Graph = record c.args.graph.now.graph { vertices = vs } in h)
    (pushed_last c.args.graph.now.graph c.in_ok-v.v c.args.phase c.requires c.in_ok-v.ensures.least)

pub returns-clause-numbered : goal.returns-clause-numbered
returns-clause-numbered c =
    numbered_more c.args.graph.now.graph c.add_vertex.new.self.graph c.args.phase c.requires
    (ap (λ (h : Graph). h.vertices) c.in_ok-v.ensures.ok ∙ pushed_last c.args.graph.now.graph c.in_ok-v.v c.args.phase c.requires c.in_ok-v.ensures.least)
    c.in_ok-v.ensures.valid
