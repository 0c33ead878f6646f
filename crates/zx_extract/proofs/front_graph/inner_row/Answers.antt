-- The neighbours without the outputs.
use Rattle.std.proofs.Common.{◌∙◌, ap, ap₂, ◌&&◌, not}
use Rattle.zx_model.specs.Bits.{member}
use Rattle.zx_calculus.specs.Graph.{end_vertices}
use Rattle.zx_extract.proofs.Calls.{if_ok}
use Rattle.zx_extract.proofs.front_graph.inner_row.Goals as goal

pub returns : goal.returns
returns c = if_ok c.without_ends.result (λ left is w. is w ∙ ap₂ (λ a b. a && not b)
    (ap (member w) c.in_ok-row.ensures.cases ∙ c.neighbour_set.ensures.members w)
    (ap (λ es. member w (end_vertices es)) c.outputs.ensures.value)) c.without_ends.ensures
