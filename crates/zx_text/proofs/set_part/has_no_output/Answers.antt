-- A vertex of the graph that isn't that of an output.
use Rattle.std.proofs.Common.{◌∙◌, sym, ap, not, ◌&&◌}
use Rattle.zx_model.specs.Bits.{member}
use Rattle.zx_calculus.specs.Graph.{end_vertices}
use Rattle.zx_text.specs.Files.{non_outputs}
use Rattle.zx_text.specs.Internal.Stepping.{Part}
use Rattle.zx_text.proofs.SetLemmas.{none_out, out_test}
use Rattle.zx_text.proofs.set_part.has_no_output.Goals as goal

pub returns-then-is_live : goal.returns-then-is_live
returns-then-is_live c =
    out_test _ _ c.is_none.result c.output_at.result (sym c.is_live.ensures.value ∙ c.if-is_live.true) c.output_at.ensures.found c.is_none.ensures
    ∙ sym (none_out c.part.inside.graph.graph c.args.v)
    ∙ ap (λ (p : Part). member c.args.v (non_outputs p.graph)) c.part.view_is

pub returns-else-is_live : goal.returns-else-is_live
returns-else-is_live c =
    c.if-is_live.false
    ∙ sym (none_out c.part.inside.graph.graph c.args.v ∙ ap (λ b. b && not (member c.args.v (end_vertices c.part.inside.graph.graph.outputs))) (sym c.is_live.ensures.value ∙ c.if-is_live.false))
    ∙ ap (λ (p : Part). member c.args.v (non_outputs p.graph)) c.part.view_is
