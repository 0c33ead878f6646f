-- One more output.
use Rattle.std.proofs.Common.{◌≡◌, ◌∙◌, ap, subst, sym, not, length, true≢false, arith}
use Rattle.std.proofs.lemmas.List.{take_all as all_of}
use Rattle.std.specs.Prelude.{slice_get, Some}
use Rattle.zx_model.specs.Bits.{member}
use Rattle.zx_calculus.specs.Graph.{end_vertices}
use Rattle.zx_calculus.proofs.Programs.{end_there}
use Rattle.zx_calculus.proofs.ReducedLemmas.{length-places}
use Rattle.zx_extract.specs.Internal.FrontGraphs.{IsMet}
use Rattle.zx_extract.proofs.Fronts.{met_already, met_toggled, place_member, take_place, same_bits, other_bits}
use Rattle.zx_extract.proofs.front_graph.meet_outputs.Goals as goal
use Rattle.zx_extract.proofs.front_graph.meet_outputs.Goals.{After-output_vertex-output}

-- the output stands at its place
at : (c : After-output_vertex-output) →
    slice_get (end_vertices c.args.g.now.graph.outputs) c.loop-i.i ≡ Some c.output_vertex-output.result
at c = ap (λ es. slice_get (end_vertices es) c.loop-i.i) (sym c.loop-i.invariant.met.outputs_stay) ∙ c.output_vertex-output.ensures.value

pub loop-i-preserved-then-contains-has_edge : goal.loop-i-preserved-then-contains-has_edge
loop-i-preserved-then-contains-has_edge c =
    let w = c.output_vertex-output.result in
    let vs = end_vertices c.args.g.now.graph.outputs in
    record {
      met = subst (λ us. IsMet c.args.g.now.graph c.args.rows.now.lists c.args.v us c.loop-i.g.graph)
          (sym (take_place vs c.loop-i.i w (at (goal.at.loop-i-preserved-then-contains-has_edge c).After-output_vertex-output)))
          (met_already c.loop-i.invariant.met w (sym c.has_edge.ensures.value
          ∙ same_bits c.contains.result c.has_edge.result c.if-contains-has_edge.true ∙ c.contains.ensures
          ∙ ap (member c.args.v) c.get.ensures));
      valid = c.loop-i.invariant.valid;
    }

pub toggle_edge-requires-clause-v_live : goal.toggle_edge-requires-clause-v_live
toggle_edge-requires-clause-v_live c = end_there c.loop-i.g.graph c.loop-i.invariant.valid c.output_vertex-output.result
    c.loop-i.g.graph.outputs c.loop-i.invariant.valid.outputs.there
    (place_member (end_vertices c.loop-i.g.graph.outputs) c.loop-i.i c.output_vertex-output.result
    c.output_vertex-output.ensures.value)

pub toggle_edge-requires-clause-different : goal.toggle_edge-requires-clause-different
toggle_edge-requires-clause-different c = λ e.
    let vs = end_vertices c.args.g.now.graph.outputs in
    true≢false (sym (place_member vs c.loop-i.i c.output_vertex-output.result
    (at (goal.at.toggle_edge-requires-clause-different c).After-output_vertex-output))
    ∙ ap (λ x. member x vs) (sym e) ∙ c.requires.no_output)

pub loop-i-preserved : goal.loop-i-preserved
loop-i-preserved c =
    let w = c.output_vertex-output.result in
    let vs = end_vertices c.args.g.now.graph.outputs in
    let place = at (goal.at.loop-i-preserved c).After-output_vertex-output in
    record {
      met = subst (λ us. IsMet c.args.g.now.graph c.args.rows.now.lists c.args.v us c.toggle_edge.new.self.graph)
          (sym (take_place vs c.loop-i.i w place))
          (met_toggled c.loop-i.invariant.met w (λ e. true≢false (sym (place_member vs c.loop-i.i w place)
          ∙ ap (λ x. member x vs) (sym e) ∙ c.requires.no_output)) c.in_ok-toggle_edge.ensures.ok
          (ap (member c.args.v) (sym c.get.ensures) ∙ sym c.contains.ensures
          ∙ other_bits c.contains.result c.has_edge.result c.if-contains-has_edge.false
          ∙ ap not c.has_edge.ensures.value));
      valid = c.toggle_edge.ensures.valid;
    }

pub returns-clause-met : goal.returns-clause-met
returns-clause-met c =
    let vs = end_vertices c.args.g.now.graph.outputs in
    subst (λ us. IsMet c.args.g.now.graph c.args.rows.now.lists c.args.v us c.loop-i.g.graph)
    (all_of c.loop-i.i vs (omega (arith, length-places c.args.g.now.graph.outputs, ap length c.outputs-end.ensures.value)))
    c.loop-i.invariant.met
