-- What is written is the file of the numbered graph.
use Rattle.std.proofs.Common.{◌∙◌}
use Rattle.std.specs.Option.{option_map}
use Rattle.gflow_laws.specs.Flow.{IsTableOf}
use Rattle.gflow_laws.specs.Seen.{seen}
use Rattle.zx_text.proofs.WrittenLemmas.{assembled, lent_table}
use Rattle.zx_text.proofs.FiledLemmas.{written_spells}
use Rattle.zx_text.proofs.graph_writer.write_graph.Goals as goal

pub returns-clause-text : goal.returns-clause-text
returns-clause-text c =
    let g = c.args.g.now.graph in
    let used = c.in_ok-used.ensures.all in
    assembled g (option_map (λ flow. flow.now.flow) c.args.f) c.inputs.result.now c.outputs.result.now
    c.deref.result.now c.deref-2.result.now c.deref-3.result.now c.deref-4.result.now c.deref-5.result.now
    c.new-text.result.items c.extend_from_slice.new.self.items c.push_vertices.new.text.items
    c.push_edges.new.text.items c.push_ends.new.text.items c.push_ends-2.new.text.items
    c.push_lent.new.text.items c.extend_from_slice-2.new.self.items c.inputs.ensures.valid
    (lent_table (λ flow. flow.now.flow) (IsTableOf (seen g)) c.args.f c.requires.flow)
    c.inputs.ensures.value c.outputs.ensures.value
    (c.deref.ensures.value ∙ used) (c.deref-2.ensures.value ∙ used) (c.deref-3.ensures.value ∙ used)
    (c.deref-4.ensures.value ∙ used) (c.deref-5.ensures.value ∙ used)
    c.new-text.ensures.items c.in_ok-extend_from_slice.ensures.items c.in_ok-push_vertices.ensures
    c.in_ok-push_edges.ensures c.in_ok-push_ends.ensures c.in_ok-push_ends-2.ensures
    c.in_ok-push_lent.ensures.text c.in_ok-extend_from_slice-2.ensures.items

pub returns-clause-file : goal.returns-clause-file
returns-clause-file c =
    let g = c.args.g.now.graph in
    written_spells g (option_map (λ flow. flow.now.flow) c.args.f) _ c.inputs.ensures.valid
    (lent_table (λ flow. flow.now.flow) (IsTableOf (seen g)) c.args.f c.requires.flow)
    c.in_ok-push_lent.ensures.rising (returns-clause-text c)

pub returns-clause-valid : goal.returns-clause-valid
returns-clause-valid c = c.inputs.ensures.valid
