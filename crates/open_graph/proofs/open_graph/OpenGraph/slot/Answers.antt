use Rattle.std.proofs.Common.{◌∙◌, sym, ap, subst, None, slice_index_or}
use Rattle.zx_model.specs.Bits.{member}
use Rattle.zx_calculus.specs.Graph.{ids}
use Rattle.open_graph.specs.OpenGraph.{OpenGraph}
use Rattle.open_graph.specs.Internal.Slots.{told_at, Tells}
use Rattle.open_graph.proofs.SlotLemmas.{member-vertices, some_of_live, slot_tells}
use Rattle.open_graph.proofs.open_graph.OpenGraph.slot.Goals as goal

pub index-requires : goal.index-requires
index-requires c =
    some_of_live _
    (ap (λ p. (told_at c.self.inside.slots.slots p).live) c.get.ensures
    ∙ sym (member-vertices c.self.inside.slots.slots c.args.v)
    ∙ ap (λ g. member c.args.v (ids g.graph.vertices)) c.self.view_is ∙ c.requires)

pub returns : goal.returns
returns c =
    subst (λ (g : OpenGraph). Tells g.graph c.args.v c.index.result.now) c.self.view_is
    (slot_tells c.self.inside.slots.slots c.self.inside.inputs.items c.self.inside.outputs.items c.args.v c.index.result.now c.self.invariant.sound
    (ap (λ p. slice_index_or c.self.inside.slots.slots p None) (sym c.get.ensures) ∙ c.index.ensures))
