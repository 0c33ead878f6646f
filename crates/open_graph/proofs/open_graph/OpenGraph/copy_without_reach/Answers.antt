use Rattle.std.proofs.Common.{◌∙◌, ap, arith}
use Rattle.open_graph.proofs.Keeping.{becomes_copied}
use Rattle.open_graph.proofs.ReachLemmas.{no_room}
use Rattle.open_graph.proofs.open_graph.OpenGraph.copy_without_reach.Goals as goal

pub invariant_of-result : goal.invariant_of-result
invariant_of-result c =
    record {
      sound = (becomes_copied c.self.inside.slots.slots c.in_ok-clone.field-0.slots c.self.inside.inputs.items c.self.inside.outputs.items
          c.self.invariant.sound c.in_ok-from_slice.field-0.items c.in_ok-from_slice-2.field-0.items c.in_ok-clone.ensures.cases.0
          (c.in_ok-from_slice.ensures.items ∙ c.deref.ensures.value) (c.in_ok-from_slice-2.ensures.items ∙ c.deref-2.ensures.value)).sound;
      room = no_room c.in_ok-clone.field-0.slots c.new.result.items c.new.ensures.items;
      scratch = record { near = omega arith; far = omega arith };
    }

pub returns-clause-ok : goal.returns-clause-ok
returns-clause-ok c =
    (becomes_copied c.self.inside.slots.slots c.in_ok-clone.field-0.slots c.self.inside.inputs.items c.self.inside.outputs.items
    c.self.invariant.sound c.in_ok-from_slice.field-0.items c.in_ok-from_slice-2.field-0.items c.in_ok-clone.ensures.cases.0
    (c.in_ok-from_slice.ensures.items ∙ c.deref.ensures.value) (c.in_ok-from_slice-2.ensures.items ∙ c.deref-2.ensures.value)).graph
    ∙ ap (λ g. g.graph) c.self.view_is
