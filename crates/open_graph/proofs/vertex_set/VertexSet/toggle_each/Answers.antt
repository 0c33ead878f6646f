use Rattle.std.proofs.Common.{add-one}
use Rattle.open_graph.proofs.Toggling.{toggled_more}
use Rattle.open_graph.proofs.vertex_set.VertexSet.toggle_each.Goals as goal

pub loop-id-preserved : goal.loop-id-preserved
loop-id-preserved c =
    let more = toggled_more c.args.ids.now c.loop-id.id-index c.id-item.result c.args.self.now.ids c.loop-id.self.ids c.toggle.new.self.ids c.loop-id-test.true c.id-item.is
    c.loop-id.invariant.differ c.loop-id.invariant.toggled c.in_ok-toggle.ensures.ok in
    rw add-one (record { differ = more.0; toggled = more.1 })
