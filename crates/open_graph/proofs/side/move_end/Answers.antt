use Rattle.std.proofs.Common.{◌≡◌, ◌∙◌, sym, ap, subst, ℕ, get_or, Some, None}
use Rattle.std.proofs.lemmas.List.{get_or_read}
use Rattle.open_graph.specs.Internal.Table.{HasSlot}
use Rattle.open_graph.specs.Internal.Slots.{told_at}
use Rattle.open_graph.specs.Internal.Sides.{with_side_place}
use Rattle.open_graph.specs.Internal.Changes.{Puts}
use Rattle.open_graph.proofs.Keeping.{contained_put}
use Rattle.open_graph.proofs.ReachLemmas.{keeps_then}
use Rattle.open_graph.proofs.side.move_end.Goals as goal

pub set_place-requires : goal.set_place-requires
set_place-requires c =
    let read : c.before-2.inside.vertex ≡ (get_or c.args.ends.now.items c.args.i c.args.end).vertex =
    ap (λ e. e.vertex) (c.before-2.view_is ∙ get_or_read c.args.ends.now.items c.args.i c.index-before.result.now c.requires.in_range c.index-before.ensures c.args.end) in
    subst (λ (v : ℕ). HasSlot c.args.slots.now v) (sym read) c.requires.before

pub set_place-requires-2 : goal.set_place-requires-2
set_place-requires-2 c =
    contained_put c.args.slots.now.slots c.set_place.new.slots.slots c.before-2.inside.vertex c.end.inside.vertex c.args.side None c.set_place.ensures.puts
    (subst (λ (v : ℕ). HasSlot c.args.slots.now v) (sym (ap (λ e. e.vertex) c.end.view_is)) c.requires.after)

pub returns-clause-slots : goal.returns-clause-slots
returns-clause-slots c =
    let old = c.args.slots.now.slots in
    let mid = c.set_place.new.slots.slots in
    let new = c.set_place-2.new.slots.slots in
    let read : c.before-2.inside.vertex ≡ (get_or c.args.ends.now.items c.args.i c.args.end).vertex =
    ap (λ e. e.vertex) (c.before-2.view_is ∙ get_or_read c.args.ends.now.items c.args.i c.index-before.result.now c.requires.in_range c.index-before.ensures c.args.end) in (
      mid,
      subst (λ (v : ℕ). Puts old mid v (with_side_place c.args.side None (told_at old v))) read c.set_place.ensures.puts,
      subst (λ (v : ℕ). Puts mid new v (with_side_place c.args.side (Some c.args.i) (told_at mid v))) (ap (λ e. e.vertex) c.end.view_is) c.set_place-2.ensures.puts,
    )

pub returns-clause-room : goal.returns-clause-room
returns-clause-room c reach =
    keeps_then reach c.args.slots.now.slots c.set_place.new.slots.slots c.set_place-2.new.slots.slots (c.set_place.ensures.room reach) (c.set_place-2.ensures.room reach)
