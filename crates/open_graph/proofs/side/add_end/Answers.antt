use Rattle.std.proofs.Common.{◌≡◌, sym, ap, subst, ℕ, length, Some, arith}
use Rattle.open_graph.specs.Internal.Table.{HasSlot}
use Rattle.open_graph.specs.Internal.Slots.{told_at}
use Rattle.open_graph.specs.Internal.Sides.{with_side_place}
use Rattle.open_graph.specs.Internal.Changes.{Puts}
use Rattle.open_graph.proofs.side.add_end.Goals as goal

pub set_place-requires : goal.set_place-requires
set_place-requires c = subst (λ (v : ℕ). HasSlot c.args.slots.now v) (sym (ap (λ e. e.vertex) c.end.view_is)) c.requires

pub returns-clause-slots : goal.returns-clause-slots
returns-clause-slots c =
    let old = c.args.slots.now.slots in
    let new = c.set_place.new.slots.slots in
    let last : c.len-place.result ≡ length c.args.ends.now.items = omega (arith, c.len-place.ensures, c.args.ends.now.ok.0) in
    subst (λ (n : ℕ). Puts old new c.args.end.vertex (with_side_place c.args.side (Some n) (told_at old c.args.end.vertex))) last
    (subst (λ (v : ℕ). Puts old new v (with_side_place c.args.side (Some c.len-place.result) (told_at old v))) (ap (λ e. e.vertex) c.end.view_is) c.set_place.ensures.puts)

pub returns-clause-room : goal.returns-clause-room
returns-clause-room c reach = c.set_place.ensures.room reach
