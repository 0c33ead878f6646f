-- The end at its place moves to the new vertex.
use Rattle.std.proofs.Common.{◌<◌, ◌∙◌, sym, ap, subst, length, set, List, IsOk, rules}
use Rattle.std.proofs.lemmas.Bool.{false≢true}
use Rattle.zx_calculus.specs.Graph.{End, ids}
use Rattle.zx_calculus.specs.Splits.{split_scalar}
use Rattle.zx_calculus.specs.Splits.{new_vertex}
use Rattle.open_graph.specs.Sides.{ends_of}
use Rattle.graph_rewrites.proofs.Spiders.{old_below, new_below, new_live, new_plane, new_free}
use Rattle.graph_rewrites.proofs.Splits.{scalar_is, ends_ordered, ends_kept, split_live, place_within, end_moved, mark_of_end, split_step}
use Rattle.graph_rewrites.proofs.split.split_in_graph.Goals as goal

pub place_at-requires : goal.place_at-requires
place_at-requires c = split_live c.args.side c.args.g.now.graph c.args.b c.ends-ends.ensures.valid c.requires

pub bounds-ends-place : goal.bounds-ends-place
bounds-ends-place c =
    let found = rw c.unwrap-place.ensures at c.place_at.ensures.place in
    subst (λ (es : List End). c.unwrap-place.result < length es) (sym c.ends-ends.ensures.value)
    (place_within (ends_of c.args.side c.args.g.now.graph) c.unwrap-place.result c.args.b found)

pub offset_bounds-ends-place : goal.offset_bounds-ends-place
offset_bounds-ends-place c =
    let within : c.unwrap-place.result < length c.ends-ends.result.now = bounds-ends-place c in
    search rules

pub add_spider-requires-clause-live : goal.add_spider-requires-clause-live
add_spider-requires-clause-live c = split_live c.args.side c.args.g.now.graph c.args.b c.ends-ends.ensures.valid c.requires

pub move_end-requires-clause-in_range : goal.move_end-requires-clause-in_range
move_end-requires-clause-in_range c =
    let g = c.args.g.now.graph in
    let found = rw c.unwrap-place.ensures at c.place_at.ensures.place in
    subst (λ (es : List End). c.unwrap-place.result < length es) (sym (ends_kept c.args.side g c.add_spider.new.g.graph c.in_ok-new.ensures.added.frame))
    (place_within (ends_of c.args.side g) c.unwrap-place.result c.args.b found)

pub move_end-requires-clause-live : goal.move_end-requires-clause-live
move_end-requires-clause-live c =
    rw c.toggled.ensures (new_live c.args.g.now.graph c.args.b c.in_ok-new.new c.add_spider.new.g.graph c.in_ok-new.ensures.added)

pub move_end-requires-clause-plane : goal.move_end-requires-clause-plane
move_end-requires-clause-plane c =
    rw c.toggled.ensures (new_plane c.args.g.now.graph c.args.b c.in_ok-new.new c.add_spider.new.g.graph c.in_ok-new.ensures.added)

pub move_end-requires-clause-free : goal.move_end-requires-clause-free
move_end-requires-clause-free c =
    let g = c.args.g.now.graph in
    let added = c.in_ok-new.ensures.added in
    rw (c.toggled.ensures, ends_kept c.args.side g c.add_spider.new.g.graph added.frame)
    (new_free g c.in_ok-new.new (ends_of c.args.side g) c.unwrap-place.result (ends_ordered c.args.side g c.ends-ends.ensures.valid) added.fresh)

pub returns-clause-step : goal.returns-clause-step
returns-clause-step c =
    let g = c.args.g.now.graph in
    let h = c.add_spider.new.g.graph in
    let added = c.in_ok-new.ensures.added in
    let found = rw c.unwrap-place.ensures at c.place_at.ensures.place in
    let read = rw c.ends-ends.ensures.value at c.index-ends-place.is in
    split_step c.args.side g c.args.b c.in_ok-new.new h c.move_end.new.g.graph (set (ends_of c.args.side h) c.unwrap-place.result c.toggled.result)
    added c.in_ok-new.ensures.new c.requires
    (ap (λ es. set es c.unwrap-place.result c.toggled.result) (ends_kept c.args.side g h added.frame)
    ∙ end_moved (ends_of c.args.side g) c.unwrap-place.result c.args.b c.in_ok-new.new c.index-ends-place.result c.toggled.result
    (ends_ordered c.args.side g c.ends-ends.ensures.valid).one_each found read c.toggled.ensures)
    c.move_end.ensures.ok

pub returns-clause-scalar : goal.returns-clause-scalar
returns-clause-scalar c =
    let g = c.args.g.now.graph in
    let found = rw c.unwrap-place.ensures at c.place_at.ensures.place in
    let read = rw c.ends-ends.ensures.value at c.index-ends-place.is in
    c.split_scalar.ensures
    ∙ ap split_scalar (sym (mark_of_end (ends_of c.args.side g) c.unwrap-place.result c.args.b c.index-ends-place.result
    (ends_ordered c.args.side g c.ends-ends.ensures.valid).one_each found read))
    ∙ sym (scalar_is c.args.side g c.args.b)

pub returns-in_err-new-clause-has_room : goal.returns-in_err-new-clause-has_room
returns-in_err-new-clause-has_room c spare below =
    let g = c.args.g.now.graph in
    let live = split_live c.args.side g c.args.b c.ends-ends.ensures.valid c.requires in
    absurd (false≢true (subst IsOk c.in_err-new.was
    (c.add_spider.ensures.has_room spare (old_below (new_vertex g) (ids g.vertices) c.args.g.now.room.reach below c.args.b live)
    (new_below (new_vertex g) (ids g.vertices) c.args.g.now.room.reach below))))
