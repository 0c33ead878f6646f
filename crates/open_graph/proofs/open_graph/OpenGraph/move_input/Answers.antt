use Rattle.std.proofs.Common.{◌<◌, sym, ap, subst, length}
use Rattle.open_graph.specs.declared.side.Side.TheVariants.{Input}
use Rattle.open_graph.specs.OpenGraph.{OpenGraph}
use Rattle.open_graph.proofs.Keeping.{end_contained}
use Rattle.open_graph.proofs.Seeing.{live_there, kept_on, end_moved_seen}
use Rattle.open_graph.proofs.open_graph.OpenGraph.move_input.Goals as goal

pub move_end-requires-clause-in_range : goal.move_end-requires-clause-in_range
move_end-requires-clause-in_range c = subst (λ (g : OpenGraph). c.args.i < length g.graph.inputs) (sym c.self.view_is) c.requires.in_range

pub move_end-requires-clause-before : goal.move_end-requires-clause-before
move_end-requires-clause-before c = end_contained _ _ _ c.self.invariant.sound Input c.args.i c.args.end (move_end-requires-clause-in_range c)

pub move_end-requires-clause-after : goal.move_end-requires-clause-after
move_end-requires-clause-after c = live_there c.self.invariant c.self.view_is c.args.end.vertex c.requires.live

pub invariant_of-self : goal.invariant_of-self
invariant_of-self c =
    kept_on c.self.invariant
    (end_moved_seen c.self.invariant c.self.view_is c.move_end.new.slots.slots Input c.move_end.new.ends.items c.args.end c.args.i
    c.requires.in_range (c.requires.live, c.requires.plane, c.requires.free) c.move_end.ensures.ends c.move_end.ensures.slots).sound (c.move_end.ensures.room c.self.inside.reach) c.self.invariant.scratch

pub returns-clause-ok : goal.returns-clause-ok
returns-clause-ok c =
    (end_moved_seen c.self.invariant c.self.view_is c.move_end.new.slots.slots Input c.move_end.new.ends.items c.args.end c.args.i
    c.requires.in_range (c.requires.live, c.requires.plane, c.requires.free) c.move_end.ensures.ends c.move_end.ensures.slots).graph

pub returns-clause-valid : goal.returns-clause-valid
returns-clause-valid c = (invariant_of-self c).sound.well_formed

pub returns-clause-room : goal.returns-clause-room
returns-clause-room c = rw (c.move_end.ensures.room 0).spare (ap (λ g. g.room) c.self.view_is)
