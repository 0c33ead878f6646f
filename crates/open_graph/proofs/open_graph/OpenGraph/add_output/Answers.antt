use Rattle.std.proofs.Common.{ap}
use Rattle.open_graph.specs.declared.side.Side.TheVariants.{Output}
use Rattle.open_graph.proofs.Seeing.{live_there, kept_on, end_seen}
use Rattle.open_graph.proofs.open_graph.OpenGraph.add_output.Goals as goal

pub add_end-requires : goal.add_end-requires
add_end-requires c = live_there c.self.invariant c.self.view_is c.args.end.vertex c.requires.live

pub invariant_of-self : goal.invariant_of-self
invariant_of-self c =
    kept_on c.self.invariant
    (end_seen c.self.invariant c.self.view_is c.add_end.new.slots.slots Output c.add_end.new.ends.items c.args.end c.add_end.result
    (c.requires.live, c.requires.plane, c.requires.free) c.add_end.ensures.ends c.add_end.ensures.slots c.add_end.ensures.err).sound (c.add_end.ensures.room c.self.inside.reach) c.self.invariant.scratch

pub returns-clause-ok : goal.returns-clause-ok
returns-clause-ok c =
    (end_seen c.self.invariant c.self.view_is c.add_end.new.slots.slots Output c.add_end.new.ends.items c.args.end c.add_end.result
    (c.requires.live, c.requires.plane, c.requires.free) c.add_end.ensures.ends c.add_end.ensures.slots c.add_end.ensures.err).ok

pub returns-clause-err : goal.returns-clause-err
returns-clause-err c =
    (end_seen c.self.invariant c.self.view_is c.add_end.new.slots.slots Output c.add_end.new.ends.items c.args.end c.add_end.result
    (c.requires.live, c.requires.plane, c.requires.free) c.add_end.ensures.ends c.add_end.ensures.slots c.add_end.ensures.err).err

pub returns-clause-valid : goal.returns-clause-valid
returns-clause-valid c = (invariant_of-self c).sound.well_formed

pub returns-clause-room : goal.returns-clause-room
returns-clause-room c = rw (c.add_end.ensures.room 0).spare (ap (λ g. g.room) c.self.view_is)
