-- Planes and phases change alone.
use Rattle.std.proofs.Common.{◌∙◌, ap}
use Rattle.open_graph.proofs.NearLemmas.{near_there}
use Rattle.open_graph.proofs.Seeing.{live_there, kept_on, turned_seen, powers_seen}
use Rattle.open_graph.proofs.open_graph.OpenGraph.turn_neighbours.Goals as goal

pub turn_near-requires-clause-live : goal.turn_near-requires-clause-live
turn_near-requires-clause-live c = live_there c.self.invariant c.self.view_is c.args.u c.requires

pub turn_near-requires-clause-near_live : goal.turn_near-requires-clause-near_live
turn_near-requires-clause-near_live c q near = near_there c.self.inside.slots.slots c.self.invariant.sound.symmetric c.args.u q near

pub invariant_of-self : goal.invariant_of-self
invariant_of-self c =
    kept_on c.self.invariant
    (turned_seen c.self.invariant c.self.view_is c.turn_near.new.slots.slots c.args.turn c.args.u c.turn_near.ensures.rising
    c.turn_near.ensures.turned).sound (c.turn_near.ensures.room c.self.inside.reach) c.self.invariant.scratch

pub returns-clause-ok : goal.returns-clause-ok
returns-clause-ok c =
    (turned_seen c.self.invariant c.self.view_is c.turn_near.new.slots.slots c.args.turn c.args.u c.turn_near.ensures.rising
    c.turn_near.ensures.turned).graph

pub returns-clause-power : goal.returns-clause-power
returns-clause-power c =
    c.turn_near.ensures.power ∙ powers_seen c.self.invariant c.self.view_is c.args.turn c.args.u c.turn_near.ensures.rising

pub returns-clause-valid : goal.returns-clause-valid
returns-clause-valid c = (invariant_of-self c).sound.well_formed

pub returns-clause-room : goal.returns-clause-room
returns-clause-room c = rw (c.turn_near.ensures.room 0).spare (ap (λ g. g.room) c.self.view_is)
