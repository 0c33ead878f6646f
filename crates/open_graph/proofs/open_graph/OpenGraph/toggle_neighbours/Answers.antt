-- Both rows of each pair are toggled, so the rows are symmetric again.
use Rattle.std.proofs.Common.{subst, IsOk}
use Rattle.std.proofs.lemmas.Bool.{false≢true}
use Rattle.open_graph.proofs.NearLemmas.{near_there}
use Rattle.open_graph.proofs.ReachLemmas.{rows_of}
use Rattle.open_graph.proofs.Seeing.{live_there, kept_on, kept_after, near_below, near_seen}
use Rattle.open_graph.proofs.open_graph.OpenGraph.toggle_neighbours.Goals as goal

pub toggle_near-requires-clause-live : goal.toggle_near-requires-clause-live
toggle_near-requires-clause-live c = live_there c.self.invariant c.self.view_is c.args.u c.requires

pub toggle_near-requires-clause-near_live : goal.toggle_near-requires-clause-near_live
toggle_near-requires-clause-near_live c q near = near_there c.self.inside.slots.slots c.self.invariant.sound.symmetric c.args.u q near

pub invariant_of-self-in_default : goal.invariant_of-self-in_default
invariant_of-self-in_default c =
    kept_on c.self.invariant (near_seen c.self.invariant c.self.view_is c.toggle_near.new.slots.slots c.args.u c.in_default.ensures.toggled).0 c.toggle_near.ensures.room (c.toggle_near.ensures.holds c.self.invariant.scratch)

pub returns-clause-ok : goal.returns-clause-ok
returns-clause-ok c = (near_seen c.self.invariant c.self.view_is c.toggle_near.new.slots.slots c.args.u c.in_default.ensures.toggled).1

pub returns-clause-valid : goal.returns-clause-valid
returns-clause-valid c = (invariant_of-self-in_default c).sound.well_formed

pub invariant_of-self : goal.invariant_of-self
invariant_of-self c =
    kept_after c.self.invariant c.clear.ensures.sound c.toggle_near.new.slots.slots c.clear.new.kept.items c.toggle_near.ensures.room c.clear.ensures.room (c.toggle_near.ensures.holds c.self.invariant.scratch)

pub returns-in-Err-clause-valid : goal.returns-in-Err-clause-valid
returns-in-Err-clause-valid c = (invariant_of-self c).sound.well_formed

pub returns-in-Err-clause-has_room : goal.returns-in-Err-clause-has_room
returns-in-Err-clause-has_room c below =
    absurd (false≢true (subst IsOk c.in-Err.is
    (c.toggle_near.ensures.has_room c.self.invariant.scratch (rows_of _ _ _ c.self.invariant.room) (near_below c.self.invariant c.self.view_is c.args.u below))))
