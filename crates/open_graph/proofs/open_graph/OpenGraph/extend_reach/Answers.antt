-- Rows with more room tell the same graph.
use Rattle.open_graph.proofs.Seeing.{same_seen}
use Rattle.open_graph.proofs.open_graph.OpenGraph.extend_reach.Goals as goal

pub invariant_of-self : goal.invariant_of-self
invariant_of-self c =
    record {
      sound = (same_seen c.self.invariant c.self.view_is c.reserve.new.slots.slots c.reserve.ensures.same).sound;
      room = c.reserve.ensures.room c.self.inside.reach c.self.invariant.room;
      scratch = c.self.invariant.scratch;
    }

pub invariant_of-self-in_err-reserve-2 : goal.invariant_of-self-in_err-reserve-2
invariant_of-self-in_err-reserve-2 c =
    record {
      sound = (same_seen c.self.invariant c.self.view_is c.reserve.new.slots.slots c.reserve.ensures.same).sound;
      room = c.reserve.ensures.room c.self.inside.reach c.self.invariant.room;
      scratch = c.reserve-2.ensures.keeps c.self.inside.reach c.self.invariant.scratch;
    }

pub invariant_of-self-2 : goal.invariant_of-self-2
invariant_of-self-2 c =
    record {
      sound = (same_seen c.self.invariant c.self.view_is c.reserve.new.slots.slots c.reserve.ensures.same).sound;
      room = c.in_ok-reserve.ensures.ok;
      scratch = c.in_ok-reserve-2.ensures.ok;
    }

pub returns-in_err-reserve-clause-same : goal.returns-in_err-reserve-clause-same
returns-in_err-reserve-clause-same c = (same_seen c.self.invariant c.self.view_is c.reserve.new.slots.slots c.reserve.ensures.same).graph

pub returns-in_err-reserve-clause-valid : goal.returns-in_err-reserve-clause-valid
returns-in_err-reserve-clause-valid c = (invariant_of-self c).sound.well_formed

pub returns-in_err-reserve-2-clause-same : goal.returns-in_err-reserve-2-clause-same
returns-in_err-reserve-2-clause-same c = (same_seen c.self.invariant c.self.view_is c.reserve.new.slots.slots c.reserve.ensures.same).graph

pub returns-in_err-reserve-2-clause-valid : goal.returns-in_err-reserve-2-clause-valid
returns-in_err-reserve-2-clause-valid c = (invariant_of-self-in_err-reserve-2 c).sound.well_formed

pub returns-clause-same : goal.returns-clause-same
returns-clause-same c = (same_seen c.self.invariant c.self.view_is c.reserve.new.slots.slots c.reserve.ensures.same).graph

pub returns-clause-valid : goal.returns-clause-valid
returns-clause-valid c = (invariant_of-self-2 c).sound.well_formed
