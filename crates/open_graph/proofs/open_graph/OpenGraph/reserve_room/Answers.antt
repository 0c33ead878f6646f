use Rattle.std.proofs.Common.{◌∙◌, ap}
use Rattle.open_graph.specs.Internal.Slots.{told_by}
use Rattle.open_graph.proofs.ReachLemmas.{kept_same}
use Rattle.open_graph.proofs.Seeing.{same_seen}
use Rattle.open_graph.proofs.open_graph.OpenGraph.reserve_room.Goals as goal

pub invariant_of-self : goal.invariant_of-self
invariant_of-self c = kept_same _ _ _ _ _ _ _ c.self.invariant c.reserve.ensures.same

pub returns-in_err-reserve-clause-same : goal.returns-in_err-reserve-clause-same
returns-in_err-reserve-clause-same c = (same_seen c.self.invariant c.self.view_is c.reserve.new.self.slots (λ p. ap told_by (c.reserve.ensures.same p))).graph

pub returns-in_err-reserve-clause-valid : goal.returns-in_err-reserve-clause-valid
returns-in_err-reserve-clause-valid c = (invariant_of-self c).sound.well_formed

pub invariant_of-self-2 : goal.invariant_of-self-2
invariant_of-self-2 c = kept_same _ _ _ _ _ _ _ c.self.invariant c.reserve.ensures.same

pub returns-clause-same : goal.returns-clause-same
returns-clause-same c = c.extend_reach.ensures.same ∙ (same_seen c.self.invariant c.self.view_is c.reserve.new.self.slots (λ p. ap told_by (c.reserve.ensures.same p))).graph
