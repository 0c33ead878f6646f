-- The first neighbour is the only one.
use Rattle.phase_groups.proofs.Negating.{leg_found, leg_is}
use Rattle.phase_groups.proofs.notes.leg_of.Goals as goal

pub unwrap-requires : goal.unwrap-requires
unwrap-requires c = leg_found c.args.graph.now.graph c.args.u c.neighbour_from.result c.neighbour_from.ensures.valid c.requires c.neighbour_from.ensures.first

pub returns : goal.returns
returns c = leg_is c.args.graph.now.graph c.args.u c.unwrap.result c.neighbour_from.result c.neighbour_from.ensures.valid c.requires c.unwrap.ensures c.neighbour_from.ensures.first
