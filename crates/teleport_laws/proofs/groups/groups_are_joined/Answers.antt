-- The laws, by their lemmas.
use Rattle.teleport_laws.proofs.Grouping.{change_balanced}
use Rattle.teleport_laws.proofs.Placing.{has_few_odd}
use Rattle.teleport_laws.proofs.groups.groups_are_joined.Goals as goal

pub returns-clause-balanced : goal.returns-clause-balanced
returns-clause-balanced c = change_balanced

pub returns-clause-odd : goal.returns-clause-odd
returns-clause-odd c = has_few_odd
