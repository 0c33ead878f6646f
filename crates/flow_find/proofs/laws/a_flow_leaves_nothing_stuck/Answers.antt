-- The law, by its lemmas.
use Rattle.flow_find.proofs.Leaving.{a_flow_leaves_none}
use Rattle.flow_find.proofs.NoFlow.{no_flow_leaves_some}
use Rattle.flow_find.proofs.laws.a_flow_leaves_nothing_stuck.Goals as goal

pub returns-clause-none : goal.returns-clause-none
returns-clause-none c = λ g stuck has. a_flow_leaves_none g has.table stuck has.flow

pub returns-clause-some : goal.returns-clause-some
returns-clause-some c = no_flow_leaves_some
