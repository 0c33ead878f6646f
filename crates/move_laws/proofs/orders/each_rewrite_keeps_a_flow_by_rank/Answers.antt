-- The laws, by their lemmas.
use Rattle.move_laws.proofs.Ranks.{kept_by, first_by, last_by}
use Rattle.move_laws.proofs.orders.each_rewrite_keeps_a_flow_by_rank.Goals as goal

pub returns-clause-no_split : goal.returns-clause-no_split
returns-clause-no_split c = kept_by

pub returns-clause-split_input : goal.returns-clause-split_input
returns-clause-split_input c = first_by

pub returns-clause-split_output : goal.returns-clause-split_output
returns-clause-split_output c = last_by
