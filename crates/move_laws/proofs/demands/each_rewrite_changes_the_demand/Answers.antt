-- The laws, by their lemmas.
use Rattle.move_laws.proofs.DemandLemmas.{no_split, split_input, split_output}
use Rattle.move_laws.proofs.demands.each_rewrite_changes_the_demand.Goals as goal

pub returns : goal.returns
returns c = record { no_split = no_split; split_input = split_input; split_output = split_output }
