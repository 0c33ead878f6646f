-- The laws, by their lemmas.
use Rattle.move_laws.proofs.DemandLemmas.{run_lowers, only_input, only_output, split_both}
use Rattle.move_laws.proofs.demands.runs_change_the_demand.Goals as goal

pub returns : goal.returns
returns c = record { no_split = run_lowers; only_input = only_input; only_output = only_output; both = split_both }
