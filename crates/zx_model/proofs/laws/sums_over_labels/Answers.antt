use Rattle.zx_model.proofs.SumLemmas.{all_lists, over_comm, sum_over_pull, sum_over_scaled}
use Rattle.zx_model.proofs.laws.sums_over_labels.Goals as goal

pub returns-clause-all_lists : goal.returns-clause-all_lists
returns-clause-all_lists c = all_lists

pub returns-clause-order : goal.returns-clause-order
returns-clause-order c = over_comm

pub returns-clause-pulled_to_the_front : goal.returns-clause-pulled_to_the_front
returns-clause-pulled_to_the_front c = sum_over_pull

pub returns-clause-scaled : goal.returns-clause-scaled
returns-clause-scaled c = sum_over_scaled
