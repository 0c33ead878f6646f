use Rattle.zx_run.proofs.TwoTextsLemmas.{two_accepted_or_fault, not_accepted_two, one_fault_of_two, one_pair}
use Rattle.zx_run.proofs.laws.two_texts_are_accepted_or_have_a_first_fault.Goals as goal

pub returns-clause-either : goal.returns-clause-either
returns-clause-either c = two_accepted_or_fault

pub returns-clause-never_both : goal.returns-clause-never_both
returns-clause-never_both c = not_accepted_two

pub returns-clause-one_fault : goal.returns-clause-one_fault
returns-clause-one_fault c = one_fault_of_two

pub returns-clause-one_pair : goal.returns-clause-one_pair
returns-clause-one_pair c = one_pair
