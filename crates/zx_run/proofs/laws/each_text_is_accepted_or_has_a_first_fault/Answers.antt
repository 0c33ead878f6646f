use Rattle.zx_run.proofs.FaultLemmas.{accepted_or_fault, not_faultless, one_first_fault, one_circuit}
use Rattle.zx_run.proofs.laws.each_text_is_accepted_or_has_a_first_fault.Goals as goal

pub returns-clause-either : goal.returns-clause-either
returns-clause-either c = accepted_or_fault

pub returns-clause-never_both : goal.returns-clause-never_both
returns-clause-never_both c = not_faultless

pub returns-clause-one_fault : goal.returns-clause-one_fault
returns-clause-one_fault c = one_first_fault

pub returns-clause-one_circuit : goal.returns-clause-one_circuit
returns-clause-one_circuit c = one_circuit
