-- The laws, by their lemmas.
use Rattle.flow_check.proofs.FirstFailures.{flow_passes, flow_from, no_flow, alone}
use Rattle.flow_check.proofs.laws.a_first_failure_is_alone.Goals as goal

pub returns-clause-flow : goal.returns-clause-flow
returns-clause-flow c = λ s table is_table. (flow_passes s table, flow_from s table is_table)

pub returns-clause-no_flow : goal.returns-clause-no_flow
returns-clause-no_flow c = no_flow

pub returns-clause-alone : goal.returns-clause-alone
returns-clause-alone c = alone
