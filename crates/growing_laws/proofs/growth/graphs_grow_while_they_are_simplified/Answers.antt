-- The laws, by their lemmas.
use Rattle.growing_laws.proofs.GrownGraphs.{grown_begin, grown_step, grown_gate, grown_outputs, grown_plain}
use Rattle.growing_laws.proofs.growth.graphs_grow_while_they_are_simplified.Goals as goal

pub returns-clause-begin : goal.returns-clause-begin
returns-clause-begin c = grown_begin

pub returns-clause-step : goal.returns-clause-step
returns-clause-step c = λ n gates h s after on w. grown_step n gates on h s after w

pub returns-clause-gate : goal.returns-clause-gate
returns-clause-gate c = λ new n gates h gate on from m. grown_gate n gates on new h gate m.well_formed m.fresh from m.basic m.on_qubits

pub returns-clause-outputs : goal.returns-clause-outputs
returns-clause-outputs c = λ n gates h on. grown_outputs n gates on h

pub returns-clause-plain : goal.returns-clause-plain
returns-clause-plain c = λ n gates h on. grown_plain n gates on h
