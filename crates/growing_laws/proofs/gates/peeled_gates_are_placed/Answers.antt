-- The laws, by their lemmas.
use Rattle.circuit_graph.proofs.Graphs.{spider_is, phase_is, toggle_is}
use Rattle.growing_laws.proofs.gates.peeled_gates_are_placed.Goals as goal

pub returns-clause-spider : goal.returns-clause-spider
returns-clause-spider c = spider_is

pub returns-clause-phase : goal.returns-clause-phase
returns-clause-phase c = λ new. phase_is

pub returns-clause-edge : goal.returns-clause-edge
returns-clause-edge c = λ new. toggle_is
