-- The laws, by their lemmas.
use Rattle.circuit_laws.proofs.Keeping.{phase_formed, edge_formed, mark_formed, spider_formed, row_formed}
use Rattle.circuit_laws.proofs.kept.added_gates_keep_form.Goals as goal

pub returns-clause-phase : goal.returns-clause-phase
returns-clause-phase c = phase_formed

pub returns-clause-edge : goal.returns-clause-edge
returns-clause-edge c = edge_formed

pub returns-clause-mark : goal.returns-clause-mark
returns-clause-mark c = mark_formed

pub returns-clause-spider : goal.returns-clause-spider
returns-clause-spider c = spider_formed

pub returns-clause-row : goal.returns-clause-row
returns-clause-row c = row_formed
