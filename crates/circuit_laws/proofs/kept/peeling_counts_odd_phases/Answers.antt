-- The laws, by their lemmas.
use Rattle.circuit_laws.proofs.Counts.{same_vertices, phase_odd, phase_odd_exactly, spider_odd, gadget_odd, linked_gadget_odd, hadamards_odd}
use Rattle.circuit_laws.proofs.kept.peeling_counts_odd_phases.Goals as goal

pub returns-clause-phase : goal.returns-clause-phase
returns-clause-phase c = phase_odd

pub returns-clause-first_phase : goal.returns-clause-first_phase
returns-clause-first_phase c = phase_odd_exactly

pub returns-clause-edge : goal.returns-clause-edge
returns-clause-edge c = λ g p q h step. same_vertices g h step.vertices

pub returns-clause-mark : goal.returns-clause-mark
returns-clause-mark c = λ g q h step. same_vertices g h step.vertices

pub returns-clause-spider : goal.returns-clause-spider
returns-clause-spider c = spider_odd

pub returns-clause-row : goal.returns-clause-row
returns-clause-row c = λ g c t h step. same_vertices g h step.vertices

pub returns-clause-exchange : goal.returns-clause-exchange
returns-clause-exchange c = λ g p q h step. same_vertices g h step.vertices

pub returns-clause-gadget : goal.returns-clause-gadget
returns-clause-gadget c = gadget_odd

pub returns-clause-linked_gadget : goal.returns-clause-linked_gadget
returns-clause-linked_gadget c = linked_gadget_odd

pub returns-clause-hadamards : goal.returns-clause-hadamards
returns-clause-hadamards c = hadamards_odd
