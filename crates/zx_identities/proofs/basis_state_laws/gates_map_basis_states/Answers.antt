-- The law, by its lemma.
use Rattle.zx_identities.proofs.Moving as lemmas
use Rattle.zx_identities.proofs.basis_state_laws.gates_map_basis_states.Goals as goal

pub returns : goal.returns
returns c = lemmas.gates_map_basis_states
