-- The laws of lists and their inverses.
use Rattle.zx_identities.proofs.OneMap.{one_map, undone_scaled}
use Rattle.zx_identities.proofs.Undoing.{undone_map, inverse-inverse}
use Rattle.zx_identities.proofs.inverse_laws.inverses_undo_circuits.Goals as goal

pub returns-clause-undone : goal.returns-clause-undone
returns-clause-undone c = undone_map

pub returns-clause-scaled : goal.returns-clause-scaled
returns-clause-scaled c = undone_scaled

pub returns-clause-twice : goal.returns-clause-twice
returns-clause-twice c = inverse-inverse

pub returns-clause-one_map : goal.returns-clause-one_map
returns-clause-one_map c = one_map
