-- The laws, by their lemmas.
use Rattle.piece_laws.proofs.Reorderings.{reordered_map, reordered_gates}
use Rattle.piece_laws.proofs.orders.reorderings_keep_maps.Goals as goal

pub returns-clause-map : goal.returns-clause-map
returns-clause-map c = reordered_map

pub returns-clause-same_gates : goal.returns-clause-same_gates
returns-clause-same_gates c = reordered_gates
