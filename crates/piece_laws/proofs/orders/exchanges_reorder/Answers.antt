-- The law, by its lemma.
use Rattle.piece_laws.proofs.Reorderings.{exchanged}
use Rattle.piece_laws.proofs.orders.exchanges_reorder.Goals as goal

pub returns : goal.returns
returns c = exchanged
