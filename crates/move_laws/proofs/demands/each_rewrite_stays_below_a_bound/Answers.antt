-- The laws, by their lemmas.
use Rattle.move_laws.proofs.DemandLemmas.{new_within, kept_below}
use Rattle.move_laws.proofs.demands.each_rewrite_stays_below_a_bound.Goals as goal

pub returns : goal.returns
returns c = record { new = new_within; kept = kept_below }
