-- The law, by its lemma.
use Rattle.move_laws.proofs.FlowOrders.{kept_along}
use Rattle.move_laws.proofs.orders.each_rewrite_keeps_a_flow_along.Goals as goal

pub returns : goal.returns
returns c = kept_along
