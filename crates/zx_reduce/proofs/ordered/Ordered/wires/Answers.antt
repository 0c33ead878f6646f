-- Any ranks rise in an order of nothing.
use Rattle.zx_reduce.proofs.GatesOrdered.{ordered_wires}
use Rattle.zx_reduce.proofs.ordered.Ordered.wires.Goals as goal

pub returns-clause-ordered : goal.returns-clause-ordered
returns-clause-ordered c = ordered_wires c.args.qubits _ c.in_ok-graph.ensures.begun c.in_ok-graph.ensures.well_formed c.in_ok-order.ensures.bounds
