-- The vertex at the output of the graph.
use Rattle.std.proofs.Common.{subst}
use Rattle.circuit_laws.specs.Peeling.{HasPlainOutput}
use Rattle.zx_reduce.specs.Internal.Ordering.{Ordered}
use Rattle.zx_reduce.proofs.GatesOrdered.{plain_there, on_qubits_there}
use Rattle.zx_reduce.proofs.ordered.Ordered.last_spider.Goals as goal

pub last_spider-requires-clause-plain : goal.last_spider-requires-clause-plain
last_spider-requires-clause-plain c = plain_there _ c.args.self.now c.self.view_is c.requires.plain

pub last_spider-requires-clause-on_qubits : goal.last_spider-requires-clause-on_qubits
last_spider-requires-clause-on_qubits c = on_qubits_there _ c.args.self.now c.self.view_is c.args.q c.requires.on_qubits

pub returns : goal.returns
returns c = subst (λ (o : Ordered). HasPlainOutput o.graph c.args.q c.last_spider.result) c.self.view_is c.last_spider.ensures.value
