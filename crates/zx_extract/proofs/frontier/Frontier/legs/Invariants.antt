-- The legs at the first outputs.
use Rattle.std.specs.List.{AllZip}
use Rattle.circuit_laws.specs.Peeling.{HasPlainOutput}
use Rattle.zx_extract.proofs.Legs.{legs_below}
use Rattle.zx_extract.proofs.frontier.Frontier.legs.Given as goal

abbrev pub invariant-loop-q : goal.invariant-loop-q
invariant-loop-q l = AllZip (HasPlainOutput l.self.graph.graph) l.legs.items (legs_below l.self.graph.graph l.v l.q)
