-- The gate that the new spider is.
use Rattle.std.proofs.Common.{◌≡◌, ◌∙◌, ap, subst, sym}
use Rattle.zx_gates.specs.declared.gate.Gate.TheVariants.{H}
use Rattle.circuit_laws.specs.Peeling.{HasPlainOutput}
use Rattle.circuit_graph.specs.Translation.{with_spider}
use Rattle.circuit_graph.proofs.Graphs.{spider_is}
use Rattle.growing_laws.specs.Growing.{IsFree, placed}
use Rattle.zx_reduce.specs.Internal.Ordering.{Ordered, IsOrdered}
use Rattle.zx_reduce.proofs.GatesOrdered.{plain_there, on_qubits_there, ordered_spider}
use Rattle.zx_reduce.proofs.ordered.Ordered.add_hadamard.Goals as goal
use Rattle.zx_reduce.proofs.ordered.Ordered.add_hadamard.Goals.{In_ok-add_last}

pub put_hadamard-requires-clause-plain : goal.put_hadamard-requires-clause-plain
put_hadamard-requires-clause-plain c = plain_there _ c.args.self.now c.self.view_is c.requires.plain

pub put_hadamard-requires-clause-on_qubits : goal.put_hadamard-requires-clause-on_qubits
put_hadamard-requires-clause-on_qubits c = on_qubits_there _ c.args.self.now c.self.view_is c.args.q c.requires.on_qubits

-- the new spider is free in the graph that the struct holds, which becomes that with the gate
fresh_there : (c : In_ok-add_last) → IsFree c.in_ok-here.next c.self.inside.graph.graph
fresh_there c =
    let put = c.in_ok-here.ensures.put in
    subst (λ v. IsFree v c.self.inside.graph.graph) put.spider_is put.peel.fresh

gate_there : (c : In_ok-add_last) → c.put_hadamard.new.g.graph ≡ placed c.in_ok-here.next c.self.inside.graph.graph (H c.args.q)
gate_there c =
    let g = c.self.inside.graph.graph in
    let put = c.in_ok-here.ensures.put in
    spider_is g c.args.q c.put_hadamard.new.g.graph c.in_ok-here.ensures.valid put.peel ∙ ap (λ v. with_spider v c.args.q g) put.spider_is

pub returns-clause-fresh : goal.returns-clause-fresh
returns-clause-fresh c = subst (λ (o : Ordered). IsFree c.in_ok-here.next o.graph) c.self.view_is (fresh_there c)

pub returns-clause-gate : goal.returns-clause-gate
returns-clause-gate c =
    subst (λ (o : Ordered). c.put_hadamard.new.g.graph ≡ placed c.in_ok-here.next o.graph (H c.args.q)) c.self.view_is (gate_there c)

pub returns-clause-ordered : goal.returns-clause-ordered
returns-clause-ordered c =
    let order = c.self.inside.order in
    let g = c.self.inside.graph.graph in
    let before : Ordered = record { graph = g; ranks = order.ranks; low = order.low; high = order.high } in
    let put = c.in_ok-here.ensures.put in
    λ o. ordered_spider c.in_ok-here.next c.args.q c.in_ok-here.here before _
    (plain_there _ c.args.self.now c.self.view_is c.requires.plain) (on_qubits_there _ c.args.self.now c.self.view_is c.args.q c.requires.on_qubits)
    (fresh_there c) (subst (HasPlainOutput g c.args.q) put.here_is put.peel.output) (gate_there c)
    c.in_ok-add_last.ensures.ranks c.in_ok-add_last.ensures.low c.in_ok-add_last.ensures.high (subst (λ (p : Ordered). IsOrdered p) (sym c.self.view_is) o)
