-- One more output.
use Rattle.std.proofs.Common.{◌≡◌, ◌∙◌, ℕ, ◌+◌, ◌≤◌, sym, subst, arith}
use Rattle.std.specs.List.{AllZip}
use Rattle.zx_calculus.specs.Graph.{plain}
use Rattle.circuit_laws.specs.Peeling.{HasPlainOutput}
use Rattle.circuit_laws.proofs.Places.{member-places}
use Rattle.zx_extract.proofs.Legs.{legs_below, legs_more, legs_skip, legs_all}
use Rattle.zx_extract.proofs.frontier.Frontier.legs.Goals as goal

pub loop-q-preserved-then-not-has : goal.loop-q-preserved-then-not-has
loop-q-preserved-then-not-has c =
    legs_skip c.args.self.now.graph.graph c.args.v c.loop-q.q c.present.result c.loop-q.legs.items c.present.ensures
    (sym (c.has.ensures (member-places c.args.self.now.graph.graph.outputs c.loop-q.q (plain c.present.result)
    c.present.ensures) c.requires.live c.requires.inner) ∙ c.if-not-has.true) c.loop-q.invariant

pub loop-q-preserved : goal.loop-q-preserved
loop-q-preserved c =
    subst (λ qubits. AllZip (HasPlainOutput c.args.self.now.graph.graph) qubits
    (legs_below c.args.self.now.graph.graph c.args.v (c.loop-q.q + 1))) (sym c.in_ok-push.ensures.items)
    (legs_more c.args.self.now.graph.graph c.args.v c.loop-q.q c.present.result c.loop-q.legs.items
    c.present.ensures (sym (c.has.ensures (member-places c.args.self.now.graph.graph.outputs c.loop-q.q (plain c.present.result)
    c.present.ensures) c.requires.live c.requires.inner) ∙ c.if-not-has.false) c.loop-q.invariant)

pub returns : goal.returns
returns c = legs_all c.args.self.now.graph.graph c.args.v c.loop-q.legs.items
    (subst (λ n. AllZip (HasPlainOutput c.args.self.now.graph.graph) c.loop-q.legs.items
    (legs_below c.args.self.now.graph.graph c.args.v n))
    (at_end _ _ _ c.loop-q.auto.q-end c.loop-q-test.false c.qubits-q-end.ensures.value) c.loop-q.invariant)
  where
    at_end : (q end n : ℕ) → q ≤ end → end ≤ q → end ≡ n → q ≡ n
    at_end q end n within all e = omega arith
