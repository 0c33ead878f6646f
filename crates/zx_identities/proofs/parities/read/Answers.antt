-- The first gate, one gate more, and the last.
use Rattle.std.proofs.Common.{◌≡◌, ◌+◌, drop, length, sym, ◌∙◌, subst}
use Rattle.std.proofs.lemmas.List.{drop_all}
use Rattle.zx_identities.specs.Internal.Parities.{units_from, AreBelow}
use Rattle.zx_identities.proofs.ParityLemmas.{read-first, read-end}
use Rattle.zx_identities.proofs.Determined.{units_below, read-kept}
use Rattle.zx_identities.proofs.parities.read.Goals as goal

pub loop-gate-init : goal.loop-gate-init
loop-gate-init c = record {
  read = read-first c.args.qubits c.args.gates.now _ _ c.in_ok-parities.ensures c.new-terms.ensures.items;
  below = subst (AreBelow (c.args.qubits + 1)) (sym c.in_ok-parities.ensures) (units_below c.args.qubits);
}

pub returns-then-are_units-clause-reading : goal.returns-then-are_units-clause-reading
returns-then-are_units-clause-reading c =
    read-end c.args.qubits c.args.gates.now (drop c.loop-gate.gate-index c.args.gates.now) c.loop-gate.parities.items c.loop-gate.terms.items c.loop-gate.invariant.read
    (drop_all c.loop-gate.gate-index c.args.gates.now c.loop-gate-test.false)
    (subst (λ ps. ps ≡ units_from (length ps) 0) c.deref.ensures.value (c.are_units.ensures.0 c.if-are_units.true))

pub returns-clause-kept : goal.returns-clause-kept
returns-clause-kept c = λ unmoved.
    sym c.if-are_units.false
    ∙ c.are_units.ensures.1
    (subst (λ ps. ps ≡ units_from (length ps) 0) (sym c.deref.ensures.value)
    (read-kept c.args.qubits c.args.gates.now (drop c.loop-gate.gate-index c.args.gates.now) c.loop-gate.parities.items c.loop-gate.terms.items
    c.loop-gate.invariant.read (drop_all c.loop-gate.gate-index c.args.gates.now c.loop-gate-test.false) c.loop-gate.invariant.below unmoved))
