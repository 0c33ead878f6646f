-- No gate is left of the first circuit and the inverse of the second.
use Rattle.std.proofs.Common.{sym, ap, ◌∙◌, subst}
use Rattle.zx_model.specs.Scalar.{IsScaled, quotient_of_scalars}
use Rattle.zx_model.specs.declared.scalar.Scalar.{Scalar}
use Rattle.zx_gates.specs.Maps.{amp}
use Rattle.zx_same.proofs.Quotients.{no_gates, quotient_seen}
use Rattle.zx_same.proofs.division.quotient.Goals as goal

pub returns-then-is_empty : goal.returns-then-is_empty
returns-then-is_empty c =
    let a = c.args.a.now in
    let b = c.args.b.now in
    let found = c.in_ok-found.found in
    let none = sym c.gates.ensures.value ∙ no_gates c.gates.result.now (sym c.is_empty.ensures ∙ c.if-is_empty.true) in
    let is = c.over.ensures ∙ ap (quotient_of_scalars found.scalar) c.undone_scalar.ensures.value in
    subst (λ (s : Scalar). IsScaled a.qubits a.qubits (amp a.gates) s (amp b.gates)) (sym is)
    (quotient_seen a b c.in_ok-both.both found.scalar found.gates.gates c.requires.qubits c.qubits.ensures.valid c.in_ok-both.ensures
    c.in_ok-found.ensures.kept.scaled none)
