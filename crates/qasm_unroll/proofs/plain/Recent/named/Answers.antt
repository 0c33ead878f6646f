-- The gate of the row.
use Rattle.std.proofs.Common.{◌≡◌, Some, sym, subst, ◌∙◌}
use Rattle.std.proofs.lemmas.Slice.Eq.{bytes_eq-Decides}
use Rattle.qasm_names.specs.Checks.{gate_shape}
use Rattle.qasm_names.specs.declared.gates.CalledGate.TheVariants as called_gate
use Rattle.qasm_names.specs.Kept.{found, number_in, symbol_shape}
use Rattle.qasm_unroll.specs.Internal.Recents.{IsNamed, IsRow}
use Rattle.qasm_unroll.proofs.RecentLemmas.{row-at}
use Rattle.qasm_unroll.proofs.plain.Recent.named.Goals as goal

pub returns-then-eq : goal.returns-then-eq
returns-then-eq c = λ symbols r.
    let known = c.in-Some.known in
    let same = (bytes_eq-Decides known.name.now c.args.name.now).0 (sym c.eq.ensures ∙ c.if-eq.true) in
    let is : IsNamed symbols known = subst (IsRow symbols) c.in-Some.is (row-at symbols c.args.self.now.gates c.row_of.result r.gates) in (
      subst (λ name. symbol_shape (found name symbols) ≡ Some (gate_shape known.gate)) same is.shape,
      subst (λ name. known.gate.called ≡ called_gate.Gate (number_in (found name symbols))) same is.called,
    )
