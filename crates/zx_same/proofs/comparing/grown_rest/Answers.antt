-- A bare graph is the identity, and so is a circuit without gates.
use Rattle.std.proofs.Common.{◌≡◌, inl, inr, ◌∙◌, sym, subst, zero, suc, true, false, true≢false, ℕ, ◌<◌, nat_eq, length, refl, arith}
use Rattle.std.specs.List.{All}
use Rattle.std.proofs.lemmas.Bool.{or_cases}
use Rattle.zx_model.specs.Proportional.{Proportional}
use Rattle.zx_model.specs.Scalar.{product_of_scalars}
use Rattle.zx_model.proofs.Scalars.{scaled_proportional}
use Rattle.zx_calculus.specs.Sum.{graph_sum}
use Rattle.zx_calculus.proofs.Ids.{or-left, or-right}
use Rattle.zx_gates.specs.Circuit.{IsOnQubits}
use Rattle.zx_gates.specs.Maps.{amp}
use Rattle.zx_simplify.proofs.Whole.{simplified_whole}
use Rattle.zx_same.proofs.Comparisons.{bare_seen}
use Rattle.zx_same.proofs.Quotients.{no_gates}
use Rattle.zx_same.proofs.comparing.grown_rest.Goals as goal

pub extract_tidy-requires-clause-ends : goal.extract_tidy-requires-clause-ends
extract_tidy-requires-clause-ends c = c.in_ok-grown.ensures.inputs ∙ sym c.in_ok-grown.ensures.outputs

pub returns-then-is_nothing-clause-on_qubits : goal.returns-then-is_nothing-clause-on_qubits
returns-then-is_nothing-clause-on_qubits c = λ k d within. (c.gates.ensures.valid.on_qubits k d within).0

pub returns-clause-on_qubits : goal.returns-clause-on_qubits
returns-clause-on_qubits c = λ k d within. (c.gates.ensures.valid.on_qubits k d within).0

pub returns-then-is_nothing-clause-identity : goal.returns-then-is_nothing-clause-identity
returns-then-is_nothing-clause-identity c =
    let circuit = c.args.circuit.now in
    let n = circuit.qubits in
    let grown = c.in_ok-grown.grown in
    let g = c.in_ok-grown.ensures in
    let made = c.in_ok-made.made in
    let on : All (IsOnQubits n) circuit.gates = λ k d within. (c.gates.ensures.valid.on_qubits k d within).0 in
    elim (or_cases c.is_bare-bare.result (nat_eq (length made.gates.gates) 0) (sym c.is_nothing.ensures ∙ c.if-is_nothing.true)) [
      | inl bare ↦ bare_seen circuit grown.graph.graph g.well_formed g.inputs
          (scaled_proportional n n (amp circuit.gates) (graph_sum grown.graph.graph) grown.scalar g.scaled) (sym c.is_bare-bare.ensures ∙ bare)
      | inr none ↦ subst (λ gates. Proportional n n (amp circuit.gates) (amp gates)) (no_gates made.gates.gates none)
          (scaled_proportional n n (amp circuit.gates) (amp made.gates.gates) (product_of_scalars grown.scalar made.scalar)
          (simplified_whole circuit grown.graph.graph grown.flow.flow grown.scalar made.gates made.scalar (product_of_scalars grown.scalar made.scalar) on g
          c.in_ok-made.ensures refl).kept.scaled)
    ]

pub returns-clause-left : goal.returns-clause-left
returns-clause-left c =
    let grown = c.in_ok-grown.grown in
    let made = c.in_ok-made.made in
    let unseen = sym c.is_nothing.ensures ∙ c.if-is_nothing.false in
    record {
      graph = grown.graph.graph;
      table = grown.flow.flow;
      times = grown.scalar;
      grown = c.in_ok-grown.ensures;
      not_bare = sym c.is_bare-bare.ensures ∙ or-left c.is_bare-bare.result (nat_eq (length made.gates.gates) 0) unseen;
      scalar = made.scalar;
      extracted = c.in_ok-made.ensures;
      some = some (length made.gates.gates) (or-right c.is_bare-bare.result (nat_eq (length made.gates.gates) 0) unseen);
    }
  where
    some : (n : ℕ) → nat_eq n 0 ≡ false → 0 < n
    some zero e = absurd (true≢false e)
    some (suc n) e = omega arith
