-- The optimised circuit is what is written, and its scalar what is told.
use Rattle.std.proofs.Common.{ℕ, ◌*◌, ◌^◌, ◌<◌, ◌≤◌, ℤ, ◌+ℤ◌, ◌-ℤ◌, nat_abs, length, rules, arith, sym, subst, ap, ◌∙◌}
use borrow.Author.Differences.{ints}
use Rattle.zx_model.specs.Phase.{turn}
use Rattle.zx_model.specs.Scalar.{IsWithin, most_root2, product_of_scalars, quotient_of_scalars}
use Rattle.zx_model.specs.declared.scalar.Scalar.{Scalar}
use Rattle.zx_model.proofs.Scalars.{within_product}
use Rattle.zx_gates.specs.Circuit.{Circuit, IsCircuit, gate_limit}
use Rattle.zx_gates.specs.Elementary.{elementary_bound}
use Rattle.zx_optimise.specs.Optimising.{most_optimised_root2}
use Rattle.zx_run.proofs.OptimiseLemmas.{IsOptimisedText-written, measured_behind}
use Rattle.zx_run.proofs.output.optimised_text.Goals as goal

pub returns : goal.returns
returns c = λ text accepted.
    let lowered = c.in_ok-lowered.ensures in
    let made = c.in_ok-optimised.ensures in
    let from = c.in_ok-lowered.lowered.gates in
    let circuit = c.in_ok-optimised.optimised.gates in
    IsOptimisedText-written _ _ _ _ _ c.args.read.now from circuit c.in_ok-lowered.lowered.scalar c.in_ok-optimised.optimised.scalar c.text_scalar-own.result c.over-scalar.result
    accepted lowered.kept.qubits lowered.list lowered.odd made.optimises made.plain made.best
    (subst IsCircuit c.circuit.view_is c.circuit.invariant.circuit)
    (measured_behind c.args.read.now circuit c.requires (made.optimises.kept.qubits ∙ lowered.kept.qubits))
    lowered.kept.scaled c.text_scalar-own.ensures.scaled (subst (λ k. k < turn) c.get.ensures.value c.get.ensures.below_a_turn)
    (c.over-scalar.ensures ∙ ap (λ (s : Scalar). quotient_of_scalars s c.text_scalar-own.result) c.times.ensures)
    (search (rules, c.in_ok-extend_from_slice.ensures.items, c.in_ok-output.ensures.text, c.in_ok-push_scalar_if.ensures, c.in_ok-lines.ensures))

-- three scalars fit, whose exponents are as small as the circuits
fits : (elements gates : ℕ) (s t u : Scalar) → elements < elementary_bound → gates < gate_limit → IsWithin (2 * elements) s → IsWithin most_optimised_root2 t →
    IsWithin (4 * gates) u → IsWithin most_root2 (quotient_of_scalars (product_of_scalars s t) u)
fits elements gates s t u few fewer p q r =
    difference (s.root2 +ℤ t.root2) u.root2 (omega (arith, few, within_product (2 * elements) most_optimised_root2 s t p q)) (omega (arith, fewer, r))
  where
    difference : (a b : ℤ) → nat_abs a ≤ 2 ^ 60 → nat_abs b ≤ 2 ^ 60 → nat_abs (a -ℤ b) ≤ most_root2
    difference a b p q = omega (arith, ints, p, q)

pub over-scalar-requires : goal.over-scalar-requires
over-scalar-requires c =
    subst (λ (s : Scalar). IsWithin most_root2 (quotient_of_scalars s c.text_scalar-own.result)) (sym c.times.ensures)
    (fits (length c.args.read.now.gates) (length c.in_ok-optimised.optimised.gates.gates) c.in_ok-lowered.lowered.scalar c.in_ok-optimised.optimised.scalar c.text_scalar-own.result
    c.requires.few_gates (subst (λ (d : Circuit). length d.gates < gate_limit) c.circuit.view_is c.circuit.invariant.few_gates)
    c.in_ok-lowered.ensures.kept.small c.in_ok-optimised.ensures.optimises.kept.small c.text_scalar-own.ensures.small)
