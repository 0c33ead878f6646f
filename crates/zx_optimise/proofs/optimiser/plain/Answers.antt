-- What is plain may be written.
use Rattle.std.proofs.Common.{◌≤◌, ℕ, ◌+◌, ◌*◌, le_refl, le_trans, arith, mul-le-mul_left}
use Rattle.std.proofs.lemmas.Result.{IfOk-weaker}
use Rattle.zx_gates.specs.Circuit.{gate_odd_phases}
use Rattle.zx_gates.proofs.Passing.{implements_more}
use Rattle.zx_extract.specs.Simplified.{gate_bound}
use Rattle.zx_optimise.proofs.optimiser.plain.Goals as goal

-- more odd phases allow more gates
bound-rises : (n s t : ℕ) → s ≤ t → gate_bound n s ≤ gate_bound n t
bound-rises n s t fewer = let more : 3 * n * s ≤ 3 * n * t = mul-le-mul_left (3 * n) fewer in omega arith

pub returns-clause-offers : goal.returns-clause-offers
returns-clause-offers c =
    let read = c.args.read.now in
    IfOk-weaker c.simplify_circuit.result _ _ (λ made s. record {
      kept = implements_more s.kept (le_refl (gate_odd_phases read.gates)) (omega arith);
      tidy = s.tidy;
      few_gates = le_trans s.few_gates (bound-rises read.qubits _ _ s.read_odd);
      reduced = record { steps = s.steps; end = s.end; run = s.run; reduced = s.reduced; odd = s.odd };
    }) c.simplify_circuit.ensures

pub returns-clause-plain : goal.returns-clause-plain
returns-clause-plain c = IfOk-weaker c.simplify_circuit.result _ _ (λ made s. (made.scalar, s)) c.simplify_circuit.ensures
