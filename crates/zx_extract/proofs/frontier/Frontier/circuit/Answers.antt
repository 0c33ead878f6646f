-- The Hadamards of the inputs, and the gates behind them.
use Rattle.std.proofs.Common.{sym, ◌∙◌, ap, subst, ◌≤◌, ◌++◌, length}
use Rattle.std.specs.Prelude.{reverse}
use Rattle.std.specs.List.{All}
use Rattle.zx_gates.specs.Circuit.{IsOnQubits, most_qubits}
use Rattle.circuit_laws.specs.Gates.{hadamards_from}
use Rattle.zx_extract.proofs.frontier.Frontier.circuit.Goals as goal

pub hadamards_from-requires : goal.hadamards_from-requires
hadamards_from-requires c = subst (λ es. length es ≤ most_qubits) (sym c.inputs.ensures.value) c.requires.few

pub add_backwards-requires : goal.add_backwards-requires
add_backwards-requires c = subst (λ n. All (IsOnQubits n) c.args.self.now.gates.items)
    (sym (c.in_ok-circuit.ensures.qubits ∙ ap length c.inputs.ensures.value)) c.requires.on_qubits

pub returns : goal.returns
returns c = record {
  qubits = c.in_ok-add_backwards.ensures.qubits ∙ c.in_ok-circuit.ensures.qubits ∙ ap length c.inputs.ensures.value;
  gates = c.in_ok-add_backwards.ensures.gates ∙ ap (λ gs. gs ++ reverse c.args.self.now.gates.items)
      (c.in_ok-circuit.ensures.gates ∙ ap (hadamards_from 0) c.inputs.ensures.value);
}
