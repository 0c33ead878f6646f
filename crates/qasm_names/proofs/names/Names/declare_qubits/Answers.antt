use Rattle.std.proofs.Common.{sym, ap, refl, ◌∙◌, append-nil, arith}
use Rattle.qasm_names.specs.declared.names.Symbol.TheVariants as symbol
use Rattle.qasm_scope.specs.Scope.{Qubits, declared, qubit_count}
use Rattle.qasm_names.proofs.Symbols.{found-declared}
use Rattle.qasm_names.proofs.names.Names.declare_qubits.Goals as goal

pub returns : goal.returns
returns c = λ scope r. record {
  same_symbols = found-declared c.args.name.now c.args.self.now.symbols c.insert.new.self (symbol.Qubits c.args.self.now.qubits c.args.size) (declared c.args.name.now (Qubits (qubit_count scope) c.args.size)) scope c.in_ok-insert.ensures.updates r.same_symbols refl (ap (λ first. symbol.Qubits first c.args.size) r.same_qubits);
  same_gates = r.same_gates ∙ sym (append-nil _);
  same_qubits = omega (arith, r.same_qubits);
  same_bits = omega (arith, r.same_bits);
  sound = ((record { after_others = refl; few = omega (arith, r.same_qubits) }, refl), tt, r.sound);
}
