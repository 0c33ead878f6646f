use Rattle.std.proofs.Common.{◌≡◌, ◌∷◌, [], ◌++◌, length, map, sym, ap, ◌∙◌, arith, rules}
use Rattle.std.proofs.lemmas.List.{map-append, length-map}
use Rattle.qasm_names.specs.Kept.{gate_count, kept_body, kept_gates}
use Rattle.qasm_names.specs.declared.names.Symbol.TheVariants as symbol
use Rattle.qasm_scope.specs.Scope.{Gate}
use Rattle.qasm_names.proofs.Symbols.{found-declared, kept-length}
use Rattle.qasm_names.proofs.names.Names.declare_gate.Goals as goal

pub returns : goal.returns
returns c = λ scope form r en ea eq eb sound fresh.
    let count : c.len-number.result ≡ gate_count scope = omega (arith, c.len-number.ensures, simp length-map at (ap length r.same_gates), kept-length scope, c.args.self.now.gates.ok.0) in
    let pushed : c.push.new.self.items ≡ c.args.self.now.gates.items ++ c.args.body ∷ [] = search rules in
    record {
      same_symbols = found-declared c.args.name.now c.args.self.now.symbols c.insert.new.self (symbol.Gate c.len-number.result c.args.angles c.args.qubits c.args.replaceable) (record { name = form.name; meaning = Gate form; replaceable = c.args.replaceable }) scope c.in_ok-insert.ensures.updates r.same_symbols (sym en) cc;
      same_gates = ap (map kept_body) pushed ∙ map-append kept_body c.args.self.now.gates.items (c.args.body ∷ []) ∙ ap (λ gs. gs ++ kept_body c.args.body ∷ []) r.same_gates ∙ ap (λ k. kept_gates scope ++ k ∷ []) eb;
      same_qubits = omega (arith, r.same_qubits);
      same_bits = omega (arith, r.same_bits);
      sound = (sound, fresh, r.sound);
    }
