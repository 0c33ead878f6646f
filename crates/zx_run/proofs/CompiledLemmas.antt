-- The text of a circuit for a diagram.
use Rattle.std.proofs.Common.{◌≡◌, ◌≤◌, ℕ, List, [], length, sym, subst, rules, arith}
use Rattle.std.specs.List.{IsDistinct}
use Rattle.zx_model.specs.Proportional.{Proportional}
use Rattle.zx_model.proofs.ProportionalLemmas.{proportional_sym, proportional_trans}
use Rattle.zx_calculus.specs.Counts.{odd_phases}
use Rattle.flow_find.specs.Stuck.{HasFlow}
use Rattle.zx_diagram.specs.Diagram.{Diagram}
use Rattle.zx_diagram.specs.Sum.{diagram_sum}
use Rattle.zx_gates.specs.Circuit.{Circuit, IsCircuit, gate_odd_phases}
use Rattle.zx_gates.specs.ElementaryMaps.{amp_elementary}
use Rattle.zx_gates.specs.Maps.{amp}
use Rattle.zx_peephole.specs.Tidy.{IsTidy}
use Rattle.zx_extract.specs.Simplified.{gate_bound, IsThroughReduced}
use Rattle.zx_simplify.specs.declared.compiling.Compiled.{Compiled}
use Rattle.zx_simplify.specs.declared.compiling.Compiled.TheVariants as compiled
use Rattle.zx_simplify.specs.Compiled.{HasForm, IfCircuit}
use Rattle.qasm_scope.specs.Meaning.{Means}
use Rattle.qasm_writer.specs.Elements.{elements_of}
use Rattle.qasm_writer.specs.Measuring.{AreBehind}
use Rattle.qasm_writer.specs.Written.{written}
use Rattle.qasm_writer.proofs.WrittenLemmas.{IsWritten, is_written, odd_elements, same_map}
use Rattle.zx_run.specs.Compiling.{IsCompiledText}
use Rattle.zx_run.specs.DiagramFiles.{IsDiagramFile, IsSquare}

-- no measurements are behind a circuit
pub none_behind : (circuit : Circuit) → AreBehind circuit 0 []
unfolding IsDistinct
none_behind circuit = record { few_bits = omega arith; within = search rules; once = record { qubits = tt; bits = tt } }

pub IsCompiledText-written : (text bytes : List ℕ) (diagram : Diagram) (circuit : Circuit)
    → IsDiagramFile text diagram → IsSquare diagram → HasForm diagram HasFlow → bytes ≡ written circuit 0 []
    → circuit.qubits ≡ length diagram.inputs
    → Proportional (length diagram.inputs) (length diagram.inputs) (diagram_sum diagram) (amp circuit.gates)
    → HasForm diagram (λ form. gate_odd_phases circuit.gates ≤ odd_phases form)
    → HasForm diagram (λ form. length circuit.gates ≤ gate_bound (length diagram.inputs) (odd_phases form))
    → IsCircuit circuit → IsTidy circuit.gates → HasForm diagram (λ form. IsThroughReduced form circuit)
    → IsCompiledText text bytes
IsCompiledText-written text bytes diagram circuit file square flow spelled as_many map odd few is tidy reduced =
    let n = length diagram.inputs in
    let again = elements_of circuit.gates in
    let w : IsWritten circuit 0 [] = is_written circuit 0 [] is (none_behind circuit) in
    let back : Proportional n n (amp circuit.gates) (amp_elementary again) =
    subst (λ k. Proportional k k (amp circuit.gates) (amp_elementary again)) as_many
    (proportional_sym circuit.qubits circuit.qubits (amp_elementary again) (amp circuit.gates) (same_map circuit.qubits circuit.gates is.on_qubits)) in
    record {
      diagram = diagram;
      circuit = circuit;
      file = file;
      square = square;
      has_flow = flow;
      spelled = spelled;
      means = record { program = w.program; is = w.is; means = subst (λ k. Means w.program k again 0 []) as_many w.means };
      same_map = proportional_trans n n (diagram_sum diagram) (amp circuit.gates) (amp_elementary again) map back;
      no_more_odd = (odd.0, odd.1, subst (λ t. t ≤ odd_phases odd.0) (sym (odd_elements circuit.qubits circuit.gates is.on_qubits)) odd.2);
      few_gates = (few.0, few.1, subst (λ size. size ≤ gate_bound n (odd_phases few.0)) (sym w.size) few.2);
      valid = is;
      tidy = tidy;
      reduced = reduced;
    }

-- the same of an answer that is a circuit
pub IsCompiledText-made : (text bytes : List ℕ) (diagram : Diagram) (made : Compiled) (circuit : Circuit) → made ≡ compiled.Circuit circuit
    → IsDiagramFile text diagram → IsSquare diagram → bytes ≡ written circuit 0 [] → IsCircuit circuit
    → IfCircuit made (λ c. HasForm diagram HasFlow)
    → IfCircuit made (λ c. c.qubits ≡ length diagram.inputs)
    → IfCircuit made (λ c. Proportional (length diagram.inputs) (length diagram.inputs) (diagram_sum diagram) (amp c.gates))
    → IfCircuit made (λ c. HasForm diagram (λ form. gate_odd_phases c.gates ≤ odd_phases form))
    → IfCircuit made (λ c. HasForm diagram (λ form. length c.gates ≤ gate_bound (length diagram.inputs) (odd_phases form)))
    → IfCircuit made (λ c. IsTidy c.gates)
    → IfCircuit made (λ c. HasForm diagram (λ form. IsThroughReduced form c))
    → IsCompiledText text bytes
IsCompiledText-made text bytes diagram made circuit is file square spelled valid flow as_many map odd few tidy reduced =
    let of : (P : Circuit → Type 0) → IfCircuit made P → P circuit = λ P. subst (λ m. IfCircuit m P) is in
    IsCompiledText-written text bytes diagram circuit file square (of _ flow) spelled (of _ as_many) (of _ map) (of _ odd) (of _ few)
    valid (of _ tidy) (of _ reduced)
