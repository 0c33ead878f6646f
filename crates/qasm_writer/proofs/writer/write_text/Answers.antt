-- In the end the text is that of the circuit.
use Rattle.std.proofs.Common.{◌≡◌, ℕ, ◌≤◌, ◌++◌, List, length, take, sym, ◌∙◌, ap, subst}
use Rattle.std.specs.List.{flat_map}
use Rattle.std.proofs.lemmas.List.{take_all}
use Rattle.zx_gates.specs.Circuit.{Circuit, IsCircuit}
use Rattle.zx_gates.specs.declared.elementary.Measure.{Measure}
use Rattle.zx_gates.specs.declared.gate.Gate.{Gate}
use Rattle.qasm_scope.specs.Texts.{TextMeans}
use Rattle.qasm_writer.specs.Elements.{elements_of}
use Rattle.qasm_writer.specs.Measuring.{AreBehind}
use Rattle.qasm_writer.specs.Written.{written, bits_line, register_line, gate_line, measure_line}
use Rattle.qasm_writer.proofs.WrittenLemmas.{text_means}
use Rattle.qasm_writer.proofs.writer.write_text.Goals as goal
use Rattle.qasm_writer.proofs.Lines.{version_line, include_line}

-- all lines
all_lines : (c : Circuit) (bits : ℕ) (measured : List Measure) (items : List Gate) (i : ℕ) (text : List ℕ) → IsCircuit c → AreBehind c bits measured
    → items ≡ c.gates → length items ≤ i
    → text ≡ version_line ++ include_line ++ register_line c.qubits ++ bits_line bits ++ flat_map gate_line (take i c.gates) ++ flat_map measure_line measured
    → TextMeans text c.qubits (elements_of c.gates) bits measured
unfolding written
all_lines c bits measured items i text valid behind e past same =
    let all : take i c.gates ≡ c.gates = take_all i c.gates (subst (λ xs. length xs ≤ i) e past) in
    let whole : text ≡ written c bits measured =
    same ∙ ap (λ gs. version_line ++ include_line ++ register_line c.qubits ++ bits_line bits ++ flat_map gate_line gs ++ flat_map measure_line measured) all in
    subst (λ t. TextMeans t c.qubits (elements_of c.gates) bits measured) (sym whole) (text_means c bits measured valid behind)

pub returns-clause-means : goal.returns-clause-means
returns-clause-means c =
    all_lines c.args.g.now c.args.bits c.args.measured.now c.gates-gate-items.result.now c.loop-gate.gate-index c.push_measures.new.text.items
    c.gates-gate-items.ensures.valid c.requires.behind c.gates-gate-items.ensures.value c.loop-gate-test.false
    (c.in_ok-push_measures.ensures ∙ ap (λ t. t ++ flat_map measure_line c.args.measured.now) c.loop-gate.invariant)
