-- The whole text of a circuit, and what its elements are.
use Rattle.std.specs.Prelude.{◌≡◌, ◌≢◌, ◌<◌, if◌then◌else◌, ℕ, ◌+◌, ◌*◌, List, [], ◌∷◌, ◌++◌, length, codes}
use Rattle.std.proofs.Common.{refl, sym, ap, ap₂, ◌∙◌, arith, subst, append_assoc}
use Rattle.std.specs.List.{All, flat_map}
use Rattle.std.proofs.lemmas.Bool.{ne_eqb}
use Rattle.std.proofs.lemmas.List.Elements.{All-nil, All-cons, All-head, All-tail}
use Rattle.std.proofs.lemmas.Grind.{flat_map-append}
use Rattle.zx_model.specs.Phase.{turn, half_turn, sum_of_phases}
use Rattle.zx_model.specs.Proportional.{Proportional}
use Rattle.zx_model.proofs.ProportionalLemmas.{proportional_trans}
use Rattle.zx_gates.specs.Circuit.{Circuit, IsCircuit, IsGateOn, gate_odd_phases}
use Rattle.zx_gates.specs.Elementary.{IsElementaryGateOn, elementary_odd_phases}
use Rattle.zx_gates.specs.ElementaryMaps.{amp_elementary}
use Rattle.zx_gates.specs.Lowering.{lowered, lowered_gate, phase_gates}
use Rattle.zx_gates.specs.Maps.{amp}
use Rattle.zx_gates.specs.declared.elementary.ElementaryGate.{ElementaryGate}
use Rattle.zx_gates.specs.declared.elementary.ElementaryGate.TheVariants as elementary
use Rattle.zx_gates.specs.declared.gate.Gate.{Gate}
use Rattle.zx_gates.specs.declared.gate.Gate.TheVariants.{H, Phase, Cz, Cx, Not}
use Rattle.zx_gates.proofs.LoweringLemmas.{proportional_lowered, odd_lowered, gate_odd_phases-append}
use Rattle.zx_gates.specs.declared.elementary.Measure.{Measure}
use Rattle.qasm_reader.specs.Syntax.{Version, Placed}
use Rattle.qasm_scope.specs.Meaning.{Means, first_fault}
use Rattle.qasm_scope.specs.Scope.{bit_count, qubit_count}
use Rattle.qasm_scope.specs.Texts.{IsProgramText, TextMeans, program_size}
use Rattle.qasm_writer.specs.Elements.{h, elements, elements_of, gate_without_cz, without_cz}
use Rattle.qasm_writer.specs.Measuring.{AreBehind}
use Rattle.qasm_writer.specs.Written.{bits_line, gate_line, measure_line, register_line, written}
use Rattle.qasm_writer.proofs.Lines.{AreLines, line_then, version_is, version_line, include_line}
use Rattle.qasm_writer.proofs.Statements.{most_of_one, written_scope}
use Rattle.qasm_writer.proofs.Continuing.{Continues, bits_after, qubits_are, text_does}
use Rattle.qasm_writer.proofs.Maps.{proportional_without_cz}

-- ---- the program
pub record IsWritten (c : Circuit) (bits : ℕ) (measured : List Measure) : Type 0 where
  pub program : List Placed
  pub is : IsProgramText (written c bits measured) program
  pub means : Means program c.qubits (elements_of c.gates) bits measured
  pub size : program_size program ≡ length c.gates

grouped : (a b c d e f : List ℕ) → a ++ b ++ c ++ d ++ e ++ f ≡ a ++ (b ++ (c ++ (d ++ (e ++ f))))
grouped a b c d e f = simp append_assoc

abbrev parts : Circuit → ℕ → List Measure → List ℕ
parts c bits measured = register_line c.qubits ++ (bits_line bits ++ (flat_map gate_line c.gates ++ flat_map measure_line measured))

written-parts : (c : Circuit) (bits : ℕ) (measured : List Measure) → written c bits measured ≡ version_line ++ (include_line ++ parts c bits measured)
unfolding written
written-parts c bits measured =
    grouped version_line include_line (register_line c.qubits) (bits_line bits) (flat_map gate_line c.gates) (flat_map measure_line measured)

pub is_written : (c : Circuit) (bits : ℕ) (measured : List Measure) → IsCircuit c → AreBehind c bits measured → IsWritten c bits measured
unfolding first_fault
is_written c bits measured is behind =
    let w : Continues 14 [] [] (include_line ++ parts c bits measured) (written_scope c.qubits bits) (elements_of c.gates) measured (length c.gates) =
    text_does c.qubits bits c.gates measured is.few_qubits behind.few_bits is.on_qubits behind.within behind.once.qubits behind.once.bits in
    let l : AreLines 0 (version_line ++ (include_line ++ parts c bits measured)) (record { place = 0; sentence = Version (codes "2.0") } ∷ w.program) =
    line_then 0 version_line (include_line ++ parts c bits measured) (Version (codes "2.0")) w.program version_is w.lines in
    record {
      program = record { place = 0; sentence = Version (codes "2.0") } ∷ w.program;
      is = subst (λ t. IsProgramText t (record { place = 0; sentence = Version (codes "2.0") } ∷ w.program)) (sym (written-parts c bits measured))
          (record { tokens = l.tokens; cut = l.cut; shallow = l.shallow; grammar = l.grammar });
      means = record {
        most = most_of_one * length c.gates;
        faultless = w.faultless (most_of_one * length c.gates) 0 (omega arith);
        as_many_qubits = sym (ap qubit_count w.end_is ∙ qubits_are c.qubits bits);
        same_gates = w.gates_are;
        as_many_bits = sym (ap bit_count w.end_is ∙ bits_after c.qubits bits);
        same_measures = w.measures_are;
      };
      size = omega (arith, w.count_is);
    }

pub text_means : (c : Circuit) (bits : ℕ) (measured : List Measure) → IsCircuit c → AreBehind c bits measured
    → TextMeans (written c bits measured) c.qubits (elements_of c.gates) bits measured
text_means c bits measured is behind =
    let w : IsWritten c bits measured = is_written c bits measured is behind in
    record { program = w.program; is = w.is; means = w.means }

-- ---- what the elements are
pub phase_is_lowered : (q k : ℕ) → k ≢ 0 → k < turn → lowered_gate (elementary.U q 0 0 k) ≡ Phase q k ∷ []
phase_is_lowered q k some below =
    let same : sum_of_phases 0 k ≡ k = omega arith in
    ap (phase_gates q) same ∙ ap (λ b. if b then [] else Phase q k ∷ []) (ne_eqb k 0 some)

gate_lowered : (n : ℕ) (gate : Gate) → IsGateOn n gate → lowered (elements gate) ≡ gate_without_cz gate
gate_lowered n (Phase q k) on = ap (λ gs. gs ++ []) (phase_is_lowered q k on.0.1 on.1)
gate_lowered n _ on = refl

pub lowered_elements : (n : ℕ) (gates : List Gate) → All (IsGateOn n) gates → lowered (elements_of gates) ≡ without_cz gates
lowered_elements n [] on = refl
lowered_elements n (gate ∷ gates) on =
    flat_map-append lowered_gate (elements gate) (elements_of gates)
    ∙ ap₂ (λ a b. a ++ b) (gate_lowered n gate (All-head (IsGateOn n) gate gates on))
    (lowered_elements n gates (All-tail (IsGateOn n) gate gates on))

odd_gate : (gate : Gate) → gate_odd_phases (gate_without_cz gate) ≡ gate_odd_phases (gate ∷ [])
odd_gate (Cx control target) = refl
odd_gate _ = refl

pub odd_without_cz : (gates : List Gate) → gate_odd_phases (without_cz gates) ≡ gate_odd_phases gates
odd_without_cz [] = refl
odd_without_cz (gate ∷ gates) =
    gate_odd_phases-append (gate_without_cz gate) (without_cz gates) ∙ ap₂ (λ a b. a + b) (odd_gate gate) (odd_without_cz gates)
    ∙ sym (gate_odd_phases-append (gate ∷ []) gates)

pub odd_elements : (n : ℕ) (gates : List Gate) → All (IsGateOn n) gates → elementary_odd_phases (elements_of gates) ≡ gate_odd_phases gates
odd_elements n gates on = sym (odd_lowered (elements_of gates)) ∙ ap gate_odd_phases (lowered_elements n gates on) ∙ odd_without_cz gates

-- the elements are on the qubits
on_qubits : (n : ℕ) (gates : List Gate) → All (IsGateOn n) gates → All (IsElementaryGateOn n) (elements_of gates)
on_qubits n [] on = All-nil (IsElementaryGateOn n)
on_qubits n (gate ∷ gates) on =
    here gate (elements_of gates) (All-head (IsGateOn n) gate gates on) (on_qubits n gates (All-tail (IsGateOn n) gate gates on)) where
      here : (gate : Gate) (more : List ElementaryGate) → IsGateOn n gate → All (IsElementaryGateOn n) more → All (IsElementaryGateOn n) (elements gate ++ more)
      here (H q) more on k = All-cons (IsElementaryGateOn n) (h q) more on.0 k
      here (Phase q p) more on k = All-cons (IsElementaryGateOn n) (elementary.U q 0 0 p) more on.0.0 k
      here (Cz q r) more on k =
          All-cons (IsElementaryGateOn n) (h r) (elementary.Cx q r ∷ h r ∷ more) on.0.1
          (All-cons (IsElementaryGateOn n) (elementary.Cx q r) (h r ∷ more) on.0 (All-cons (IsElementaryGateOn n) (h r) more on.0.1 k))
      here (Cx control target) more on k = All-cons (IsElementaryGateOn n) (elementary.Cx control target) more on.0 k
      here (Not q) more on k = All-cons (IsElementaryGateOn n) (elementary.U q half_turn 0 half_turn) more on.0 k

pub same_map : (n : ℕ) (gates : List Gate) → All (IsGateOn n) gates
    → Proportional n n (amp_elementary (elements_of gates)) (amp gates)
same_map n gates on =
    proportional_trans n n (amp_elementary (elements_of gates)) (amp (without_cz gates)) (amp gates)
    (subst (λ gs. Proportional n n (amp_elementary (elements_of gates)) (amp gs)) (lowered_elements n gates on)
    (proportional_lowered n (elements_of gates) (on_qubits n gates on)))
    (proportional_without_cz n gates on)
