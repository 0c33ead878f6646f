-- From what is read to what is written for it.
use Rattle.std.proofs.Common.{◌≡◌, ◌≤◌, ◌<◌, ◌++◌, ℕ, Bool, true, false, List, length, arith, sym, ap₂, subst, ◌∙◌}
use Rattle.std.specs.List.{All}
use Rattle.zx_model.specs.Number.{Number}
use Rattle.zx_model.specs.Phase.{turn}
use Rattle.zx_model.specs.Proportional.{Proportional}
use Rattle.zx_model.specs.Scalar.{IsScaled, product_of_scalars, quotient_of_scalars}
use Rattle.zx_model.specs.declared.scalar.Scalar.{Scalar}
use Rattle.zx_model.proofs.Scalars.{scaled_over, scaled_proportional, scaled_trans}
use Rattle.zx_model.proofs.ProportionalLemmas.{proportional_sym, proportional_trans}
use Rattle.zx_gates.specs.declared.elementary.Elementary.{Elementary}
use Rattle.zx_gates.specs.declared.gate.Gate.{Gate}
use Rattle.zx_gates.specs.Circuit.{Circuit, IsCircuit, circuit_of, gate_odd_phases}
use Rattle.zx_gates.specs.Elementary.{IsElementary, IsMeasureOn, elementary_odd_phases}
use Rattle.zx_gates.specs.ElementaryMaps.{amp_elementary}
use Rattle.zx_gates.specs.Lowering.{lowered}
use Rattle.zx_gates.specs.Maps.{amp}
use Rattle.zx_gen.specs.Generator.{generated}
use Rattle.zx_report.specs.Report.{report_lines}
use Rattle.qasm_scope.specs.Meaning.{Means}
use Rattle.qasm_scope.specs.Texts.{TextMeans, program_size}
use Rattle.qasm_writer.specs.Elements.{elements_of}
use Rattle.qasm_writer.specs.Measuring.{AreBehind}
use Rattle.qasm_writer.specs.Written.{written}
use Rattle.qasm_writer.proofs.WrittenLemmas.{IsWritten, is_written, odd_elements, same_map}
use Rattle.zx_run.specs.FirstFault.{IsAccepted}
use Rattle.zx_run.specs.CircuitTexts.{circuit_for, report_if, scalar_if, generation_line, IsOptimisedText, IsTeleportedText, IsGenerationReport}
use Rattle.zx_extract.specs.Simplified.{gate_bound}
use Rattle.zx_optimise.specs.Optimising.{counts_of, most_optimised_root2, Optimises, Teleports, IsBest, IsPlain}

pub same_circuit : (c : Circuit) (qubits : ℕ) (gates : List Gate) → c.qubits ≡ qubits → c.gates ≡ gates → c ≡ circuit_of qubits gates
same_circuit c qubits gates same_qubits same_gates = ap₂ circuit_of same_qubits same_gates

-- what the text of a circuit means with the measurements of the read one, whose map it has and no more odd phases
record IsTextFor (read : Elementary) (circuit : Circuit) : Type 0 where
  pub means : TextMeans (written circuit read.bits read.measured) read.qubits (elements_of circuit.gates) read.bits read.measured
  pub same_map : Proportional read.qubits read.qubits (amp_elementary read.gates) (amp_elementary (elements_of circuit.gates))
  pub no_more_odd : elementary_odd_phases (elements_of circuit.gates) ≤ elementary_odd_phases read.gates
  pub size : program_size means.program ≡ length circuit.gates

IsTextFor-written : (read : Elementary) (circuit : Circuit) → circuit.qubits ≡ read.qubits
    → Proportional read.qubits read.qubits (amp_elementary read.gates) (amp (lowered read.gates))
    → gate_odd_phases (lowered read.gates) ≡ elementary_odd_phases read.gates
    → Proportional read.qubits read.qubits (amp (lowered read.gates)) (amp circuit.gates)
    → gate_odd_phases circuit.gates ≤ gate_odd_phases (lowered read.gates)
    → IsCircuit circuit → AreBehind circuit read.bits read.measured → IsTextFor read circuit
IsTextFor-written read circuit as_many map odd kept fewer is behind =
    let w : IsWritten circuit read.bits read.measured = is_written circuit read.bits read.measured is behind in
    let again = elements_of circuit.gates in
    let back : Proportional read.qubits read.qubits (amp circuit.gates) (amp_elementary again) =
    subst (λ n. Proportional n n (amp circuit.gates) (amp_elementary again)) as_many
    (proportional_sym circuit.qubits circuit.qubits (amp_elementary again) (amp circuit.gates) (same_map circuit.qubits circuit.gates is.on_qubits)) in
    record {
      means = record { program = w.program; is = w.is; means = subst (λ n. Means w.program n again read.bits read.measured) as_many w.means };
      same_map = proportional_trans read.qubits read.qubits (amp_elementary read.gates) (amp circuit.gates) (amp_elementary again)
          (proportional_trans read.qubits read.qubits (amp_elementary read.gates) (amp (lowered read.gates)) (amp circuit.gates) map kept) back;
      no_more_odd = subst (λ n. n ≤ elementary_odd_phases read.gates) (sym (odd_elements circuit.qubits circuit.gates is.on_qubits))
          (subst (λ n. gate_odd_phases circuit.gates ≤ n) odd fewer);
      size = w.size;
    }

-- from what is read to what is written, by way of the lowered circuit and the one that optimises it
exact_factor : (n m k : ℕ) (read from made text : List Bool → List Bool → Number) (s t u factor : Scalar) → m ≡ n → k ≡ n → u.turn < turn →
    IsScaled n n read s from → IsScaled m m from t made → IsScaled k k text u made → factor ≡ quotient_of_scalars (product_of_scalars s t) u →
    IsScaled n n read factor text
exact_factor n m k read from made text s t u factor same alike below first second third is =
    subst (λ (f : Scalar). IsScaled n n read f text) (sym is)
    (scaled_over n n read made text (product_of_scalars s t) u below
    (scaled_trans n n read from made s t first (subst (λ i. IsScaled i i from t made) same second))
    (subst (λ i. IsScaled i i text u made) alike third))

-- the text of a circuit that optimises the lowered one, its report, and the line of a scalar
IsOptimisedText-lowered : (best reported scaled : Bool) (text bytes : List ℕ) (read : Elementary) (circuit : Circuit) (t factor : Scalar)
    → IsAccepted text read
    → Proportional read.qubits read.qubits (amp_elementary read.gates) (amp (lowered read.gates))
    → gate_odd_phases (lowered read.gates) ≡ elementary_odd_phases read.gates
    → Optimises most_optimised_root2 (circuit_for read) circuit t
    → (best ≡ false → IsPlain (circuit_for read) circuit)
    → (best ≡ true → IsBest (circuit_for read) circuit) → IsCircuit circuit → AreBehind circuit read.bits read.measured
    → IsScaled read.qubits read.qubits (amp_elementary read.gates) factor (amp_elementary (elements_of circuit.gates)) → factor.turn < turn
    → bytes ≡ written circuit read.bits read.measured ++ (report_if reported (lowered read.gates) circuit.gates ++ scalar_if scaled factor)
    → IsOptimisedText best reported scaled text bytes
IsOptimisedText-lowered best reported scaled text bytes read circuit t factor accepted map odd better is_plain is_best is behind exact below spelled =
    let same = scaled_proportional read.qubits read.qubits (amp (lowered read.gates)) (amp circuit.gates) t better.kept.scaled in
    let text_for = IsTextFor-written read circuit better.kept.qubits map odd same better.kept.odd is behind in
    record {
      read = read;
      circuit = circuit;
      factor = factor;
      accepted = accepted;
      spelled = spelled;
      means = text_for.means;
      same_map = text_for.same_map;
      exact = exact;
      within_a_turn = below;
      no_more_odd = text_for.no_more_odd;
      few_gates = subst (λ size. size ≤ gate_bound read.qubits (elementary_odd_phases read.gates)) (sym text_for.size)
          (subst (λ k. length circuit.gates ≤ gate_bound read.qubits k) odd better.few_gates);
      valid = is;
      optimises = (t, better);
      is_plain = is_plain;
      is_best = is_best;
    }

pub IsOptimisedText-written : (best reported scaled : Bool) (text bytes : List ℕ) (read : Elementary) (from circuit : Circuit) (s t u factor : Scalar)
    → IsAccepted text read
    → from.qubits ≡ read.qubits → from.gates ≡ lowered read.gates → gate_odd_phases from.gates ≡ elementary_odd_phases read.gates
    → Optimises most_optimised_root2 from circuit t → (best ≡ false → IsPlain from circuit) → (best ≡ true → IsBest from circuit) → IsCircuit circuit
    → AreBehind circuit read.bits read.measured → IsScaled read.qubits read.qubits (amp_elementary read.gates) s (amp from.gates)
    → IsScaled circuit.qubits circuit.qubits (amp_elementary (elements_of circuit.gates)) u (amp circuit.gates) → u.turn < turn
    → factor ≡ quotient_of_scalars (product_of_scalars s t) u
    → bytes ≡ written circuit read.bits read.measured ++ (report_if reported from.gates circuit.gates ++ scalar_if scaled factor)
    → IsOptimisedText best reported scaled text bytes
IsOptimisedText-written best reported scaled text bytes read from circuit s t u factor accepted same_qubits same_gates odd better is_plain is_best is behind
    first third below is_factor spelled =
    let same = same_circuit from read.qubits (lowered read.gates) same_qubits same_gates in
    let map = scaled_proportional read.qubits read.qubits (amp_elementary read.gates) (amp from.gates) s first in
    IsOptimisedText-lowered best reported scaled text bytes read circuit t factor accepted
    (subst (λ gates. Proportional read.qubits read.qubits (amp_elementary read.gates) (amp gates)) same_gates map)
    (subst (λ gates. gate_odd_phases gates ≡ elementary_odd_phases read.gates) same_gates odd)
    (subst (λ c. Optimises most_optimised_root2 c circuit t) same better)
    (λ asked. subst (λ c. IsPlain c circuit) same (is_plain asked))
    (λ asked. subst (λ c. IsBest c circuit) same (is_best asked)) is behind
    (exact_factor read.qubits from.qubits circuit.qubits (amp_elementary read.gates) (amp from.gates) (amp circuit.gates)
    (amp_elementary (elements_of circuit.gates)) s t u factor same_qubits (better.kept.qubits ∙ same_qubits) below first better.kept.scaled third is_factor)
    (subst (λ (f : Scalar). f.turn < turn) (sym is_factor) (omega arith))
    (subst (λ gates. bytes ≡ written circuit read.bits read.measured ++ (report_if reported gates circuit.gates ++ scalar_if scaled factor)) same_gates spelled)

-- the text of a circuit with other phases than the lowered one
pub IsTeleportedText-written : (text bytes : List ℕ) (read : Elementary) (from circuit : Circuit)
    → IsAccepted text read
    → from.qubits ≡ read.qubits → from.gates ≡ lowered read.gates
    → Proportional read.qubits read.qubits (amp_elementary read.gates) (amp from.gates) → gate_odd_phases from.gates ≡ elementary_odd_phases read.gates
    → Teleports from circuit → IsCircuit circuit → AreBehind circuit read.bits read.measured
    → bytes ≡ written circuit read.bits read.measured → IsTeleportedText text bytes
IsTeleportedText-written text bytes read from circuit accepted same_qubits same_gates map odd teleports is behind spelled =
    let to : Teleports (circuit_for read) circuit =
    subst (λ c. Teleports c circuit) (same_circuit from read.qubits (lowered read.gates) same_qubits same_gates) teleports in
    let t = IsTextFor-written read circuit to.qubits
    (subst (λ gates. Proportional read.qubits read.qubits (amp_elementary read.gates) (amp gates)) same_gates map)
    (subst (λ gates. gate_odd_phases gates ≡ elementary_odd_phases read.gates) same_gates odd) to.map to.odd is behind in
    record {
      read = read;
      circuit = circuit;
      accepted = accepted;
      spelled = spelled;
      means = t.means;
      same_map = t.same_map;
      no_more_odd = t.no_more_odd;
      valid = is;
      teleports = to;
    }

-- the read circuit's measurements are behind a circuit on as many qubits
pub measured_behind : (read : Elementary) (circuit : Circuit) → IsElementary read → circuit.qubits ≡ read.qubits → AreBehind circuit read.bits read.measured
measured_behind read circuit is as_many = record {
  few_bits = is.few_bits;
  within = subst (λ n. All (IsMeasureOn n read.bits) read.measured) (sym as_many) is.measures_within;
  once = is.measured_once;
}

-- the report of a circuit that optimises the one of a seed
pub IsGenerationReport-written : (seed qubits gates : ℕ) (bytes : List ℕ) (read made : Circuit) (s : Scalar)
    → read.qubits ≡ qubits → read.gates ≡ generated seed qubits gates → IsCircuit made → Optimises most_optimised_root2 read made s → IsPlain read made
    → bytes ≡ generation_line seed qubits gates ++ report_lines (counts_of read.gates) (counts_of made.gates)
    → IsGenerationReport seed qubits gates bytes
IsGenerationReport-written seed qubits gates bytes read made s same_qubits same_gates is better is_plain spelled =
    record {
      made = made;
      valid = is;
      optimises = (s, subst (λ circuit. Optimises most_optimised_root2 circuit made s) (same_circuit read qubits (generated seed qubits gates) same_qubits same_gates) better);
      is_plain = subst (λ circuit. IsPlain circuit made) (same_circuit read qubits (generated seed qubits gates) same_qubits same_gates) is_plain;
      spelled = subst (λ list. bytes ≡ generation_line seed qubits gates ++ report_lines (counts_of list) (counts_of made.gates)) same_gates spelled;
    }
