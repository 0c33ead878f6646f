-- The graph of a circuit as gates behind wires, and behind that of its first gates.
use Rattle.std.proofs.Common.{◌≡◌, ◌≢◌, refl, sym, ◌∙◌, ap, ap₂, subst, ℕ, ◌+◌, ltb-true, true≢false, arith, List, [], ◌∷◌, length}
use Rattle.std.specs.List.{All, count_by, fold}
use Rattle.std.proofs.lemmas.List.Elements.{All-head, All-tail, All-cons, All-append}
use Rattle.std.proofs.lemmas.List.Sums.{fold-append}
use Rattle.std.proofs.lemmas.List.FromFn.{length-map-range_with_len}
use Rattle.std.proofs.lemmas.Grind.{flat_map-append}
use Rattle.zx_model.specs.Phase.{half_turn}
use Rattle.zx_model.specs.declared.scalar.Scalar.{Scalar}
use Rattle.zx_calculus.specs.Graph.{Graph, plain}
use Rattle.zx_calculus.specs.Splits.{spider_of_phase_zero}
use Rattle.zx_calculus.specs.StepScalars.{IsSumTimes}
use Rattle.zx_calculus.specs.Steps.{Step, IsRun}
use Rattle.zx_gates.specs.Circuit.{Circuit, IsOnQubits}
use Rattle.zx_gates.specs.Counting.{is_h, is_cx, is_not}
use Rattle.zx_gates.specs.declared.gate.Gate.{Gate}
use Rattle.zx_gates.specs.declared.gate.Gate.TheVariants.{H, Phase, Cz, Cx, Not}
use Rattle.circuit_graph.specs.Translation.{wires, with_gate, by_hadamards, written_out, spiders_of, translated, translated_table}
use Rattle.circuit_graph.specs.Internal.Runs.{begun, IsReady, Translates}
use Rattle.circuit_graph.proofs.Beginning.{begun_ready}
use Rattle.circuit_graph.proofs.Wiring.{wires_formed}
use Rattle.circuit_graph.proofs.Existing.{translates}
use Rattle.circuit_graph.proofs.WrittenOut.{count-cons, spiders-written, count-append}
use Rattle.move_laws.specs.Ranks.{HasFlowBy}
use Rattle.growing_laws.specs.Growing.{placed, next_id, ids_after, grown, IsGrowing, SplitNothing, IsBasic, followed_by}
use Rattle.growing_laws.proofs.Peeled.{placed_length}
use Rattle.growing_laws.proofs.RunsGrown.{run_grown, grown_scaled}

-- ---- gates written out
half_is_some : half_turn ≢ 0
half_is_some e = absurd (omega (arith, e))

none : (P : Gate → Type 0) → All P []
none P = λ k d lt. absurd (omega arith)

one : (n : ℕ) (gate : Gate) → IsOnQubits n gate → All (IsOnQubits n) (gate ∷ [])
one n gate on = All-cons (IsOnQubits n) gate [] on (none (IsOnQubits n))

one_basic : (gate : Gate) → IsBasic gate → All IsBasic (gate ∷ [])
one_basic gate basic = All-cons IsBasic gate [] basic (none IsBasic)

written_on : (n : ℕ) (gate : Gate) → IsOnQubits n gate → All (IsOnQubits n) (by_hadamards gate)
written_on n (H q) on = one n (H q) on
written_on n (Phase q k) on = one n (Phase q k) on
written_on n (Cz p q) on = one n (Cz p q) on
written_on n (Cx p q) on = All-cons (IsOnQubits n) (H q) (Cz p q ∷ H q ∷ []) on.1 (All-cons (IsOnQubits n) (Cz p q) (H q ∷ []) on (one n (H q) on.1))
written_on n (Not q) on =
    All-cons (IsOnQubits n) (H q) (Phase q half_turn ∷ H q ∷ []) on (All-cons (IsOnQubits n) (Phase q half_turn) (H q ∷ []) (on, half_is_some) (one n (H q) on))

pub all_written_on : (n : ℕ) (gates : List Gate) → All (IsOnQubits n) gates → All (IsOnQubits n) (written_out gates)
all_written_on n [] on = on
all_written_on n (gate ∷ gates) on =
    All-append (IsOnQubits n) (by_hadamards gate) (written_out gates) (written_on n gate (All-head (IsOnQubits n) gate gates on))
    (all_written_on n gates (All-tail (IsOnQubits n) gate gates on))

written_basic : (gate : Gate) → All IsBasic (by_hadamards gate)
written_basic (H q) = one_basic (H q) tt
written_basic (Phase q k) = one_basic (Phase q k) tt
written_basic (Cz p q) = one_basic (Cz p q) tt
written_basic (Cx p q) = All-cons IsBasic (H q) (Cz p q ∷ H q ∷ []) tt (All-cons IsBasic (Cz p q) (H q ∷ []) tt (one_basic (H q) tt))
written_basic (Not q) = All-cons IsBasic (H q) (Phase q half_turn ∷ H q ∷ []) tt (All-cons IsBasic (Phase q half_turn) (H q ∷ []) tt (one_basic (H q) tt))

pub all_written_basic : (gates : List Gate) → All IsBasic (written_out gates)
all_written_basic [] = none IsBasic
all_written_basic (gate ∷ gates) = All-append IsBasic (by_hadamards gate) (written_out gates) (written_basic gate) (all_written_basic gates)

-- ---- the graph of a circuit is gates behind wires
pub same_gate : (g : Graph) (gate : Gate) → with_gate g gate ≡ placed (length g.vertices) g gate
same_gate g (H q) = refl
same_gate g (Phase q k) = refl
same_gate g (Cz p q) = refl
same_gate g (Cx p q) = refl
same_gate g (Not q) = refl

pub length-next : (g : Graph) (gate : Gate) → length (with_gate g gate).vertices ≡ next_id (length g.vertices) gate
length-next g gate = ap (λ (h : Graph). length h.vertices) (same_gate g gate) ∙ placed_length (length g.vertices) g gate

pub fold_grown : (g : Graph) (gates : List Gate) → fold with_gate g gates ≡ grown (length g.vertices) g gates
fold_grown g [] = refl
fold_grown g (gate ∷ gates) =
    fold_grown (with_gate g gate) gates ∙ ap₂ (λ n k. grown n k gates) (length-next g gate) (same_gate g gate)

-- ---- no gates
pub wires_growing : (n : ℕ) → IsGrowing n n (wires n)
wires_growing n =
    let ready : IsReady (begun n) = begun_ready n (wires_formed n) in
    let same = length-map-range_with_len spider_of_phase_zero 0 n in
    record {
      well_formed = wires_formed n;
      outputs = length-map-range_with_len plain 0 n;
      plain = ready.plain;
      below = λ v there. let lt = ltb-true v (length (wires n).vertices) (sym (ready.numbered v) ∙ there) in omega (arith, lt, same);
    }

pub wires_ranked : (n : ℕ) (rank : ℕ → ℕ) (low high : ℕ) → HasFlowBy (wires n) rank low high
wires_ranked n rank low high = record {
  order = [];
  flow = record { table = []; flow = (begun_ready n (wires_formed n)).flow; along = refl };
  rises = tt;
  from_low = λ v there. absurd (true≢false (sym there));
  below_high = λ v there. absurd (true≢false (sym there));
}

-- ---- more gates
pub translated_growing : (c : Circuit) → All (IsOnQubits c.qubits) c.gates → IsGrowing (spiders_of c) c.qubits (translated c)
translated_growing c on =
    let all : Translates c (record { graph = translated c; table = translated_table c }) = translates c on in
    record {
      well_formed = all.well_formed;
      outputs = all.outputs;
      plain = all.plain_outputs;
      below = λ v there. let lt = all.ids v there in let same = all.spiders in omega (arith, lt, same);
    }

pub translated_more : (c : Circuit) (gates : List Gate) → All (IsOnQubits c.qubits) c.gates →
    translated (followed_by c gates) ≡ grown (spiders_of c) (translated c) (written_out gates)
translated_more c gates on =
    ap (fold with_gate (wires c.qubits)) (flat_map-append by_hadamards c.gates gates)
    ∙ fold-append with_gate (wires c.qubits) (written_out c.gates) (written_out gates)
    ∙ fold_grown (translated c) (written_out gates)
    ∙ ap (λ n. grown n (translated c) (written_out gates)) (translates c on).spiders

pub ids_after_is : (new : ℕ) (gates : List Gate) → ids_after new gates ≡ new + count_by is_h gates
ids_after_is new [] = omega arith
ids_after_is new (gate ∷ gates) =
    let again = ids_after_is (next_id new gate) gates in
    let both = count-cons is_h gate gates in
    let here = next_is gate in
    omega (arith, again, both, here)
  where
    next_is : (gate : Gate) → next_id new gate ≡ new + count_by is_h (gate ∷ [])
    next_is (H q) = omega arith
    next_is (Phase q k) = omega arith
    next_is (Cz p q) = omega arith
    next_is (Cx p q) = omega arith
    next_is (Not q) = omega arith

pub spiders_more : (c : Circuit) (gates : List Gate) → ids_after (spiders_of c) (written_out gates) ≡ spiders_of (followed_by c gates)
spiders_more c gates =
    omega (arith, ids_after_is (spiders_of c) (written_out gates), spiders-written gates, count-append is_h c.gates gates, count-append is_cx c.gates gates, count-append is_not c.gates gates)

pub translated_run : (c : Circuit) (gates : List Gate) (steps : List Step) (h : Graph) → All (IsOnQubits c.qubits) c.gates → All (IsOnQubits c.qubits) gates →
    SplitNothing steps → IsRun (translated c) steps h →
    IsRun (translated (followed_by c gates)) steps (grown (spiders_of c) h (written_out gates))
translated_run c gates steps h on more none run =
    subst (λ g. IsRun g steps (grown (spiders_of c) h (written_out gates))) (sym (translated_more c gates on))
    (run_grown (spiders_of c) c.qubits (translated c) steps h (written_out gates) (translated_growing c on) none (all_written_on c.qubits gates more) run)

pub translated_times : (c : Circuit) (gates : List Gate) (s : Scalar) (h : Graph) → All (IsOnQubits c.qubits) c.gates → All (IsOnQubits c.qubits) gates →
    IsGrowing (spiders_of c) c.qubits h → IsSumTimes (translated c) s h →
    IsSumTimes (translated (followed_by c gates)) s (grown (spiders_of c) h (written_out gates))
translated_times c gates s h on more r times =
    subst (λ g. IsSumTimes g s (grown (spiders_of c) h (written_out gates))) (sym (translated_more c gates on))
    (grown_scaled (spiders_of c) c.qubits (translated c) h (written_out gates) s (translated_growing c on) r (all_written_basic gates) (all_written_on c.qubits gates more) times)
