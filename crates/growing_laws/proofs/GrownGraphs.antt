-- A graph that is simplified while gates still come, and the graph of the gates.
use Rattle.std.proofs.Common.{◌≡◌, refl, sym, ◌∙◌, ap, subst, arith, ℕ, false, true, not, cond, ◌&&◌, ne_eqb, List, [], ◌∷◌, ◌++◌, length}
use Rattle.std.specs.List.{All, fold}
use Rattle.std.proofs.lemmas.List.Folds.{list_all-append}
use Rattle.std.proofs.lemmas.List.FromFn.{length-map-range_with_len}
use Rattle.std.proofs.lemmas.List.Sums.{fold-append}
use Rattle.zx_model.specs.Bits.{member}
use Rattle.zx_calculus.specs.Graph.{End, Graph, ids, IsVertex, WellFormed}
use Rattle.zx_calculus.specs.Counts.{odd_phases}
use Rattle.zx_calculus.specs.Reduced.{IsReduced}
use Rattle.zx_calculus.specs.Splits.{spider_of_phase_zero, new_vertex}
use Rattle.zx_calculus.specs.StepScalars.{IsSumTimes}
use Rattle.zx_calculus.specs.Steps.{Step, IsStep, IsRun, LocalComplement, Delete, Pivot, SplitInput, SplitOutput, DropLone, FuseInto, FuseTwin}
use Rattle.zx_calculus.proofs.Kept.{both}
use Rattle.zx_calculus.proofs.Steps.{step_kept, run_kept}
use Rattle.move_laws.specs.Orders.{is_split}
use Rattle.zx_gates.specs.Circuit.{Circuit, IsOnQubits}
use Rattle.zx_gates.specs.declared.gate.Gate.{Gate}
use Rattle.zx_gates.specs.declared.gate.Gate.TheVariants.{H, Phase, Cz, Cx, Not}
use Rattle.zx_model.specs.Number.{one}
use Rattle.zx_model.specs.declared.scalar.Scalar.{Scalar}
use Rattle.circuit_laws.specs.Peeling.{are_plain}
use Rattle.circuit_graph.specs.Translation.{wires, with_gate, written_out, spiders_of, translated}
use Rattle.circuit_graph.proofs.WrittenOut.{spiders-written}
use Rattle.growing_laws.specs.Growing.{placed, next_id, ids_after, grown, IsGrowing, SplitNothing, IsBasic}
use Rattle.growing_laws.specs.Renaming.{renamed_ends, renamed_step, with_name, IsRenamed}
use Rattle.growing_laws.specs.Growth.{Reaches, ComesFrom}
use Rattle.growing_laws.proofs.Peeled.{fresh_above, placed_peels}
use Rattle.growing_laws.proofs.Renamed.{step_renamed}
use Rattle.growing_laws.proofs.Renamings.{length-renamed, spider_renamed, phase_renamed, edge_renamed, split_input_renamed, split_output_renamed}
use Rattle.growing_laws.proofs.RunsGrown.{run_placed, run_growing, run_append, grown_grows, scaled_behind}
use Rattle.growing_laws.proofs.SameButNames.{named_itself, named_back, odd_named, reduced_named}
use Rattle.growing_laws.proofs.TranslatedGraphs.{ids_after_is, length-next, same_gate, fold_grown, wires_growing, all_written_on}

-- ---- any run under other names
record Taken (h after : Graph) : Type 0 where
  step : Step
  graph : Graph
  taken : IsStep h step graph
  to : ℕ → ℕ
  back : ℕ → ℕ
  renamed : IsRenamed to back after graph

under_names : (to back : ℕ → ℕ) (h after : Graph) (s : Step) → (k : Graph) × IsStep h s k × IsRenamed to back after k → Taken h after
under_names to back h after s k = record { step = s; graph = k.0; taken = k.1; to = to; back = back; renamed = k.2 }

step_taken : (to back : ℕ → ℕ) (g h : Graph) → WellFormed g → WellFormed h → IsRenamed to back g h → (s : Step) (after : Graph) → IsStep g s after → Taken h after
step_taken to back g h wg wh r (LocalComplement u) after c = under_names to back h after (LocalComplement (to u)) (step_renamed to back g h wg wh r (LocalComplement u) after refl c)
step_taken to back g h wg wh r (Delete u) after c = under_names to back h after (Delete (to u)) (step_renamed to back g h wg wh r (Delete u) after refl c)
step_taken to back g h wg wh r (Pivot u v) after c = under_names to back h after (Pivot (to u) (to v)) (step_renamed to back g h wg wh r (Pivot u v) after refl c)
step_taken to back g h wg wh r (SplitInput b) after c =
    under_names (with_name (new_vertex g) (new_vertex h) to) (with_name (new_vertex h) (new_vertex g) back) h after (SplitInput (to b))
    (split_input_renamed to back g h wg wh r b after c)
step_taken to back g h wg wh r (SplitOutput b) after c =
    under_names (with_name (new_vertex g) (new_vertex h) to) (with_name (new_vertex h) (new_vertex g) back) h after (SplitOutput (to b))
    (split_output_renamed to back g h wg wh r b after c)
step_taken to back g h wg wh r (DropLone u) after c = under_names to back h after (DropLone (to u)) (step_renamed to back g h wg wh r (DropLone u) after refl c)
step_taken to back g h wg wh r (FuseInto u) after c = under_names to back h after (FuseInto (to u)) (step_renamed to back g h wg wh r (FuseInto u) after refl c)
step_taken to back g h wg wh r (FuseTwin u v) after c = under_names to back h after (FuseTwin (to u) (to v)) (step_renamed to back g h wg wh r (FuseTwin u v) after refl c)

run_taken : (to back : ℕ → ℕ) (g h : Graph) (steps : List Step) (after : Graph) → WellFormed g → WellFormed h → IsRenamed to back g h → IsRun g steps after → Reaches h after
run_taken to back g h [] after wg wh r same =
    subst (Reaches h) same (record { steps = []; graph = h; run = refl; to = back; back = to; renamed = named_back to back g h wg r })
run_taken to back g h (s ∷ steps) after wg wh r run =
    let first : Taken h run.0 = step_taken to back g h wg wh r s run.0 run.1 in
    let later : Reaches first.graph after =
    run_taken first.to first.back run.0 first.graph steps after (step_kept g s run.0 wg run.1) (step_kept h first.step first.graph wh first.taken) first.renamed run.2 in
    record {
      steps = first.step ∷ later.steps;
      graph = later.graph;
      run = (first.graph, first.taken, later.run);
      to = later.to;
      back = later.back;
      renamed = later.renamed;
    }

-- ---- the graph of the gates
plain-renamed : (to : ℕ → ℕ) (es : List End) → are_plain (renamed_ends to es) ≡ are_plain es
plain-renamed to [] = refl
plain-renamed to (e ∷ es) = ap (λ b. not e.hadamard && b) (plain-renamed to es)

length-fold : (g : Graph) (gates : List Gate) → length (fold with_gate g gates).vertices ≡ ids_after (length g.vertices) gates
length-fold g [] = refl
length-fold g (gate ∷ gates) = length-fold (with_gate g gate) gates ∙ ap (λ n. ids_after n gates) (length-next g gate)

module _ (n : ℕ) (gates : List Gate) (on : All (IsOnQubits n) gates) where
  pub base_growing : IsGrowing (ids_after n gates) n (fold with_gate (wires n) gates)
  base_growing =
      subst (IsGrowing (ids_after n gates) n)
      (sym (fold_grown (wires n) gates ∙ ap (λ k. grown k (wires n) gates) (length-map-range_with_len spider_of_phase_zero 0 n)))
      (grown_grows n n (wires n) gates (wires_growing n) on)

  base_length : length (fold with_gate (wires n) gates).vertices ≡ ids_after n gates
  base_length = length-fold (wires n) gates ∙ ap (λ k. ids_after k gates) (length-map-range_with_len spider_of_phase_zero 0 n)

  pub reached : (h : Graph) → (c : ComesFrom n gates h) → IsGrowing (ids_after n gates) n c.reaches.graph
  reached h c = run_growing (ids_after n gates) n (fold with_gate (wires n) gates) c.reaches.steps c.reaches.graph base_growing c.no_split c.reaches.run

  pub grown_outputs : (h : Graph) → ComesFrom n gates h → length h.outputs ≡ n
  grown_outputs h c = ap length c.reaches.renamed.outputs ∙ length-renamed c.reaches.to c.reaches.graph.outputs ∙ (reached h c).outputs

  pub grown_plain : (h : Graph) → ComesFrom n gates h → are_plain h.outputs ≡ true
  grown_plain h c = ap are_plain c.reaches.renamed.outputs ∙ plain-renamed c.reaches.to c.reaches.graph.outputs ∙ (reached h c).plain

  pub grown_step : (h : Graph) (s : Step) (after : Graph) → WellFormed h → ComesFrom n gates h → is_split s ≡ false → IsStep h s after → ComesFrom n gates after
  grown_step h s after w c none step = record {
    reaches = record {
      steps = c.reaches.steps ++ renamed_step c.reaches.back s ∷ [];
      graph = taken.0;
      run = run_append (fold with_gate (wires n) gates) c.reaches.steps c.reaches.graph (renamed_step c.reaches.back s ∷ []) taken.0 c.reaches.run (taken.0, taken.1, refl);
      to = c.reaches.to;
      back = c.reaches.back;
      renamed = named_back c.reaches.back c.reaches.to after taken.0 (step_kept h s after w step) taken.2;
    };
    no_split = list_all-append (λ t. not (is_split t)) c.reaches.steps (renamed_step c.reaches.back s ∷ [])
        ∙ both _ _ c.no_split (both _ _ (ap not (still_none s ∙ none)) refl);
  }
    where
      taken : (k : Graph) × IsStep c.reaches.graph (renamed_step c.reaches.back s) k × IsRenamed c.reaches.back c.reaches.to after k
      taken =
          step_renamed c.reaches.back c.reaches.to h c.reaches.graph w (reached h c).well_formed
          (named_back c.reaches.to c.reaches.back c.reaches.graph h (reached h c).well_formed c.reaches.renamed) s after none step

      still_none : (t : Step) → is_split (renamed_step c.reaches.back t) ≡ is_split t
      still_none (LocalComplement u) = refl
      still_none (Delete u) = refl
      still_none (Pivot u v) = refl
      still_none (SplitInput b) = refl
      still_none (SplitOutput b) = refl
      still_none (DropLone u) = refl
      still_none (FuseInto u) = refl
      still_none (FuseTwin u v) = refl

  pub gate_renamed : (to back : ℕ → ℕ) (g h : Graph) (new other : ℕ) (gate : Gate) → IsGrowing new n g → WellFormed h → member other (ids h.vertices) ≡ false →
      IsRenamed to back g h → IsBasic gate → IsOnQubits n gate →
      (to' : ℕ → ℕ) × (back' : ℕ → ℕ) × IsRenamed to' back' (placed new g gate) (placed other h gate) × ((v : ℕ) → IsVertex g v → to' v ≡ to v)
  gate_renamed to back g h new other (H q) r w fresh named basic here = (
    with_name new other to,
    with_name other new back,
    spider_renamed to back g h r.well_formed w named new other q (fresh_above new g r.below) fresh (subst (λ m. IsOnQubits m (H q)) (sym r.outputs) here),
    λ v there. ap (λ b. cond b other (to v)) (ne_eqb v new (λ e. let low = r.below v there in absurd (omega (arith, low, e)))),
  )
  gate_renamed to back g h new other (Phase q k) r w fresh named basic here =
      (to, back, phase_renamed to back g h r.well_formed w named new other q k (subst (λ m. IsOnQubits m (Phase q k)) (sym r.outputs) here).0, λ v there. refl)
  gate_renamed to back g h new other (Cz p q) r w fresh named basic here = (
    to,
    back,
    edge_renamed to back g h r.well_formed w named new other p q (fresh_above new g r.below) fresh (subst (λ m. IsOnQubits m (Cz p q)) (sym r.outputs) here),
    λ v there. refl,
  )
  gate_renamed to back g h new other (Cx p q) r w fresh named basic here = absurd basic
  gate_renamed to back g h new other (Not q) r w fresh named basic here = absurd basic

  pub longer : (gate : Gate) → placed (ids_after n gates) (fold with_gate (wires n) gates) gate ≡ fold with_gate (wires n) (gates ++ gate ∷ [])
  longer gate =
      ap (λ k. placed k (fold with_gate (wires n) gates) gate) (sym base_length) ∙ sym (same_gate (fold with_gate (wires n) gates) gate)
      ∙ sym (fold-append with_gate (wires n) gates (gate ∷ []))

  pub grown_scalar : (new : ℕ) (h : Graph) (gate : Gate) (s : Scalar) → WellFormed h → member new (ids h.vertices) ≡ false → ComesFrom n gates h → IsBasic gate →
      IsOnQubits n gate → IsSumTimes (fold with_gate (wires n) gates) s h →
      IsSumTimes (fold with_gate (wires n) (gates ++ gate ∷ [])) s (placed new h gate)
  grown_scalar new h gate s w fresh c basic here times =
      subst (λ g. IsSumTimes g s (placed new h gate)) (longer gate)
      (scaled_behind (fold with_gate (wires n) gates) h s (grown_outputs h c ∙ sym base_growing.outputs) times one (gate ∷ [])
      (placed (ids_after n gates) (fold with_gate (wires n) gates) gate) (placed new h gate)
      (placed_peels (ids_after n gates) (fold with_gate (wires n) gates) base_growing.well_formed
      (fresh_above (ids_after n gates) (fold with_gate (wires n) gates) base_growing.below) base_growing.plain gate basic (subst (λ m. IsOnQubits m gate) (sym base_growing.outputs) here))
      (placed_peels new h w fresh (grown_plain h c) gate basic (subst (λ m. IsOnQubits m gate) (sym (grown_outputs h c)) here)))

  pub grown_gate : (new : ℕ) (h : Graph) (gate : Gate) → WellFormed h → member new (ids h.vertices) ≡ false → ComesFrom n gates h → IsBasic gate → IsOnQubits n gate →
      ComesFrom n (gates ++ gate ∷ []) (placed new h gate)
  grown_gate new h gate w fresh c basic here = record {
    reaches = record {
      steps = c.reaches.steps;
      graph = placed (ids_after n gates) c.reaches.graph gate;
      run = subst (λ g. IsRun g c.reaches.steps (placed (ids_after n gates) c.reaches.graph gate)) (longer gate)
          (run_placed (ids_after n gates) (fold with_gate (wires n) gates) c.reaches.steps c.reaches.graph gate base_growing.well_formed c.no_split
          (fresh_above (ids_after n gates) (fold with_gate (wires n) gates) base_growing.below) (subst (λ m. IsOnQubits m gate) (sym base_growing.outputs) here) c.reaches.run);
      to = names.0;
      back = names.1;
      renamed = names.2;
    };
    no_split = c.no_split;
  }
    where
      names : (to' : ℕ → ℕ) × (back' : ℕ → ℕ) × IsRenamed to' back' (placed (ids_after n gates) c.reaches.graph gate) (placed new h gate)
          × ((v : ℕ) → IsVertex c.reaches.graph v → to' v ≡ c.reaches.to v)
      names = gate_renamed c.reaches.to c.reaches.back c.reaches.graph h (ids_after n gates) new gate (reached h c) w fresh c.reaches.renamed basic here

-- ---- ids as in the graph of the gates
pub fresh_gate : (n : ℕ) (gates : List Gate) (steps : List Step) (h : Graph) (gate : Gate) → All (IsOnQubits n) gates → SplitNothing steps →
    IsRun (fold with_gate (wires n) gates) steps h → IsOnQubits n gate →
    IsRun (fold with_gate (wires n) (gates ++ gate ∷ [])) steps (placed (ids_after n gates) h gate)
fresh_gate n gates steps h gate on none run here =
    let base : IsGrowing (ids_after n gates) n (fold with_gate (wires n) gates) = base_growing n gates on in
    subst (λ g. IsRun g steps (placed (ids_after n gates) h gate)) (longer n gates on gate)
    (run_placed (ids_after n gates) (fold with_gate (wires n) gates) steps h gate base.well_formed none
    (fresh_above (ids_after n gates) (fold with_gate (wires n) gates) base.below) (subst (λ m. IsOnQubits m gate) (sym base.outputs) here) run)

pub fresh_growing : (n : ℕ) (gates : List Gate) (steps : List Step) (h : Graph) → All (IsOnQubits n) gates → SplitNothing steps →
    IsRun (fold with_gate (wires n) gates) steps h → IsGrowing (ids_after n gates) n h
fresh_growing n gates steps h on none run =
    run_growing (ids_after n gates) n (fold with_gate (wires n) gates) steps h (base_growing n gates on) none run

pub ids_more : (n : ℕ) (gates : List Gate) (gate : Gate) → ids_after n (gates ++ gate ∷ []) ≡ next_id (ids_after n gates) gate
ids_more n [] gate = refl
ids_more n (first ∷ gates) gate = ids_more (next_id n first) gates gate

pub ids_of_circuit : (c : Circuit) → ids_after c.qubits (written_out c.gates) ≡ spiders_of c
ids_of_circuit c = omega (arith, ids_after_is c.qubits (written_out c.gates), spiders-written c.gates)

pub grown_begin : (n : ℕ) → ComesFrom n [] (wires n)
grown_begin n = record {
  reaches = record { steps = []; graph = wires n; run = refl; to = λ v. v; back = λ v. v; renamed = named_itself (wires n) };
  no_split = refl;
}

pub grown_reached : (c : Circuit) (h : Graph) (steps : List Step) (after : Graph) → All (IsOnQubits c.qubits) c.gates → WellFormed h →
    ComesFrom c.qubits (written_out c.gates) h → IsRun h steps after → Reaches (translated c) after
grown_reached c h steps after on w from run =
    let formed : WellFormed from.reaches.graph = (reached c.qubits (written_out c.gates) (all_written_on c.qubits c.gates on) h from).well_formed in
    let later : Reaches from.reaches.graph after =
    run_taken from.reaches.back from.reaches.to h from.reaches.graph steps after w formed
    (named_back from.reaches.to from.reaches.back from.reaches.graph h formed from.reaches.renamed) run in
    record {
      steps = from.reaches.steps ++ later.steps;
      graph = later.graph;
      run = run_append (translated c) from.reaches.steps from.reaches.graph later.steps later.graph from.reaches.run later.run;
      to = later.to;
      back = later.back;
      renamed = later.renamed;
    }

pub reached_odd : (g h : Graph) → WellFormed g → WellFormed h → (r : Reaches g h) → odd_phases r.graph ≡ odd_phases h
reached_odd g h wg wh r = sym (odd_named r.to r.back r.graph h (run_kept g r.steps r.graph wg r.run) wh r.renamed)

pub reached_reduced : (g h : Graph) → WellFormed g → WellFormed h → (r : Reaches g h) → IsReduced h → IsReduced r.graph
reached_reduced g h wg wh r reduced =
    let formed : WellFormed r.graph = run_kept g r.steps r.graph wg r.run in
    reduced_named r.back r.to h r.graph wh formed (named_back r.to r.back r.graph h formed r.renamed) reduced
