-- A graph while it grows: begun, after a step, and with a gate more.
use Rattle.std.proofs.Common.{◌≡◌, refl, sym, ◌∙◌, ap, subst, ℕ, true, List, [], ◌∷◌, ◌++◌, append_assoc, add-one, take, get_or, ◌+◌, ◌<◌, ◌≤◌, length, arith}
use Rattle.std.specs.List.{All}
use Rattle.std.specs.Prelude.{Result, Ok, Err, IfOk, None}
use Rattle.std.proofs.lemmas.List.{flat_map_more}
use Rattle.std.proofs.Math.Seq.{take-suc}
use Rattle.std.proofs.lemmas.List.Elements.{All-cons, All-append}
use Rattle.std.proofs.lemmas.List.Sums.{fold-append}
use Rattle.zx_model.specs.Scalar.{one_scalar}
use Rattle.zx_model.proofs.Scalars.{scaled_refl}
use Rattle.zx_calculus.specs.Graph.{Graph, ids, WellFormed}
use Rattle.zx_calculus.specs.Splits.{least_free}
use Rattle.zx_calculus.specs.Sum.{graph_sum}
use Rattle.zx_calculus.specs.StepScalars.{IsSumTimes}
use Rattle.zx_calculus.proofs.LeastFree.{least_free-fresh}
use Rattle.zx_calculus.proofs.Steps.{inputs_kept, outputs_kept}
use Rattle.zx_gates.specs.Circuit.{IsOnQubits}
use Rattle.zx_gates.specs.declared.gate.Gate.{Gate}
use Rattle.zx_gates.specs.declared.gate.Gate.TheVariants.{H, Phase, Cz, Cx, Not}
use Rattle.circuit_laws.specs.Peeling.{are_plain}
use Rattle.circuit_graph.specs.Translation.{wires, with_gate, written_out, by_hadamards}
use Rattle.growing_laws.specs.Growing.{placed, IsFree, IsBasic}
use Rattle.growing_laws.specs.Growth.{ComesFrom, graph_of_gates}
use Rattle.growing_laws.proofs.GrownGraphs.{base_growing, grown_begin, grown_scalar, grown_outputs, grown_plain}
use Rattle.growing_laws.proofs.Peeled.{placed_inputs, placed_outputs}
use Rattle.growing_laws.proofs.SpotsReached.{ReachesOn, ReachesBehind, reached_step, reached_gate}
use Rattle.growing_laws.proofs.TranslatedGraphs.{same_gate}
use Rattle.zx_reduce.specs.Internal.Ordering.{Ordered, IsOrdered}
use Rattle.zx_reduce.proofs.GatesOrdered.{AddsNone, placed_still}
use Rattle.graph_rewrites.specs.Steps.{step_named}
use Rattle.graph_rewrites.specs.declared.step.Step.{Step}
use Rattle.zx_reduce.specs.Internal.Growing.{IsGrown, Gains, HasGrown, Held, none_held, MayBeHeld}
use Rattle.zx_reduce.specs.Internal.Progress.{Progress, IsDone, AreDone, Tries, most_tried}
use Rattle.zx_reduce.proofs.Doing.{step_times, done_count}
use Rattle.zx_reduce.proofs.Holdings.{held_on, held_behind}

-- no gates are on any qubits
grown_none : (n : ℕ) → All (IsOnQubits n) []
grown_none n = λ k d lt. absurd (omega arith)

-- wires alone
pub grown_wires : (n : ℕ) (p : Progress) → p.ordered.graph ≡ wires n → IsOrdered p.ordered → p.scalar ≡ one_scalar → p.takes_gates ≡ true → p.steps ≡ 0 → p.phases ≡ None →
    IsGrown n [] none_held p
grown_wires n p is ordered one takes steps none = record {
  on_qubits = grown_none n;
  comes = subst (ComesFrom n []) (sym is) (grown_begin n);
  ordered = ordered;
  sum = subst (λ h. IsSumTimes (wires n) p.scalar h) (sym is)
      (subst (λ s. IsSumTimes (wires n) s (wires n)) (sym one) (scaled_refl (length (wires n).inputs) (length (wires n).outputs) (graph_sum (wires n))));
  inputs = ap (λ (h : Graph). length h.inputs) is;
  outputs = ap (λ (h : Graph). length h.outputs) is;
  takes_gates = takes;
  few = omega (arith, steps);
  phases = subst (MayBeHeld none_held (wires n) p.ordered.graph (subst (ComesFrom n []) (sym is) (grown_begin n)).reaches) (sym none) refl;
}

-- clauses of an answer together
pub ok_both : {T E : Type 0} {P Q S : T → Type 0} (r : Result T E) → IfOk r P → IfOk r Q → ((x : T) → P x → Q x → S x) → IfOk r S
ok_both (Ok x) p q f = f x p q
ok_both (Err e) p q f = tt

pub ok_three : {T E : Type 0} {P Q R S : T → Type 0} (r : Result T E) → IfOk r P → IfOk r Q → IfOk r R → ((x : T) → P x → Q x → R x → S x) → IfOk r S
ok_three (Ok x) p q s f = f x p q s
ok_three (Err e) p q s f = tt

pub gains_then : (first second : List Gate) (a b c : Progress) → Gains first a b → Gains second b c → Gains (first ++ second) a c
gains_then first second a b c f s n gates held grown =
    subst (λ l. IsGrown n l held c) (append_assoc gates first second) (s n (gates ++ first) held (f n gates held grown))

pub plain_outputs : (p : Progress) → HasGrown p → are_plain p.ordered.graph.outputs ≡ true
plain_outputs p has = grown_plain has.qubits has.gates has.grown.on_qubits p.ordered.graph has.grown.comes

-- some gates are there still after one more
pub has_gained : (more : List Gate) (a b : Progress) → HasGrown a → Gains more a b → HasGrown b
has_gained more a b has gains = record { qubits = has.qubits; gates = has.gates ++ more; held = has.held; grown = gains has.qubits has.gates has.held has.grown }

-- gates are on as many qubits then
pub on_gained : (more : List Gate) (a b : Progress) → HasGrown a → Gains more a b → (gate : Gate) → IsOnQubits (length a.ordered.graph.outputs) gate →
    IsOnQubits (length b.ordered.graph.outputs) gate
on_gained more a b has gains gate on =
    let now = gains has.qubits has.gates has.held has.grown in
    subst (λ n. IsOnQubits n gate)
    (grown_outputs has.qubits has.gates has.grown.on_qubits a.ordered.graph has.grown.comes
    ∙ sym (grown_outputs has.qubits (has.gates ++ more) now.on_qubits b.ordered.graph now.comes)) on

-- a step that splits nothing
grown_done : (n : ℕ) (gates : List Gate) (held : Held) (p : Progress) (s : Step) (q : Progress) → IsGrown n gates held p → IsDone p s q → q.steps ≤ most_tried → IsGrown n gates held q
grown_done n gates held p s q grown done few = record {
  on_qubits = grown.on_qubits;
  comes = record { reaches = on.reaches; no_split = on.no_split grown.comes.no_split (done.whole grown.takes_gates) };
  ordered = done.ordered grown.ordered;
  sum = step_times (graph_of_gates n gates) p s q grown.inputs grown.outputs done grown.ordered grown.sum;
  inputs = inputs_kept p.ordered.graph (step_named s) q.ordered.graph done.step ∙ grown.inputs;
  outputs = outputs_kept p.ordered.graph (step_named s) q.ordered.graph done.step ∙ grown.outputs;
  takes_gates = done.takes_gates ∙ grown.takes_gates;
  few = few;
  phases = held_on held (graph_of_gates n gates) p.ordered.graph grown.comes.reaches (step_named s) q.ordered.graph grown.ordered.well_formed done.step on p.phases q.phases done.phases grown.phases;
}
  where
    on : ReachesOn (graph_of_gates n gates) p.ordered.graph grown.comes.reaches (step_named s) q.ordered.graph
    on = reached_step (graph_of_gates n gates) p.ordered.graph (base_growing n gates grown.on_qubits).well_formed grown.ordered.well_formed grown.comes.reaches (step_named s) q.ordered.graph done.step

grown_all : (n : ℕ) (gates : List Gate) (held : Held) (p : Progress) (steps : List Step) (q : Progress) → IsGrown n gates held p → AreDone p steps q → q.steps ≤ most_tried → IsGrown n gates held q
grown_all n gates held p [] q grown same few = subst (IsGrown n gates held) same grown
grown_all n gates held p (s ∷ steps) q grown done few =
    let later = done_count done.0 steps q done.2 in
    grown_all n gates held done.0 steps q (grown_done n gates held p s done.0 grown done.1 (omega (arith, later, few))) done.2 few

-- steps that are tried after gates
pub gains_tried : (more : List Gate) (a b c : Progress) → Gains more a b → Tries b c → Gains more a c
gains_tried more a b c first second n gates held grown =
    let now = first n gates held grown in
    grown_all n (gates ++ more) held b second.steps c now second.done (second.few now.few)

-- a gate more
module _ (n : ℕ) (gates : List Gate) (gate : Gate) where
  longer : graph_of_gates n (gates ++ gate ∷ []) ≡ placed (length (graph_of_gates n gates).vertices) (graph_of_gates n gates) gate
  longer = fold-append with_gate (wires n) gates (gate ∷ []) ∙ same_gate (graph_of_gates n gates) gate

  same_inputs : length (graph_of_gates n (gates ++ gate ∷ [])).inputs ≡ length (graph_of_gates n gates).inputs
  same_inputs = ap (λ (g : Graph). length g.inputs) longer ∙ ap length (placed_inputs (length (graph_of_gates n gates).vertices) (graph_of_gates n gates) gate)

  same_outputs : length (graph_of_gates n (gates ++ gate ∷ [])).outputs ≡ length (graph_of_gates n gates).outputs
  same_outputs = ap (λ (g : Graph). length g.outputs) longer ∙ placed_outputs (length (graph_of_gates n gates).vertices) (graph_of_gates n gates) gate

pub gains_gate : (new : ℕ) (gate : Gate) (before : Progress) (o : Ordered) → IsBasic gate → (WellFormed before.ordered.graph → IsFree new before.ordered.graph) →
    IsOnQubits (length before.ordered.graph.outputs) gate → o.graph ≡ placed new before.ordered.graph gate →
    (IsOrdered before.ordered → IsOrdered o) → Gains (gate ∷ []) before (record before { ordered = o })
gains_gate new gate before o basic fresh on is ordered n gates held grown =
    let after : Progress = record before { ordered = o } in
    let h = before.ordered.graph in
    let free : IsFree new h = fresh grown.ordered.well_formed in
    let here : IsOnQubits n gate = subst (λ m. IsOnQubits m gate) (grown_outputs n gates grown.on_qubits h grown.comes) on in
    let behind : ReachesBehind (graph_of_gates n gates) h grown.comes.reaches (graph_of_gates n (gates ++ gate ∷ [])) o.graph =
    subst (ReachesBehind (graph_of_gates n gates) h grown.comes.reaches (graph_of_gates n (gates ++ gate ∷ []))) (sym is)
    (reached_gate n gates grown.on_qubits new h gate grown.ordered.well_formed free grown.comes basic here) in
    record {
      on_qubits = All-append (IsOnQubits n) gates (gate ∷ []) grown.on_qubits (All-cons (IsOnQubits n) gate [] here (grown_none n));
      comes = record { reaches = behind.reaches; no_split = behind.no_split };
      ordered = ordered grown.ordered;
      sum = subst (λ k. IsSumTimes (graph_of_gates n (gates ++ gate ∷ [])) after.scalar k) (sym is)
          (grown_scalar n gates grown.on_qubits new h gate before.scalar grown.ordered.well_formed free grown.comes basic here grown.sum);
      inputs = ap (λ (k : Graph). length k.inputs) is ∙ ap length (placed_inputs new h gate) ∙ grown.inputs ∙ sym (same_inputs n gates gate);
      outputs = ap (λ (k : Graph). length k.outputs) is ∙ placed_outputs new h gate ∙ grown.outputs ∙ sym (same_outputs n gates gate);
      takes_gates = grown.takes_gates;
      few = grown.few;
      phases = held_behind held (graph_of_gates n gates) h grown.comes.reaches (graph_of_gates n (gates ++ gate ∷ [])) o.graph behind before.phases grown.phases;
    }

none_basic : (gate : Gate) → AddsNone gate → IsBasic gate
none_basic (Phase q k) none = tt
none_basic (Cz p q) none = tt
none_basic (H q) none = absurd none
none_basic (Cx p q) none = absurd none
none_basic (Not q) none = absurd none

-- the same of a struct that holds what is seen of it
module _ (inside before : Progress) (is : inside ≡ before) where
  pub plain_inside : HasGrown before → are_plain inside.ordered.graph.outputs ≡ true
  plain_inside has = plain_outputs inside (subst HasGrown (sym is) has)

  pub gate_inside : (new : ℕ) (gate : Gate) (o : Ordered) → IsBasic gate → (WellFormed inside.ordered.graph → IsFree new inside.ordered.graph) →
      IsOnQubits (length before.ordered.graph.outputs) gate → o.graph ≡ placed new inside.ordered.graph gate → (IsOrdered inside.ordered → IsOrdered o) →
      Gains (gate ∷ []) before (record inside { ordered = o })
  gate_inside new gate o basic fresh on grown ordered =
      subst (λ (p : Progress). Gains (gate ∷ []) p (record inside { ordered = o })) is
      (gains_gate new gate inside o basic fresh
      (subst (λ (p : Progress). IsOnQubits (length p.ordered.graph.outputs) gate) (sym is) on) grown ordered)

  pub still_inside : (gate : Gate) (o : Ordered) → AddsNone gate → IsOnQubits (length before.ordered.graph.outputs) gate →
      o.graph ≡ placed 0 inside.ordered.graph gate → (IsOrdered inside.ordered → IsOrdered o) → Gains (gate ∷ []) before (record inside { ordered = o })
  still_inside gate o none on grown ordered =
      let vs = ids inside.ordered.graph.vertices in
      gate_inside (least_free vs) gate o (none_basic gate none) (λ formed. least_free-fresh vs formed.vertices_rising) on
      (grown ∙ placed_still (least_free vs) inside.ordered.graph gate none) ordered

-- the next gate of a list
pub one_more : (n : ℕ) (gates : List Gate) (held : Held) (i : ℕ) (gate : Gate) (before after : Progress) → i < length gates → gate ≡ get_or gates i gate →
    IsGrown n (written_out (take i gates)) held before → Gains (by_hadamards gate) before after → IsGrown n (written_out (take (i + 1) gates)) held after
one_more n gates held i gate before after within is grown gains =
    subst (λ l. IsGrown n l held after) (sym more) (gains n (written_out (take i gates)) held grown)
  where
    more : written_out (take (i + 1) gates) ≡ written_out (take i gates) ++ by_hadamards gate
    more = ap written_out (rw add-one (take-suc gates i gate within) ∙ ap (λ g. take i gates ++ g ∷ []) (sym is)) ∙ sym (flat_map_more by_hadamards [] (take i gates) gate)
