-- What is left once no move is.
use Rattle.std.proofs.Common.{◌≡◌, refl, sym, ◌∙◌, ap, subst, ℕ, Bool, ◌+◌, ◌*◌, ◌≤◌, ◌<◌, false, List, ◌++◌, length, map, arith}
use Rattle.std.specs.Prelude.{Option, Some}
use Rattle.std.specs.List.{All}
use Rattle.zx_model.specs.Number.{Number}
use Rattle.zx_model.specs.Scalar.{IsScaled, IsWithin, product_of_scalars}
use Rattle.zx_model.specs.declared.scalar.Scalar.{Scalar}
use Rattle.zx_model.proofs.Scalars.{scaled_refl, scaled_trans, within_more, within_product}
use Rattle.zx_calculus.specs.Counts.{odd_phases}
use Rattle.zx_calculus.specs.Graph.{Graph, WellFormed}
use Rattle.zx_calculus.specs.StepScalars.{IsSumTimes}
use Rattle.zx_calculus.specs.Steps as calculus
use Rattle.zx_calculus.specs.Steps.{IsRun}
use Rattle.zx_calculus.specs.Sum.{graph_sum}
use Rattle.zx_calculus.proofs.Steps.{run_odd, run_inputs_kept, run_outputs_kept, run_proportional}
use Rattle.gflow_laws.specs.Flow.{Correction}
use Rattle.zx_gates.specs.Circuit.{Circuit, IsOnQubits, gate_limit}
use Rattle.zx_gates.specs.Maps.{amp}
use Rattle.circuit_graph.specs.Translation.{map_scalar, translated, translated_table, written_out}
use Rattle.circuit_graph.specs.Internal.Runs.{Translates}
use Rattle.circuit_graph.proofs.Existing.{translates}
use Rattle.growing_laws.specs.Growth.{Reaches}
use Rattle.growing_laws.proofs.GrownGraphs.{grown_reached, reached_odd}
use Rattle.phase_groups.specs.Groups.{Phases, FollowRun}
use Rattle.graph_rewrites.specs.Steps.{step_named}
use Rattle.graph_rewrites.specs.declared.step.Step.{Step}
use Rattle.zx_reduce.specs.Grown.{GrowsTo, most_grown_root2}
use Rattle.zx_reduce.specs.Reducing.{Reduces}
use Rattle.zx_reduce.specs.Scaling.{most_reduced_root2}
use Rattle.zx_reduce.specs.Internal.Growing.{IsGrown, none_held}
use Rattle.zx_reduce.specs.Internal.Ordering.{IsOrdered}
use Rattle.zx_reduce.specs.Internal.Progress.{Progress, Completes, Finishes, IsCompleted}
use Rattle.zx_reduce.proofs.Doing.{done_run, done_ordered, done_trace, done_count, done_times, done_followed}

-- what is left of p, and what it is finished to
module _ (p q : Progress) (h : Graph) (table : List Correction) (trace : List Step) (s : Scalar) (c : Completes p q) (f : Finishes q h table trace s) where
  abbrev closed : Progress
  closed = record p { takes_gates = false }

  completed_run : IsRun p.ordered.graph (map step_named c.steps) h
  completed_run =
      subst (λ (k : Graph). IsRun p.ordered.graph (map step_named c.steps) k) (sym f.graph) (done_run closed c.steps q c.done)

  completed_small : IsWithin most_reduced_root2 s
  completed_small = let few = f.small.few in within_more (2 * q.steps) most_reduced_root2 s f.small.small (omega (arith, few))

  completed_times : (g : Graph) → length p.ordered.graph.inputs ≡ length g.inputs → length p.ordered.graph.outputs ≡ length g.outputs →
      IsOrdered p.ordered → IsSumTimes g p.scalar p.ordered.graph → IsSumTimes g s h
  completed_times g inputs outputs ordered times =
      subst (λ k. IsSumTimes g s k) (sym f.graph)
      (subst (λ t. IsSumTimes g t q.ordered.graph) (sym f.scalar)
      (done_times g closed c.steps q inputs outputs c.done ordered times))

-- whatever groups of gates there are
pub finishes_all : (q : Progress) (phases : Option Phases) (h : Graph) (table : List Correction) (trace : List Step) (s : Scalar) →
    Finishes (record q { phases = phases }) h table trace s → Finishes q h table trace s
finishes_all q phases h table trace s f = record {
  graph = f.graph;
  reduced = f.reduced;
  well_formed = f.well_formed;
  flow = f.flow;
  kept = f.kept;
  scalar = f.scalar;
  small = f.small;
}

-- it has an order
pub completed_ordered : (p q : Progress) → Completes p q → IsOrdered p.ordered → IsOrdered q.ordered
completed_ordered p q c ordered = done_ordered (record p { takes_gates = false }) c.steps q c.done ordered

-- from the graph that was given on
module _ (g : Graph) (phases : Option Phases) (q : Progress) (h : Graph) (table : List Correction) (trace : List Step) (s : Scalar) (is : IsCompleted g phases q)
    (f : Finishes q h table trace s) where
  abbrev p : Progress
  p = is.begun

  abbrev c : Completes p q
  c = is.completes

  all : trace ≡ c.steps
  all =
      f.kept ∙ done_trace (record p { takes_gates = false }) c.steps q c.done refl ∙ ap (λ (t : List Step). t ++ c.steps) is.begins.trace

  formed : WellFormed g
  formed = subst WellFormed is.begins.graph is.begins.ordered.well_formed

  run : IsRun g (map step_named trace) h
  run =
      subst (λ (t : List Step). IsRun g (map step_named t) h) (sym all)
      (subst (λ k. IsRun k (map step_named c.steps) h) is.begins.graph (completed_run p q h table trace s c f))

  pub completed_reduces : Reduces g h table trace s
  completed_reduces = record {
    run = run;
    reduced = f.reduced;
    well_formed = f.well_formed;
    map = run_proportional g (map step_named trace) h formed run;
    scalar = completed_times p q h table trace s c f g (ap (λ (k : Graph). length k.inputs) is.begins.graph) (ap (λ (k : Graph). length k.outputs) is.begins.graph) is.begins.ordered
        (subst (λ k. IsSumTimes g p.scalar k) (sym is.begins.graph)
        (subst (λ t. IsSumTimes g t g) (sym is.begins.scalar) (scaled_refl (length g.inputs) (length g.outputs) (graph_sum g))));
    small = completed_small p q h table trace s c f;
    flow = f.flow;
    odd = run_odd g (map step_named trace) h formed run;
    inputs = run_inputs_kept g (map step_named trace) h run;
    outputs = run_outputs_kept g (map step_named trace) h run;
    few_steps =
        let same = ap length all in
        let count = done_count (record p { takes_gates = false }) c.steps q c.done in
        let began = is.begins.steps in
        let few = f.small.few in
        omega (arith, same, count, began, few);
  }

  -- the groups of gates at the end
  pub completed_groups : (x : Phases) → phases ≡ Some x → (y : Phases) × (q.phases ≡ Some y) × FollowRun g (map step_named trace) h x y
  completed_groups x asked =
      let end = done_followed (record p { takes_gates = false }) c.steps q x c.done (is.begins.phases ∙ asked) in (
        end.0,
        end.1,
        subst (λ (t : List Step). FollowRun g (map step_named t) h x end.0) (sym all)
            (subst (λ k. FollowRun k (map step_named c.steps) h x end.0) is.begins.graph
            (subst (λ k. FollowRun p.ordered.graph (map step_named c.steps) k x end.0) (sym f.graph) end.2)),
      )

-- ---- from the gates of a circuit on
-- at numbers of ends that are one
at_n : (n i o : ℕ) (f : List Bool → List Bool → Number) (s : Scalar) (g : List Bool → List Bool → Number) → i ≡ n → o ≡ n → IsScaled i o f s g → IsScaled n n f s g
at_n n i o f s g wide high p = subst (λ m. IsScaled n m f s g) high (subst (λ m. IsScaled m o f s g) wide p)

pub grown_whole : (c : Circuit) (p q : Progress) (h : Graph) (table : List Correction) (trace : List Step) (t s : Scalar) → All (IsOnQubits c.qubits) c.gates →
    length c.gates < gate_limit → IsWithin (4 * length c.gates) (map_scalar c.gates) → IsGrown c.qubits (written_out c.gates) none_held p →
    Completes p q → Finishes q h table trace t → s ≡ product_of_scalars (map_scalar c.gates) t → GrowsTo c h table s
grown_whole c p q h table trace t s on few small grown done f is = record {
  reaches = reaches;
  reduced = f.reduced;
  well_formed = f.well_formed;
  flow = f.flow;
  inputs = run_inputs_kept p.ordered.graph steps h run ∙ inputs;
  outputs = run_outputs_kept p.ordered.graph steps h run ∙ outputs;
  odd = subst (λ n. n ≤ odd_phases (translated c)) (reached_odd (translated c) h read.well_formed f.well_formed reaches)
      (run_odd (translated c) reaches.steps reaches.graph read.well_formed reaches.run);
  scaled = subst (λ q. IsScaled n n (amp c.gates) q (graph_sum h)) (sym is)
      (scaled_trans n n (amp c.gates) (graph_sum (translated c)) (graph_sum h) (map_scalar c.gates) t read.scaled
      (at_n n (length (translated c).inputs) (length (translated c).outputs) (graph_sum (translated c)) t (graph_sum h) read.inputs read.outputs
      (completed_times p q h table trace t done f (translated c) grown.inputs grown.outputs grown.ordered grown.sum)));
  small = subst (IsWithin most_grown_root2) (sym is)
      (within_more (4 * length c.gates + most_reduced_root2) most_grown_root2 (product_of_scalars (map_scalar c.gates) t)
      (within_product (4 * length c.gates) most_reduced_root2 (map_scalar c.gates) t small (completed_small p q h table trace t done f)) (fits (length c.gates) few));
}
  where
    n : ℕ
    n = c.qubits

    steps : List calculus.Step
    steps = map step_named done.steps

    read : Translates c (record { graph = translated c; table = translated_table c })
    read = translates c on

    run : IsRun p.ordered.graph steps h
    run = completed_run p q h table trace t done f

    inputs : length p.ordered.graph.inputs ≡ n
    inputs = grown.inputs ∙ read.inputs

    outputs : length p.ordered.graph.outputs ≡ n
    outputs = grown.outputs ∙ read.outputs

    reaches : Reaches (translated c) h
    reaches = grown_reached c p.ordered.graph steps h on grown.ordered.well_formed grown.comes run

    fits : (m : ℕ) → m < gate_limit → 4 * m + most_reduced_root2 ≤ most_grown_root2
    fits m lt = omega (arith, lt)
