-- Each circuit has a translation, gate by gate.
use Rattle.std.proofs.Common.{◌≡◌, ◌≢◌, refl, ◌∙◌, subst, ℕ, zero, suc, ◌<◌, false, List, [], ◌∷◌, ◌++◌, length, set, get_or, arith}
use Rattle.std.specs.Prelude.{slice_get, Some}
use Rattle.std.specs.List.{All}
use Rattle.std.proofs.lemmas.List.Elements.{All-head, All-tail}
use Rattle.std.proofs.lemmas.List.FromFn.{length-map-range_with_len}
use Rattle.zx_model.specs.Phase.{half_turn}
use Rattle.zx_model.specs.Bits.{member}
use Rattle.zx_calculus.specs.Graph.{XY, End, Graph, ids, end_vertices, insert_vertex, with_kinds, plain}
use Rattle.zx_calculus.specs.Splits.{spider_of_phase_zero, least_free}
use Rattle.zx_calculus.specs.Gadgets.{fuse_kind}
use Rattle.zx_calculus.specs.Edits.{IsToggle}
use Rattle.zx_calculus.specs.Turns.{in_plane}
use Rattle.zx_calculus.proofs.LeastFree.{least_free-fresh}
use Rattle.zx_calculus.proofs.Edits.{insert_kept}
use Rattle.zx_calculus.proofs.EditPrograms.{toggled, toggled_is_toggle}
use Rattle.gflow_laws.specs.Splits.{split_output_table}
use Rattle.gflow_laws.proofs.Seeing.{flow-same_sets}
use Rattle.zx_gates.specs.Circuit.{Circuit, IsOnQubits}
use Rattle.zx_gates.specs.declared.gate.Gate.{Gate}
use Rattle.zx_gates.specs.declared.gate.Gate.TheVariants.{H, Phase, Cz, Cx, Not}
use Rattle.circuit_laws.specs.Peeling.{HasPlainOutput}
use Rattle.circuit_laws.proofs.Places.{plain_at}
use Rattle.circuit_graph.specs.Translation.{by_hadamards, written_out, last_spider, translated, translated_table, IsTranslation}
use Rattle.circuit_graph.specs.Internal.Runs.{GraphSoFar, begun, IsReady, IsGateStep, IsRun, Translates}
use Rattle.circuit_graph.proofs.RunLemmas.{run_comes, run-append}
use Rattle.circuit_graph.proofs.Calls.{here_live, here_there, here_other, new_live, spider_put, spider_step, toggle_peel, wires_apart}
use Rattle.circuit_graph.proofs.Beginning.{begun_ready}
use Rattle.circuit_graph.proofs.Wiring.{wires_formed}
use Rattle.circuit_graph.proofs.Whole.{run_translates}

pub ready : (n : ℕ) → IsReady (begun n)
ready n = begun_ready n (wires_formed n)

-- ---- a gate
-- what there is after gates
pub record HasRun (s : GraphSoFar) (gates : List Gate) : Type 0 where
  pub last : GraphSoFar
  pub run : IsRun s gates last

output_at : (es : List End) (q : ℕ) → q < length es → slice_get (end_vertices es) q ≡ Some (get_or (end_vertices es) q 0)
output_at [] q lt = absurd (omega (arith, lt))
output_at (e ∷ es) zero lt = refl
output_at (e ∷ es) (suc q) lt = output_at es q (omega (arith, lt))

module _ (s : GraphSoFar) (r : IsReady s) where
  has_output : (q : ℕ) → q < length s.graph.outputs → HasPlainOutput s.graph q (last_spider s.graph q)
  has_output q lt = plain_at s.graph.outputs q (last_spider s.graph q) r.plain (output_at s.graph.outputs q lt)

  one_step : (gate : Gate) (t : GraphSoFar) → IsGateStep s gate t → HasRun s (gate ∷ [])
  one_step gate t step = record { last = t; run = (t, step, refl) }

  hadamard : (q : ℕ) → q < length s.graph.outputs → HasRun s (H q ∷ [])
  hadamard q lt =
      one_step (H q) t
      (spider_step s q here next t r (spider_put s.graph q here next 0 g r.well_formed (has_output q lt) fresh refl refl h toggle t.graph refl refl)
      (record { order = refl; members = λ v w. refl }))
    where
      here : ℕ
      here = last_spider s.graph q

      next : ℕ
      next = least_free (ids s.graph.vertices)

      fresh : member next (ids s.graph.vertices) ≡ false
      fresh = least_free-fresh (ids s.graph.vertices) r.well_formed.vertices_rising

      g : Graph
      g = record { vertices = insert_vertex (record { id = next; kind = in_plane XY 0 }) s.graph.vertices; edges = s.graph.edges; inputs = s.graph.inputs; outputs = s.graph.outputs }

      h : Graph
      h = toggled g here next

      toggle : IsToggle g here next h
      toggle =
          toggled_is_toggle g here next (insert_kept s.graph (spider_of_phase_zero next) r.well_formed fresh (omega arith))
          (here_there s.graph q here next 0 g r.well_formed (has_output q lt) fresh refl refl) (new_live s.graph next 0 g fresh refl refl) (here_other s.graph q here next 0 g r.well_formed (has_output q lt) fresh refl refl)

      t : GraphSoFar
      t = record {
        graph = record { vertices = h.vertices; edges = h.edges; inputs = h.inputs; outputs = set h.outputs q (plain next) };
        table = split_output_table here next s.table;
      }

  phase : (q k : ℕ) → q < length s.graph.outputs → HasRun s (Phase q k ∷ [])
  phase q k lt =
      one_step (Phase q k) (record { graph = record s.graph { vertices = with_kinds (fuse_kind (last_spider s.graph q) k) s.graph.vertices }; table = s.table })
      (record { peel = record { vertex = last_spider s.graph q; output = has_output q lt; vertices = refl; edges = refl; inputs = refl; outputs = refl }; table = refl })

  cz : (p q : ℕ) → p < length s.graph.outputs → q < length s.graph.outputs → p ≢ q → HasRun s (Cz p q ∷ [])
  cz p q lt lt' apart =
      one_step (Cz p q) (record { graph = toggled s.graph u v; table = s.table })
      (record {
        peel = toggle_peel s.graph p q u v (toggled s.graph u v) r.well_formed (has_output p lt) (has_output q lt') apart
            (toggled_is_toggle s.graph u v r.well_formed (here_live s.graph p u r.well_formed (has_output p lt)) (here_live s.graph q v r.well_formed (has_output q lt'))
            (wires_apart s.graph p q u v r.well_formed (has_output p lt) (has_output q lt') apart));
        table = refl;
      })
    where
      u : ℕ
      u = last_spider s.graph p

      v : ℕ
      v = last_spider s.graph q

-- gates after gates
then_run : (s : GraphSoFar) (first second : List Gate) (n : ℕ) → IsReady s → length s.graph.outputs ≡ n → HasRun s first →
    ((t : GraphSoFar) → IsReady t → length t.graph.outputs ≡ n → HasRun t second) → HasRun s (first ++ second)
then_run s first second n r e before after =
    let comes = run_comes s first before.last r before.run in
    let rest = after before.last comes.ready (comes.outputs ∙ e) in
    record { last = rest.last; run = run-append s first before.last second rest.last before.run rest.run }

within : (s : GraphSoFar) (q n : ℕ) → length s.graph.outputs ≡ n → q < n → q < length s.graph.outputs
within s q n e lt = omega (arith, e, lt)

gate_run : (n : ℕ) (gate : Gate) → IsOnQubits n gate → (s : GraphSoFar) → IsReady s → length s.graph.outputs ≡ n → HasRun s (by_hadamards gate)
gate_run n (H q) on s r e = hadamard s r q (within s q n e on)
gate_run n (Phase q k) on s r e = phase s r q k (within s q n e on.0)
gate_run n (Cz p q) on s r e = cz s r p q (within s p n e on.0) (within s q n e on.1) on.2
gate_run n (Cx control target) on s r e =
    then_run s (H target ∷ []) (Cz control target ∷ H target ∷ []) n r e (hadamard s r target (within s target n e on.1))
    (λ t rt et. then_run t (Cz control target ∷ []) (H target ∷ []) n rt et (cz t rt control target (within t control n et on.0) (within t target n et on.1) on.2)
    (λ u ru eu. hadamard u ru target (within u target n eu on.1)))
gate_run n (Not q) on s r e =
    then_run s (H q ∷ []) (Phase q half_turn ∷ H q ∷ []) n r e (hadamard s r q (within s q n e on))
    (λ t rt et. then_run t (Phase q half_turn ∷ []) (H q ∷ []) n rt et (phase t rt q half_turn (within t q n et on))
    (λ u ru eu. hadamard u ru q (within u q n eu on)))

pub gates_run : (n : ℕ) (gates : List Gate) → All (IsOnQubits n) gates → (s : GraphSoFar) → IsReady s → length s.graph.outputs ≡ n → HasRun s (written_out gates)
gates_run n [] on s r e = record { last = s; run = refl }
gates_run n (gate ∷ gates) on s r e =
    then_run s (by_hadamards gate) (written_out gates) n r e (gate_run n gate (All-head (IsOnQubits n) gate gates on) s r e)
    (λ t rt et. gates_run n gates (All-tail (IsOnQubits n) gate gates on) t rt et)

-- the graph of a circuit with its flow, whoever makes it
pub translates : (c : Circuit) → All (IsOnQubits c.qubits) c.gates → Translates c (record { graph = translated c; table = translated_table c })
translates c on = record {
  graph = refl;
  well_formed = made.well_formed;
  flow = flow-same_sets (translated c) there.last.table (translated_table c) made.table made.flow;
  table = record { order = refl; members = λ v w. refl };
  scaled = made.scaled;
  spiders = made.spiders;
  ids = made.ids;
  planes = made.planes;
  odd = made.odd;
  inputs = made.inputs;
  outputs = made.outputs;
  plain_inputs = made.plain_inputs;
  plain_outputs = made.plain_outputs;
}
  where
    there : HasRun (begun c.qubits) (written_out c.gates)
    there = gates_run c.qubits c.gates on (begun c.qubits) (ready c.qubits) (length-map-range_with_len plain 0 c.qubits)

    found : Translates c there.last
    found = run_translates c there.last (ready c.qubits) on there.run

    made : IsTranslation c (translated c) there.last.table
    made = subst (λ g. IsTranslation c g there.last.table) found.graph found
