-- What holds of the graph of a circuit.
use Rattle.std.proofs.Common.{◌≡◌, refl, sym, ◌∙◌, ap, subst, ltb-true, ℕ, ◌+◌, ◌*◌, pos, neg_ℤ, Bool, List, [], length, arith}
use borrow.Author.Differences.{ints, up, down}
use Rattle.std.specs.List.{All}
use Rattle.zx_model.specs.Number.{one, mul, root_power}
use Rattle.zx_model.specs.Proportional.{Proportional}
use Rattle.zx_model.specs.Scalar.{IsScaled}
use Rattle.zx_model.proofs.Powers.{root_power-zero}
use Rattle.zx_model.proofs.Scalars.{scaled_if, scaled_proportional}
use Rattle.zx_model.proofs.ProportionalLemmas.{proportional_sym}
use Rattle.zx_model.proofs.Ring.{one-mul}
use Rattle.std.proofs.lemmas.List.FromFn.{length-map-range_with_len}
use Rattle.zx_calculus.specs.Graph.{Graph, plain}
use Rattle.zx_calculus.specs.Sum.{graph_sum}
use Rattle.zx_calculus.specs.Splits.{spider_of_phase_zero}
use Rattle.zx_gates.specs.Circuit.{Circuit, IsOnQubits}
use Rattle.zx_gates.specs.Maps.{amp}
use Rattle.zx_gates.proofs.MapLemmas.{amp-acts}
use Rattle.zx_gates.proofs.Scaling.{root_of_two_power-twice}
use Rattle.circuit_laws.specs.Followed.{EndsAt}
use Rattle.circuit_laws.proofs.Composing.{peels_at_end, ends_at_sum}
use Rattle.circuit_graph.specs.Translation.{wires, written_out, written_count, map_scalar}
use Rattle.circuit_graph.specs.Internal.Runs.{GraphSoFar, begun, IsReady, IsRun, Comes, Translates}
use Rattle.circuit_graph.proofs.RunLemmas.{run_comes}
use Rattle.circuit_graph.proofs.WrittenOut.{scalar_of, spiders-written, odd-written, map-written, scalar_of-power}
use Rattle.circuit_graph.proofs.Beginning.{odd-wires, begun_ends}
use Rattle.circuit_laws.specs.Peeling.{are_plain}

-- a sum that is the circuit's map times its number, by a scalar
scaled_map : (c : Circuit) (g : Graph) →
    ((x y : List Bool) → length x ≡ c.qubits → length y ≡ c.qubits → graph_sum g x y ≡ mul (scalar_of c.gates) (amp c.gates x y)) →
    IsScaled c.qubits c.qubits (amp c.gates) (map_scalar c.gates) (graph_sum g)
scaled_map c g e =
    scaled_if c.qubits c.qubits (amp c.gates) (graph_sum g) (map_scalar c.gates) (2 * count) 0 0 exponents refl (λ x y l m.
    ap (λ k. mul k (amp c.gates x y)) (root_of_two_power-twice count ∙ sym (scalar_of-power c.gates))
    ∙ sym (e x y l m)
    ∙ sym (ap (λ k. mul k (graph_sum g x y)) (one-mul (root_power 0) ∙ root_power-zero) ∙ one-mul (graph_sum g x y)))
  where
    count : ℕ
    count = written_count c.gates

    exponents : up (neg_ℤ (pos (2 * count))) + 2 * count ≡ 0 + down (neg_ℤ (pos (2 * count)))
    exponents = omega (arith, ints)

pub run_translates : (c : Circuit) (t : GraphSoFar) → IsReady (begun c.qubits) → All (IsOnQubits c.qubits) c.gates →
    IsRun (begun c.qubits) (written_out c.gates) t → Translates c t
run_translates c t r on run = record {
  graph = comes.graph;
  well_formed = comes.ready.well_formed;
  flow = comes.ready.flow;
  table = comes.table;
  spiders = omega (arith, comes.spiders, length-map-range_with_len spider_of_phase_zero 0 c.qubits, spiders-written c.gates);
  ids = λ u there. ltb-true u (length t.graph.vertices) (sym (comes.ready.numbered u) ∙ there);
  planes = λ v live. comes.ready.planes v;
  odd = omega (arith, comes.odd, odd-wires c.qubits, odd-written c.gates);
  inputs = inputs;
  outputs = outputs;
  plain_inputs = ap are_plain comes.inputs ∙ r.plain;
  plain_outputs = comes.ready.plain;
  scaled = scaled_map c t.graph (λ x y l m.
      ends_at_sum one t.graph (written_out c.gates) ends x y (l ∙ sym inputs) (m ∙ sym outputs) ∙ one-mul _
      ∙ amp-acts (written_out c.gates) x y ∙ map-written c.qubits c.gates on (λ z. amp [] z y) x l
      ∙ ap (mul (scalar_of c.gates)) (sym (amp-acts c.gates x y)));
}
  where
    comes : Comes (begun c.qubits) (written_out c.gates) t
    comes = run_comes (begun c.qubits) (written_out c.gates) t r run

    ends : EndsAt one t.graph (written_out c.gates)
    ends = subst (λ k. EndsAt k t.graph (written_out c.gates)) (one-mul one) (peels_at_end one one t.graph (wires c.qubits) [] (written_out c.gates) comes.map (begun_ends c.qubits r.well_formed))

    inputs : length t.graph.inputs ≡ c.qubits
    inputs = ap length comes.inputs ∙ length-map-range_with_len plain 0 c.qubits

    outputs : length t.graph.outputs ≡ c.qubits
    outputs = comes.outputs ∙ length-map-range_with_len plain 0 c.qubits

-- the sum is the circuit's map, but for a number other than 0
pub translated_map : (c : Circuit) (t : GraphSoFar) → Translates c t → Proportional c.qubits c.qubits (graph_sum t.graph) (amp c.gates)
translated_map c t e =
    proportional_sym c.qubits c.qubits (amp c.gates) (graph_sum t.graph) (scaled_proportional c.qubits c.qubits (amp c.gates) (graph_sum t.graph) (map_scalar c.gates) e.scaled)
