-- Nothing but the gates and the Hadamards of the inputs is left.
use Rattle.std.proofs.Common.{◌≤◌, ◌∙◌, ℕ, ◌*◌, pos, sym, subst, length, mul-le-mul_left, arith}
use Rattle.zx_model.specs.Scalar.{IsScaled, IsWithin}
use Rattle.zx_calculus.specs.Counts.{not_XY}
use Rattle.open_graph.specs.OpenGraph.{most_vertices_in_memory}
use Rattle.zx_calculus.specs.Sum.{graph_sum}
use Rattle.zx_gates.specs.Circuit.{IsOnQubits, most_qubits}
use Rattle.zx_gates.specs.Maps.{amp}
use Rattle.zx_extract.specs.Internal.Extracted.{IsExtracted}
use Rattle.zx_extract.proofs.Taking.{few_not_XY}
use Rattle.zx_extract.proofs.Whole.{exact_scaled, All-backwards}
use Rattle.zx_extract.proofs.frontier.Frontier.take_apart.Goals as goal

pub circuit-requires-clause-on_qubits : goal.circuit-requires-clause-on_qubits
circuit-requires-clause-on_qubits c =
    All-backwards (IsOnQubits (length c.take_all.new.self.graph.graph.inputs)) c.take_all.new.self.gates.items c.in_ok-doublings.ensures.on_qubits

pub circuit-requires-clause-few : goal.circuit-requires-clause-few
circuit-requires-clause-few c = subst (λ n. n ≤ most_qubits) (sym c.in_ok-doublings.ensures.qubits) c.requires.few

-- the sum is doubled no more often than the graph has vertices that aren't XY
pub doubled-requires : goal.doubled-requires
doubled-requires c =
    few _ _ c.in_ok-doublings.ensures.extracted.exact.few (few_not_XY c.args.self.now.graph.graph) c.vertex_count.ensures.few
  where
    few : (m n : ℕ) → m ≤ n → {v : ℕ} → n ≤ v → v ≤ most_vertices_in_memory → m ≤ most_vertices_in_memory
    few m n e g h = omega (arith, e, g, h)

pub returns : goal.returns
returns c =
    let g = c.args.self.now.graph.graph in
    let n = length g.outputs in
    let made : IsExtracted c.in_ok-doublings.doublings g c.in_ok-gates.gates.gates =
    subst (IsExtracted c.in_ok-doublings.doublings g) (sym c.in_ok-gates.ensures.gates) c.in_ok-doublings.ensures.extracted in
    record {
      kept = record {
        qubits = c.in_ok-gates.ensures.qubits ∙ c.in_ok-doublings.ensures.qubits;
        scaled = subst (λ s. IsScaled n n (graph_sum g) s (amp c.in_ok-gates.gates.gates)) (sym c.doubled.ensures)
            (subst (λ m. IsScaled m n (graph_sum g) (record { root2 = pos (2 * c.in_ok-doublings.doublings); turn = 0 }) (amp c.in_ok-gates.gates.gates)) c.requires.ends
            (exact_scaled c.in_ok-doublings.doublings g c.in_ok-gates.gates.gates made.exact));
        small = subst (IsWithin (2 * not_XY g)) (sym c.doubled.ensures) (mul-le-mul_left 2 made.exact.few);
        odd = made.odd;
      };
      few_gates = made.few;
    }
