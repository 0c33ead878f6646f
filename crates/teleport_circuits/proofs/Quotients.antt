-- By which scalar the map of a circuit is that of the circuit with teleported phases.
use Rattle.std.proofs.Common.{◌≡◌, sym, ◌∙◌, ap, subst, ℕ, ◌<◌, ◌-ℤ◌, List, length, arith}
use borrow.Author.Differences.{ints}
use Rattle.zx_model.specs.Phase.{turn, sum_of_phases, opposite_phase}
use Rattle.zx_model.specs.Number.{root_power}
use Rattle.zx_model.specs.Scalar.{IsScaled, product_of_scalars, quotient_of_scalars}
use Rattle.zx_model.specs.declared.scalar.Scalar.{Scalar}
use Rattle.zx_model.proofs.Scalars.{scaled_trans, scaled_over}
use Rattle.zx_model.proofs.Factors.{scaled_renamed}
use Rattle.zx_calculus.specs.Graph.{Graph}
use Rattle.zx_calculus.specs.Sum.{graph_sum}
use Rattle.zx_calculus.specs.Steps.{Step, IsRun}
use Rattle.zx_calculus.specs.StepScalars.{IsSumTimes}
use Rattle.zx_gates.specs.Circuit.{Circuit, IsCircuit}
use Rattle.zx_gates.specs.Maps.{amp}
use Rattle.zx_gates.specs.declared.gate.Gate.{Gate}
use Rattle.circuit_graph.specs.Translation.{map_scalar, translated}
use Rattle.circuit_graph.specs.Internal.Runs.{GraphSoFar, Translates}
use Rattle.teleport_circuits.specs.Circuits.{with_gates}
use Rattle.teleport_circuits.specs.Teleporting.{new_phase, spots_of, teleported_circuit, HaveQuotient}
use Rattle.teleport_circuits.proofs.Moving.{translates}
use Rattle.teleport_circuits.proofs.WithPhases.{translates_there, scalar-left}
use Rattle.zx_calculus.proofs.Kept.{sum_below}

-- the map of a circuit by a graph to which its own leads
by_end : (c : Circuit) (t : GraphSoFar) (h : Graph) (s : Scalar) → Translates c t → IsSumTimes (translated c) s h →
    IsScaled c.qubits c.qubits (amp c.gates) (product_of_scalars (map_scalar c.gates) s) (graph_sum h)
by_end c t h s e p =
    scaled_trans c.qubits c.qubits (amp c.gates) (graph_sum (translated c)) (graph_sum h) (map_scalar c.gates) s
    (subst (λ g. IsScaled c.qubits c.qubits (amp c.gates) (map_scalar c.gates) (graph_sum g)) e.graph e.scaled)
    (λ x y l m. p x y (l ∙ sym inputs) (m ∙ sym outputs))
  where
    inputs : length (translated c).inputs ≡ c.qubits
    inputs = ap (λ (g : Graph). length g.inputs) (sym e.graph) ∙ e.inputs

    outputs : length (translated c).outputs ≡ c.qubits
    outputs = ap (λ (g : Graph). length g.outputs) (sym e.graph) ∙ e.outputs

-- a common factor goes
common_turn : (j k : ℕ) → k < turn → sum_of_phases (sum_of_phases 0 j) (opposite_phase (sum_of_phases 0 k)) ≡ sum_of_phases j (opposite_phase k)
common_turn j k low = omega (arith, low)

have_quotient : (c : Circuit) (gates : List Gate) (h : Graph) (u v : GraphSoFar) → Translates c u → Translates (with_gates c gates) v → map_scalar gates ≡ map_scalar c.gates → HaveQuotient c (with_gates c gates) h
have_quotient c gates h u v a b same s t low p q =
    scaled_renamed c.qubits c.qubits (amp c.gates) (amp gates) (quotient_of_scalars (product_of_scalars (map_scalar c.gates) s) (product_of_scalars (map_scalar gates) t)) (quotient_of_scalars s t)
    exponents (ap root_power (common_turn s.turn t.turn low))
    (scaled_over c.qubits c.qubits (amp c.gates) (graph_sum h) (amp gates) (product_of_scalars (map_scalar c.gates) s) (product_of_scalars (map_scalar gates) t) (sum_below 0 t.turn)
    (by_end c u h s a p) (by_end (with_gates c gates) v h t b q))
  where
    exponents : (quotient_of_scalars (product_of_scalars (map_scalar c.gates) s) (product_of_scalars (map_scalar gates) t)).root2 ≡ s.root2 -ℤ t.root2
    exponents = omega (arith, ints, ap (λ (k : Scalar). k.root2) same)

pub teleported_quotient : (c : Circuit) (steps : List Step) (h : Graph) (run : IsRun (translated c) steps h) → IsCircuit c → HaveQuotient c (teleported_circuit c steps h run) h
teleported_quotient c steps h run formed =
    have_quotient c _ h _ _ (translates c (λ i. 0) formed) (translates_there c (new_phase c (spots_of c steps h run)) formed)
    (scalar-left (new_phase c (spots_of c steps h run)) 0 c.gates)
