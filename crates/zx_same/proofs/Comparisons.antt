-- What follows from a circuit and the inverse of another for both.
use Rattle.std.proofs.Common.{◌≡◌, ◌≤◌, inl, inr, ℕ, ◌+◌, ◌*◌, Bool, true, cond, ◌||◌, List, [], length, refl, sym, ap, ◌∙◌, subst, arith, mul-le-mul_left}
use Rattle.std.specs.Prelude.{nat_eq}
use Rattle.std.specs.List.{All}
use Rattle.std.proofs.lemmas.Bool.{or_cases}
use Rattle.std.proofs.lemmas.List.Sums.{sum_by-append}
use Rattle.zx_model.specs.Number.{Number}
use Rattle.zx_model.specs.Proportional.{Proportional}
use Rattle.zx_model.proofs.Odd.{is_odd-opposite}
use Rattle.zx_model.proofs.Scalars.{scaled_proportional}
use Rattle.zx_model.proofs.ProportionalLemmas.{proportional_trans}
use Rattle.zx_calculus.specs.Graph.{Graph, WellFormed}
use Rattle.zx_calculus.specs.Sum.{graph_sum}
use Rattle.zx_gates.specs.Circuit.{Circuit, IsCircuit, IsGateOn, is_odd_phase, gate_odd_phases}
use Rattle.zx_gates.specs.Maps.{amp}
use Rattle.zx_gates.specs.declared.gate.Gate.{Gate}
use Rattle.zx_gates.specs.declared.gate.Gate.TheVariants.{H, Phase, Cz, Cx, Not}
use Rattle.zx_extract.specs.Simplified.{gate_bound}
use Rattle.zx_simplify.specs.declared.simplifying.Simplified.{Simplified}
use Rattle.zx_same.specs.Bare.{is_bare}
use Rattle.zx_same.specs.Internal.Simplifying.{Simplifies}
use Rattle.zx_identities.specs.Inverse.{inverse_gate, inverse_of, undone_by}
use Rattle.zx_same.proofs.BareGraphs.{bare_identity}
use Rattle.zx_identities.proofs.OneMap.{one_map}
use Rattle.zx_same.proofs.Quotients.{no_gates}
use Rattle.zx_identities.proofs.Undoing.{count-inverse}

-- maps at numbers of ends that are n
pub at_n : (n i o : ℕ) (f g : List Bool → List Bool → Number) → i ≡ n → o ≡ n → Proportional i o f g → Proportional n n f g
at_n n i o f g wide high p = subst (λ m. Proportional n m f g) high (subst (λ m. Proportional m o f g) wide p)

-- from a circuit by the sum of its graph
pub from_circuit : (n i o : ℕ) (start : Graph) (f g : List Bool → List Bool → Number) → i ≡ n → o ≡ n →
    Proportional n n f (graph_sum start) → Proportional i o (graph_sum start) g → Proportional n n f g
from_circuit n i o start f g wide high first second =
    proportional_trans n n f (graph_sum start) g first (at_n n i o (graph_sum start) g wide high second)

-- more odd phases allow more gates
pub bound_rises : (n m t u gates : ℕ) → m ≡ n → t ≤ u → gates ≤ gate_bound m t → gates ≤ gate_bound n u
bound_rises n m t u gates same more few = at (subst (λ k. gates ≤ gate_bound k t) same few)
  where
    at : gates ≤ gate_bound n t → gates ≤ gate_bound n u
    at within = let rises : 3 * n * t ≤ 3 * n * u = mul-le-mul_left (3 * n) more in omega arith

-- a circuit of which a bare graph is left is the identity
pub bare_seen : (circuit : Circuit) (g : Graph) → WellFormed g → length g.inputs ≡ circuit.qubits →
    Proportional circuit.qubits circuit.qubits (amp circuit.gates) (graph_sum g) → is_bare g ≡ true → Proportional circuit.qubits circuit.qubits (amp circuit.gates) (amp [])
bare_seen circuit g valid inputs kept bare =
    let n = circuit.qubits in
    proportional_trans n n (amp circuit.gates) (graph_sum g) (amp []) kept
    (at_n n (length g.inputs) (length g.inputs) (graph_sum g) (amp []) inputs inputs (bare_identity g valid bare))

-- where the one circuit followed by the inverse of the other is the identity, they have one map
pub same_undone : (a b both : Circuit) → a.qubits ≡ b.qubits → IsCircuit b → both ≡ undone_by a b →
    Proportional both.qubits both.qubits (amp both.gates) (amp []) → Proportional a.qubits a.qubits (amp a.gates) (amp b.gates)
same_undone a b both same is undone identity =
    one_map a.qubits a.gates b.gates (subst (λ n. All (IsGateOn n) b.gates) (sym same) is.on_qubits)
    (subst (λ (c : Circuit). Proportional c.qubits c.qubits (amp c.gates) (amp [])) undone identity)

-- a circuit that is simplified to no gates, or to a bare graph, is the identity
identity_seen : (circuit : Circuit) (made : Simplified) → Simplifies circuit made →
    (nat_eq (length made.gates.gates) 0 || is_bare made.reduced.graph) ≡ true → Proportional circuit.qubits circuit.qubits (amp circuit.gates) (amp [])
identity_seen circuit made s seen =
    elim (or_cases (nat_eq (length made.gates.gates) 0) (is_bare made.reduced.graph) seen) [
      | inl none ↦ subst (λ gates. Proportional circuit.qubits circuit.qubits (amp circuit.gates) (amp gates)) (no_gates made.gates.gates none)
          (scaled_proportional circuit.qubits circuit.qubits (amp circuit.gates) (amp made.gates.gates) made.scalar s.kept.scaled)
      | inr bare ↦ bare_seen circuit made.reduced.graph s.well_formed s.inputs s.reduced_map bare
    ]

pub same_seen : (a b both : Circuit) (made : Simplified) → a.qubits ≡ b.qubits → IsCircuit b → both ≡ undone_by a b → Simplifies both made →
    (nat_eq (length made.gates.gates) 0 || is_bare made.reduced.graph) ≡ true → Proportional a.qubits a.qubits (amp a.gates) (amp b.gates)
same_seen a b both made same is undone s seen = same_undone a b both same is undone (identity_seen both made s seen)

-- ---- odd phases
is_odd_phase-inverse : (n : ℕ) (gate : Gate) → IsGateOn n gate → is_odd_phase (inverse_gate gate) ≡ is_odd_phase gate
is_odd_phase-inverse n (H q) on = refl
is_odd_phase-inverse n (Phase q k) on = is_odd-opposite k on.1
is_odd_phase-inverse n (Cz q r) on = refl
is_odd_phase-inverse n (Cx control target) on = refl
is_odd_phase-inverse n (Not q) on = refl

pub odd-undone : (a b : Circuit) → IsCircuit b → gate_odd_phases (undone_by a b).gates ≡ gate_odd_phases a.gates + gate_odd_phases b.gates
odd-undone a b is =
    sum_by-append (λ gate. cond (is_odd_phase gate) 1 0) a.gates (inverse_of b.gates)
    ∙ ap (λ k. gate_odd_phases a.gates + k) (count-inverse b.qubits is_odd_phase (is_odd_phase-inverse b.qubits) b.gates is.on_qubits)
