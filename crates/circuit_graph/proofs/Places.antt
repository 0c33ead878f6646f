-- The vertices to which the gates of a circuit add phases, gate by gate.
use Rattle.std.proofs.Common.{◌≡◌, refl, sym, ◌∙◌, ap, ap₂, ℕ, suc, ◌+◌, ◌<◌, List, [], ◌∷◌, ◌++◌, length, drop, drop-cons, get_or, add-one, append_assoc, append-nil}
use Rattle.std.specs.Prelude.{Option}
use Rattle.zx_gates.specs.Circuit.{Circuit}
use Rattle.zx_gates.specs.declared.gate.Gate.{Gate}
use Rattle.zx_calculus.specs.Graph.{Graph}
use Rattle.circuit_graph.specs.Translation.{by_hadamards, phase_vertex, places_from, places}
use Rattle.circuit_graph.specs.Internal.Runs.{GraphSoFar, begun, IsReady, IsRun}
use Rattle.circuit_graph.proofs.RunLemmas.{run_comes}

pub places_begun : (c : Circuit) (s : GraphSoFar) → s ≡ begun c.qubits → places_from s.graph c.gates ≡ places c
places_begun c s e = ap (λ (t : GraphSoFar). places_from t.graph c.gates) e

-- a gate more
pub place_more : (c : Circuit) (i : ℕ) (gate : Gate) (before : List (Option ℕ)) (s t : GraphSoFar) → i < length c.gates → gate ≡ get_or c.gates i gate → IsReady s →
    IsRun s (by_hadamards gate) t → before ++ places_from s.graph (drop i c.gates) ≡ places c → (before ++ phase_vertex s.graph gate ∷ []) ++ places_from t.graph (drop (i + 1) c.gates) ≡ places c
place_more c i gate before s t within is ready run all =
    append_assoc before (phase_vertex s.graph gate ∷ []) _
    ∙ ap (λ rest. before ++ phase_vertex s.graph gate ∷ rest) (ap₂ places_from (run_comes s (by_hadamards gate) t ready run).graph (ap (λ j. drop j c.gates) (add-one i)))
    ∙ ap (λ gates. before ++ places_from s.graph gates) (sym split) ∙ all
  where
    split : drop i c.gates ≡ gate ∷ drop (suc i) c.gates
    split = drop-cons c.gates i gate within ∙ ap (λ x. x ∷ drop (suc i) c.gates) (sym is)

pub places_done : (c : Circuit) (i : ℕ) (before : List (Option ℕ)) (g : Graph) → i ≡ length c.gates → before ++ places_from g (drop i c.gates) ≡ places c → before ≡ places c
places_done c i before g e all = sym (ap (λ gates. before ++ places_from g gates) (ap (λ j. drop j c.gates) e ∙ none c.gates) ∙ append-nil before) ∙ all
  where
    none : (gates : List Gate) → drop (length gates) gates ≡ []
    none [] = refl
    none (gate ∷ gates) = none gates
