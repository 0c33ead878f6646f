-- The order of a flow beside gates that are put behind the graph, and beside steps.
use Rattle.std.proofs.Common.{◌≡◌, refl, sym, ◌∙◌, ap, subst, ℕ, suc, ◌<◌, ◌≤◌, true, length, arith}
use Rattle.zx_calculus.specs.Graph.{Graph, ids, WellFormed}
use Rattle.zx_calculus.specs.Splits.{least_free}
use Rattle.zx_calculus.proofs.LeastFree.{least_free-fresh}
use Rattle.move_laws.specs.Ranks.{HasFlowBy, rank_in, ranked}
use Rattle.zx_gates.specs.Circuit.{IsOnQubits}
use Rattle.zx_gates.specs.declared.gate.Gate.{Gate}
use Rattle.zx_gates.specs.declared.gate.Gate.TheVariants.{H, Phase, Cz, Cx, Not}
use Rattle.circuit_laws.specs.Peeling.{are_plain, HasPlainOutput}
use Rattle.circuit_graph.specs.Translation.{wires, last_spider}
use Rattle.circuit_graph.proofs.Graphs.{last_spider_is}
use Rattle.growing_laws.specs.Growing.{IsFree, placed}
use Rattle.growing_laws.proofs.FlowsGrown.{spider_ranked, phase_ranked, edge_ranked}
use Rattle.growing_laws.proofs.Peeled.{placed_formed}
use Rattle.growing_laws.proofs.TranslatedGraphs.{wires_ranked}
use Rattle.zx_reduce.specs.Internal.Ordering.{Ordered, IsOrdered}

-- wires have a flow of nothing
pub ordered_wires : (n : ℕ) (o : Ordered) → o.graph ≡ wires n → WellFormed o.graph → o.low ≤ o.high → IsOrdered o
ordered_wires n o is formed bounds = record {
  well_formed = formed;
  bounds = bounds;
  flow = subst (λ g. HasFlowBy g (rank_in o.ranks) o.low o.high) (sym is) (wires_ranked n (rank_in o.ranks) o.low o.high);
}

-- H: the vertex that was at the output comes last
pub ordered_spider : (new q here : ℕ) (before after : Ordered) → are_plain before.graph.outputs ≡ true → q < length before.graph.outputs →
    IsFree new before.graph → HasPlainOutput before.graph q here → after.graph ≡ placed new before.graph (H q) →
    ((w : ℕ) → rank_in after.ranks w ≡ ranked here before.high (rank_in before.ranks) w) → after.low ≡ before.low → after.high ≡ suc before.high →
    IsOrdered before → IsOrdered after
ordered_spider new q here before after plain within fresh at gate ranks low high o = record {
  well_formed = subst WellFormed (sym gate) (placed_formed new before.graph o.well_formed fresh plain (H q) within);
  bounds = let bounds = o.bounds in omega (arith, bounds, low, high);
  flow = subst (λ g. HasFlowBy g (rank_in after.ranks) after.low after.high) (sym gate)
      (subst (λ r. HasFlowBy grown r after.low after.high) (λ i w. sym (same w) i)
      (subst (λ n. HasFlowBy grown rank n after.high) (sym low)
      (subst (HasFlowBy grown rank before.low) (sym high)
      (spider_ranked new before.graph o.well_formed fresh plain (rank_in before.ranks) before.low before.high o.flow q within o.bounds))));
}
  where
    grown : Graph
    grown = placed new before.graph (H q)

    rank : ℕ → ℕ
    rank = ranked (last_spider before.graph q) before.high (rank_in before.ranks)

    same : (w : ℕ) → rank_in after.ranks w ≡ rank w
    same w = ranks w ∙ ap (λ v. ranked v before.high (rank_in before.ranks) w) (sym (last_spider_is before.graph.outputs q here at))

-- a gate that adds no vertex
abbrev pub AddsNone : Gate → Type 0
AddsNone (Phase q k) = Unit {0}
AddsNone (Cz p q) = Unit {0}
AddsNone other = ⊥

-- so it is put behind a graph whatever id the next one gets
pub placed_still : (new : ℕ) (g : Graph) (gate : Gate) → AddsNone gate → placed 0 g gate ≡ placed new g gate
placed_still new g (Phase q k) none = refl
placed_still new g (Cz p q) none = refl
placed_still new g (H q) none = absurd none
placed_still new g (Cx p q) none = absurd none
placed_still new g (Not q) none = absurd none

-- a phase, and Cz: all ranks stay
pub ordered_gate : (gate : Gate) → AddsNone gate → (before : Ordered) (h : Graph) → are_plain before.graph.outputs ≡ true →
    IsOnQubits (length before.graph.outputs) gate → h ≡ placed 0 before.graph gate → IsOrdered before → IsOrdered (record before { graph = h })
ordered_gate gate none before h plain on is o = record {
  well_formed = subst WellFormed (sym (is ∙ placed_still new before.graph gate none)) (placed_formed new before.graph o.well_formed fresh plain gate on);
  bounds = o.bounds;
  flow = subst (λ g. HasFlowBy g (rank_in before.ranks) before.low before.high) (sym is) (ranked_still gate none on);
}
  where
    -- no vertex comes: any free id serves
    new : ℕ
    new = least_free (ids before.graph.vertices)

    fresh : IsFree new before.graph
    fresh = least_free-fresh (ids before.graph.vertices) o.well_formed.vertices_rising

    ranked_still : (k : Gate) → AddsNone k → IsOnQubits (length before.graph.outputs) k →
        HasFlowBy (placed 0 before.graph k) (rank_in before.ranks) before.low before.high
    ranked_still (Phase q k) n at = phase_ranked new before.graph o.well_formed fresh plain (rank_in before.ranks) before.low before.high o.flow q k
    ranked_still (Cz p q) n at = edge_ranked new before.graph o.well_formed fresh plain (rank_in before.ranks) before.low before.high o.flow p q at
    ranked_still (H q) n at = absurd n
    ranked_still (Cx p q) n at = absurd n
    ranked_still (Not q) n at = absurd n

-- what a struct holds is what is seen of it
module _ (inside seen : Ordered) (is : inside ≡ seen) where
  pub plain_there : are_plain seen.graph.outputs ≡ true → are_plain inside.graph.outputs ≡ true
  plain_there plain = ap (λ (o : Ordered). are_plain o.graph.outputs) is ∙ plain

  pub on_qubits_there : (q : ℕ) → q < length seen.graph.outputs → q < length inside.graph.outputs
  on_qubits_there q on = subst (λ (o : Ordered). q < length o.graph.outputs) (sym is) on

  pub gate_inside : (gate : Gate) → AddsNone gate → (h : Graph) → are_plain seen.graph.outputs ≡ true → IsOnQubits (length seen.graph.outputs) gate →
      h ≡ placed 0 seen.graph gate → IsOrdered seen → IsOrdered (record inside { graph = h })
  gate_inside gate none h plain on gate_is o =
      subst (λ (p : Ordered). IsOrdered (record p { graph = h })) (sym is) (ordered_gate gate none seen h plain on gate_is o)
