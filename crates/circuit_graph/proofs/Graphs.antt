-- What a step comes to, as the graph that the definition makes.
use Rattle.std.proofs.Common.{◌≡◌, sym, ◌∙◌, ap, ap₂, ℕ, zero, suc, Bool, ◌||◌, List, [], ◌∷◌, get_or, set}
use Rattle.std.specs.Prelude.{slice_get, Some}
use Rattle.zx_model.specs.Bits.{xor}
use Rattle.zx_calculus.specs.Graph.{End, Graph, joined, end_vertices, with_kinds, WellFormed, plain}
use Rattle.zx_calculus.specs.Edits.{is_pair}
use Rattle.zx_calculus.specs.Gadgets.{fuse_kind}
use Rattle.zx_calculus.proofs.Edges.{joined_comm}
use Rattle.zx_calculus.proofs.Results.{edges_are, graph_is}
use Rattle.zx_calculus.proofs.Splits.{split_symmetric, is_pair_comm}
use Rattle.circuit_laws.specs.Peeling.{IsSpiderPeel, IsPhasePeel, IsEdgePeel}
use Rattle.circuit_laws.proofs.Places.{first_is}
use Rattle.circuit_graph.specs.Translation.{last_spider, with_spider, with_phase, with_toggle}

-- the last spider is the vertex at the output
pub last_spider_is : (es : List End) (q u : ℕ) → slice_get es q ≡ Some (plain u) → get_or (end_vertices es) q 0 ≡ u
last_spider_is [] q u h = cc
last_spider_is (e ∷ es) zero u h = ap (λ (d : End). d.vertex) (first_is e (plain u) h)
last_spider_is (e ∷ es) (suc q) u h = last_spider_is es q u h

pub spider_is : (s : Graph) (q : ℕ) (t : Graph) → WellFormed t → (c : IsSpiderPeel t q s) → t ≡ with_spider c.spider q s
spider_is s q t w c =
    graph_is t _ (λ v r. joined s.edges v r || is_pair (last_spider s q) c.spider v r) s.inputs (set s.outputs q (plain c.spider)) c.vertices
    (edges_are t _ w (split_symmetric s (last_spider s q) c.spider)
    (λ v r _ _ _. c.edges v r ∙ ap (λ u. joined s.edges v r || is_pair u c.spider v r) (sym (last_spider_is s.outputs q c.next c.output))))
    c.inputs c.outputs

pub phase_is : (s : Graph) (q k : ℕ) (t : Graph) → (c : IsPhasePeel t q k s) → t ≡ with_phase q k s
phase_is s q k t c =
    let here : c.vertex ≡ last_spider s q = sym (last_spider_is s.outputs q c.vertex (ap (λ es. slice_get es q) (sym c.outputs) ∙ c.output)) in
    λ j. record {
      vertices = (c.vertices ∙ ap (λ u. with_kinds (fuse_kind u k) s.vertices) here) j;
      edges = c.edges j;
      inputs = c.inputs j;
      outputs = c.outputs j;
    }

pub toggle_is : (s : Graph) (p q : ℕ) (t : Graph) → WellFormed t → (c : IsEdgePeel t p q s) → t ≡ with_toggle p q s
toggle_is s p q t w c =
    graph_is t _ adjacent s.inputs s.outputs c.vertices
    (edges_are t adjacent w (λ v r. ap₂ xor (joined_comm s.edges v r) (is_pair_comm (last_spider s p) (last_spider s q) v r))
    (λ v r n _ _. c.edges v r n ∙ ap₂ (λ a b. xor (joined s.edges v r) (is_pair a b v r)) (here p c.first c.output) (here q c.second c.output_too)))
    c.frame.inputs c.frame.outputs
  where
    adjacent : ℕ → ℕ → Bool
    adjacent v r = xor (joined s.edges v r) (is_pair (last_spider s p) (last_spider s q) v r)

    here : (i u : ℕ) → slice_get t.outputs i ≡ Some (plain u) → u ≡ last_spider s i
    here i u h = sym (last_spider_is s.outputs i u (ap (λ es. slice_get es i) (sym c.frame.outputs) ∙ h))
