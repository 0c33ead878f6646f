-- Graphs that single changes make.
use Rattle.std.proofs.Common.{◌≡◌, ◌≢◌, refl, sym, ◌∙◌, ap, ap₂, ℕ, Bool, true, false, ◌&&◌, ◌||◌, eqb, ltb, List, ne_eqb}
use Rattle.zx_model.specs.Bits.{xor, member}
use Rattle.zx_calculus.specs.Graph.{Graph, ids, joined, in_order, without, IsVertex, WellFormed}
use Rattle.zx_calculus.specs.Edits.{is_pair, IsToggle, IsRemoval}
use Rattle.zx_calculus.specs.Adjacency.{adjacent_graph}
use Rattle.zx_calculus.proofs.Ids.{by_equal, Symmetric, apart_of_member}
use Rattle.zx_calculus.proofs.Edges.{joined_comm}
use Rattle.zx_calculus.proofs.Forms.{ids-without}
use Rattle.zx_calculus.proofs.Splitting.{joined-self, joined-absent, no_loop}
use Rattle.zx_calculus.proofs.Kept.{in_order-removed}
use Rattle.zx_calculus.proofs.EdgeLists.{OrderedEdges-edges_of}
use Rattle.zx_calculus.proofs.Splits.{is_pair_comm, is_pair-self}
use Rattle.zx_calculus.proofs.Programs.{edges_full, removal_edges}

-- whether p and q are adjacent once the pair of u and v is toggled
abbrev pub toggled_adjacent : Graph → ℕ → ℕ → ℕ → ℕ → Bool
toggled_adjacent g u v p q = xor (joined g.edges p q) (is_pair u v p q)

-- g with the edge between u and v toggled
abbrev pub toggled : Graph → ℕ → ℕ → Graph
toggled g u v = adjacent_graph g g.vertices (toggled_adjacent g u v)

-- an id that isn't u or v is in no pair of them
is_pair-absent : (vs : List ℕ) (u v p q : ℕ) → member u vs ≡ true → member v vs ≡ true → member p vs ≡ false → is_pair u v p q ≡ false
is_pair-absent vs u v p q u_there v_there absent =
    ap₂ (λ x y. (x && eqb q v) || (y && eqb q u)) (ne_eqb p u (λ e. apart_of_member u p vs u_there absent (sym e))) (ne_eqb p v (λ e. apart_of_member v p vs v_there absent (sym e)))

pub toggled_is_toggle : (g : Graph) (u v : ℕ) → WellFormed g → IsVertex g u → IsVertex g v → u ≢ v → IsToggle g u v (toggled g u v)
toggled_is_toggle g u v w u_there v_there apart =
    record { vertices = refl; edges = law; frame = record { ordered = OrderedEdges-edges_of _ _ w.vertices_rising; inputs = refl; outputs = refl } }
  where
    symmetric : Symmetric (toggled_adjacent g u v)
    symmetric p q = ap₂ xor (joined_comm g.edges p q) (is_pair_comm u v p q)

    absent : (p q : ℕ) → member p (ids g.vertices) ≡ false → toggled_adjacent g u v p q ≡ false
    absent p q f = ap₂ xor (joined-absent (ids g.vertices) g.edges p q w.edges.lower_there w.edges.higher_there f) (is_pair-absent (ids g.vertices) u v p q u_there v_there f)

    law : (p q : ℕ) → joined (toggled g u v).edges p q ≡ toggled_adjacent g u v p q
    law p q =
        by_equal p q
        (λ t e. ap (λ r. joined (toggled g u v).edges r q) e ∙ joined-self (toggled g u v).edges q (OrderedEdges-edges_of (toggled_adjacent g u v) _ w.vertices_rising).lower_first
        ∙ sym (ap (λ r. toggled_adjacent g u v r q) e ∙ ap₂ xor (no_loop g q w) (is_pair-self u v apart q)))
        (λ f n. edges_full (toggled_adjacent g u v) (ids g.vertices) p q symmetric n (absent p q) (λ f'. symmetric p q ∙ absent q p f'))

-- g without u and its edges
abbrev pub removal : Graph → ℕ → Graph
removal g u = adjacent_graph g (without u g.vertices) (joined g.edges)

pub removal_is_removal : (g : Graph) (u : ℕ) → WellFormed g → IsRemoval g u (removal g u)
removal_is_removal g u w =
    record {
      vertices = refl;
      edges = removal_edges g w u (ids (without u g.vertices)) (ids-without u g.vertices) rising;
      frame = record { ordered = OrderedEdges-edges_of _ _ rising; inputs = refl; outputs = refl };
    }
  where
    rising : in_order ltb (ids (without u g.vertices)) ≡ true
    rising = ap (in_order ltb) (ids-without u g.vertices) ∙ in_order-removed u (ids g.vertices) w.vertices_rising
