-- Neighbours, and what toggled edges leave of them.
use Rattle.std.proofs.Common.{◌≡◌, refl, sym, ◌∙◌, ap, ap₂, ℕ, Bool, true, false, ◌&&◌, List, filter, true≢false}
use Rattle.zx_model.specs.Bits.{xor, member}
use Rattle.zx_calculus.specs.Graph.{Vertex, Graph, ids, joined, neighbours, WellFormed, IsVertex, Distinct}
use Rattle.zx_calculus.proofs.Booleans.{xor-false}
use Rattle.zx_calculus.proofs.Ids.{by_test, by_equal, member-filter, Distinct-rising}
use Rattle.zx_calculus.proofs.Edges.{joined_comm}
use Rattle.zx_calculus.proofs.Splitting.{no_loop, joined-absent}
use Rattle.zx_calculus.proofs.Extensionality.{in_order-filter}
use Rattle.zx_calculus.specs.Toggles.{IsToggled, among}

-- who is a neighbour
pub member-neighbours : (g : Graph) (u p : ℕ) → WellFormed g → member p (neighbours g u) ≡ joined g.edges u p
member-neighbours g u p w =
    member-filter (joined g.edges u) (ids g.vertices) p
    ∙ by_test (member p (ids g.vertices)) (λ t. rw t refl)
    (λ f. rw f (sym (joined_comm g.edges u p ∙ joined-absent (ids g.vertices) g.edges p u w.edges.lower_there
    w.edges.higher_there f)))

pub Distinct-neighbours : (g : Graph) (u : ℕ) → WellFormed g → Distinct (neighbours g u)
Distinct-neighbours g u w = Distinct-rising (neighbours g u)
    (in_order-filter (joined g.edges u) (ids g.vertices) w.vertices_rising)

-- a neighbour is a vertex
pub neighbour_live : (g : Graph) (u p : ℕ) → member p (neighbours g u) ≡ true → member p (ids g.vertices) ≡ true
neighbour_live g u p there =
    by_test (member p (ids g.vertices)) (λ t. t)
    (λ f. absurd (true≢false (sym there ∙ member-filter (joined g.edges u) (ids g.vertices) p
    ∙ ap (λ b. b && joined g.edges u p) f)))

not_own_neighbour : (g : Graph) (u : ℕ) → WellFormed g → member u (neighbours g u) ≡ false
not_own_neighbour g u w = member-neighbours g u u w ∙ no_loop g u w

-- where no pair with u is picked, its neighbours stay
pub neighbours_stay : (g h : Graph) (picked : ℕ → ℕ → Bool) (u : ℕ) → WellFormed g → WellFormed h →
    IsToggled g picked h →
    ((p : ℕ) → picked u p ≡ false) → neighbours h u ≡ neighbours g u
neighbours_stay g h picked u wg wh c none = ap₂ (λ (near : ℕ → Bool) (vs : List Vertex). filter near (ids vs))
    (λ i p. same p i) c.vertices
  where
    same : (p : ℕ) → joined h.edges u p ≡ joined g.edges u p
    same p =
        by_equal u p (λ t e. ap (joined h.edges u) (sym e) ∙ no_loop h u wh
        ∙ sym (ap (joined g.edges u) (sym e) ∙ no_loop g u wg))
        (λ f n. c.edges u p n ∙ ap (xor (joined g.edges u p)) (none p) ∙ xor-false (joined g.edges u p))

-- so it is while the edges among neighbours are toggled
pub row_stays : (g h : Graph) (u : ℕ) → WellFormed g → WellFormed h → IsToggled g (among (neighbours g u)) h →
    neighbours h u ≡ neighbours g u
row_stays g h u wg wh c =
    neighbours_stay g h (among (neighbours g u)) u wg wh c
    (λ p. ap (λ b. b && member p (neighbours g u)) (not_own_neighbour g u wg))

-- what was a vertex still is one
pub toggled_live : (g h : Graph) (picked : ℕ → ℕ → Bool) (p : ℕ) → IsToggled g picked h → IsVertex g p → IsVertex h p
toggled_live g h picked p c there = ap (λ vs. member p (ids vs)) c.vertices ∙ there
