-- A graph with a gate behind its outputs, by the parts of the gate.
use Rattle.std.proofs.Common.{◌≡◌, ◌≢◌, refl, sym, ◌∙◌, ap, ap₂, subst, ℕ, ◌<◌, true, false, ◌&&◌, ◌||◌, eqb, List, length}
use Rattle.zx_model.specs.Bits.{xor, member}
use Rattle.zx_calculus.specs.Graph.{XY, End, Graph, ids, joined, plane_of, is_XY, kind_of, end_vertices, WellFormed, IsVertex, OrderedEdges}
use Rattle.zx_calculus.specs.Edits.{is_pair, IsToggle}
use Rattle.zx_calculus.specs.Gadgets.{fuse_kind}
use Rattle.zx_calculus.specs.Splits.{IsSplitOutput, split_output_graph}
use Rattle.zx_calculus.proofs.Booleans.{or-apart, xor-false, and-false}
use Rattle.zx_calculus.proofs.Ids.{by_equal, Distinct-different}
use Rattle.zx_calculus.proofs.Vertices.{ids-with_kinds}
use Rattle.zx_calculus.proofs.Splitting.{all_at, plane_XY}
use Rattle.zx_calculus.proofs.Programs.{absent_left, absent_right, end_there}
use Rattle.zx_calculus.proofs.Splits.{after_split_output}
use Rattle.zx_calculus.proofs.EditPrograms.{toggled, toggled_is_toggle}
use Rattle.zx_gates.specs.Circuit.{IsOnQubits}
use Rattle.zx_gates.specs.declared.gate.Gate.{Gate}
use Rattle.zx_gates.specs.declared.gate.Gate.TheVariants.{H, Phase, Cz, Cx, Not}
use Rattle.growing_laws.specs.Growing.{placed}
use Rattle.growing_laws.proofs.Parts.{spot, spot_there, spots_apart, added, extended, moved}

-- k is g with the gate behind the outputs es, where a new spider gets the id `new`
pub record IsPlaced (new : ℕ) (es : List End) (gate : Gate) (g k : Graph) : Type 0 where
  pub vertices : k.vertices ≡ extended new es gate g.vertices
  pub edges : (v w : ℕ) → joined k.edges v w ≡ xor (joined g.edges v w) (added new es gate v w)
  pub ordered : OrderedEdges (ids k.vertices) k.edges
  pub inputs : k.inputs ≡ g.inputs
  pub outputs : k.outputs ≡ moved new es gate

module _ (g : Graph) (w : WellFormed g) where
  pub output_live : (u : ℕ) → member u (end_vertices g.outputs) ≡ true → IsVertex g u
  output_live u there = end_there g w u g.outputs w.outputs.there there

  pub output_XY : (u : ℕ) → member u (end_vertices g.outputs) ≡ true → plane_of g u ≡ XY
  output_XY u there = plane_XY _ (all_at (λ v. is_XY (kind_of g.vertices v).plane) (end_vertices g.outputs) u w.outputs.at_XY there)

  pub spot_live : (q : ℕ) → q < length g.outputs → IsVertex g (spot g.outputs q)
  spot_live q lt = output_live (spot g.outputs q) (spot_there g.outputs q lt)

  pub spots_differ : (p q : ℕ) → p < length g.outputs → q < length g.outputs → p ≢ q → spot g.outputs p ≢ spot g.outputs q
  spots_differ p q = spots_apart g.outputs p q (Distinct-different (end_vertices g.outputs) w.outputs.one_each)

  -- an edge to a new vertex isn't there yet
  fresh_edge : (b new : ℕ) → member new (ids g.vertices) ≡ false → (v r : ℕ) → (joined g.edges v r && is_pair b new v r) ≡ false
  fresh_edge b new fresh v r =
      by_equal v new
      (λ t e. ap (λ x. x && is_pair b new v r) (absent_left g w v r (ap (λ u. member u (ids g.vertices)) e ∙ fresh)))
      (λ f n. by_equal r new
      (λ t e. ap (λ x. x && is_pair b new v r) (absent_right g w v r (ap (λ u. member u (ids g.vertices)) e ∙ fresh)))
      (λ f' m. ap₂ (λ x y. joined g.edges v r && ((eqb v b && y) || (x && eqb r b))) f f'
      ∙ ap (λ x. joined g.edges v r && (x || false)) (and-false (eqb v b)) ∙ and-false (joined g.edges v r)))

  -- a gate that changes no edge and no end
  unchanged : (v r : ℕ) → joined g.edges v r ≡ xor (joined g.edges v r) false
  unchanged v r = sym (xor-false (joined g.edges v r))

  pub placed_is : (new : ℕ) (gate : Gate) → member new (ids g.vertices) ≡ false → IsOnQubits (length g.outputs) gate →
      IsPlaced new g.outputs gate g (placed new g gate)
  placed_is new (H q) fresh on =
      let c : IsSplitOutput g (spot g.outputs q) new (split_output_graph g (spot g.outputs q) new) =
      after_split_output g w (spot g.outputs q) (spot_there g.outputs q on) new fresh in
      record {
        vertices = refl;
        edges = λ v r. c.edges v r ∙ or-apart (joined g.edges v r) (is_pair (spot g.outputs q) new v r) (fresh_edge (spot g.outputs q) new fresh v r);
        ordered = c.ordered;
        inputs = refl;
        outputs = refl;
      }
  placed_is new (Phase q k) fresh on = record {
    vertices = refl;
    edges = unchanged;
    ordered = subst (λ vs. OrderedEdges vs g.edges) (sym (ids-with_kinds (fuse_kind (spot g.outputs q) k) g.vertices)) w.edges;
    inputs = refl;
    outputs = refl;
  }
  placed_is new (Cz p q) fresh on =
      let c : IsToggle g (spot g.outputs p) (spot g.outputs q) (toggled g (spot g.outputs p) (spot g.outputs q)) =
      toggled_is_toggle g (spot g.outputs p) (spot g.outputs q) w (spot_live p on.0) (spot_live q on.1) (spots_differ p q on.0 on.1 on.2) in
      record { vertices = refl; edges = c.edges; ordered = c.frame.ordered; inputs = refl; outputs = refl }
  placed_is new (Cx p q) fresh on = record { vertices = refl; edges = unchanged; ordered = w.edges; inputs = refl; outputs = refl }
  placed_is new (Not q) fresh on = record { vertices = refl; edges = unchanged; ordered = w.edges; inputs = refl; outputs = refl }
