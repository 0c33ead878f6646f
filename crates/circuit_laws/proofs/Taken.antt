-- Changes as extraction makes them are the changes by which gates are peeled off.
use Rattle.std.proofs.Common.{◌≡◌, ◌≢◌, sym, ◌∙◌, ap, ap₂, refl, ℕ, ◌<◌, Bool, true, false, cond, eqb, ◌||◌, List, [], ◌∷◌, set, arith, ne_eqb, ltb-true, true≢false, ◌+◌, length}
use Rattle.std.proofs.lemmas.List.{set-set}
use Rattle.std.specs.Prelude.{slice_get}
use Rattle.zx_model.specs.Phase.{turn, sum_of_phases}
use Rattle.zx_model.specs.Bits.{member}
use Rattle.zx_calculus.specs.Graph.{XY, Kind, Vertex, Graph, ids, kind_of, plane_of, phase_of, joined, end_vertices, is_XY, with_kinds, insert_vertex, WellFormed, Distinct, plain}
use Rattle.zx_calculus.specs.Turns.{in_plane, with_phase_added}
use Rattle.zx_calculus.specs.Gadgets.{fuse_kind}
use Rattle.zx_calculus.proofs.Booleans.{or-true}
use Rattle.zx_calculus.proofs.Ids.{by_test, and-left, and-right, apart_of_member, eqb-self, eqb_comm, member-removed_other}
use Rattle.zx_calculus.proofs.Forms.{ids-without}
use Rattle.zx_calculus.proofs.Edges.{joined_comm}
use Rattle.zx_calculus.proofs.Vertices.{all_below_a_turn, kind_of-without, ids-with_kinds, kind_of-with_kinds}
use Rattle.zx_calculus.proofs.Splitting.{distinct, member-without, no_loop, joined-absent}
use Rattle.zx_calculus.proofs.Kept.{Below, KeepsXY, kept_kinds}
use Rattle.zx_calculus.proofs.Reinsertion.{insert-without, joined-leaf}
use Rattle.zx_calculus.specs.Counts.{odd_phases}
use Rattle.zx_model.specs.Number.{Number, one}
use Rattle.zx_gates.specs.Circuit.{gate_odd_phases as odd_gates}
use Rattle.zx_gates.specs.declared.gate.Gate.TheVariants.{H}
use Rattle.circuit_laws.specs.Followed.{followed, PeelsAt}
use Rattle.zx_gates.specs.Lowering.{phase_gates}
use Rattle.circuit_laws.proofs.Composing.{peels_exactly}
use Rattle.circuit_laws.proofs.Settling.{phase_peeled}
use Rattle.circuit_laws.proofs.Advancing.{spider_peels}
use Rattle.circuit_laws.proofs.Counts.{one_gate, phase_odd_exactly, spider_odd}
use Rattle.circuit_laws.specs.Peeling.{IsPhaseCleared, IsPhasePeel, IsAdvance, IsSpiderPeel, cleared_kind}
use Rattle.circuit_laws.proofs.Places.{output_plane, output_there, slice_get-set, set_same}
use Rattle.circuit_laws.proofs.Keeping.{same_edges, spider_formed_back}
use Rattle.zx_gates.proofs.LoweringLemmas.{acts-phase_gates, odd-phase_gates}

-- ---- a phase
kind_back : (kind : Kind) → kind.phase < turn → with_phase_added kind.phase (in_plane kind.plane 0) ≡ kind
kind_back kind below = ap (in_plane kind.plane) (same_phase kind.phase below)
  where
    same_phase : (k : ℕ) → k < turn → sum_of_phases 0 k ≡ k
    same_phase k below = omega arith

cleared_back : (u k : ℕ) (vs : List Vertex) → Distinct (ids vs) → all_below_a_turn vs ≡ true →
    (member u (ids vs) ≡ true → (kind_of vs u).phase ≡ k) →
    with_kinds (fuse_kind u k) (with_kinds (cleared_kind u) vs) ≡ vs
cleared_back u k [] d below h = refl
cleared_back u k (v ∷ vs) d below h =
    ap₂ (λ kind ws. record { id = v.id; kind = kind } ∷ ws) (first (eqb v.id u) at_first)
    (cleared_back u k vs d.1 (and-right _ _ below)
    (λ t. ap (λ b. (cond b v.kind (kind_of vs u)).phase) (sym (ne_eqb u v.id (apart_of_member u v.id (ids vs) t d.0))) ∙ h (ap (λ b. eqb u v.id || b) t ∙ or-true (eqb u v.id))))
  where
    first : (b : Bool) → (b ≡ true → v.kind.phase ≡ k) →
        cond b (with_phase_added k (cond b (in_plane v.kind.plane 0) v.kind)) (cond b (in_plane v.kind.plane 0) v.kind) ≡ v.kind
    first true e = ap (λ j. with_phase_added j (in_plane v.kind.plane 0)) (sym (e refl)) ∙ kind_back v.kind (ltb-true v.kind.phase turn (and-left _ _ below))
    first false e = refl

    at_first : eqb v.id u ≡ true → v.kind.phase ≡ k
    at_first t =
        let here : eqb u v.id ≡ true = eqb_comm u v.id ∙ t in
        ap (λ b. (cond b v.kind (kind_of vs u)).phase) (sym here) ∙ h (ap (λ b. b || member u (ids vs)) here)

pub phase_cleared : (g : Graph) (q : ℕ) (h : Graph) → WellFormed g → (c : IsPhaseCleared g q h) →
    IsPhasePeel g q (phase_of g c.vertex) h
phase_cleared g q h w c = record {
  vertex = c.vertex;
  output = c.output;
  vertices = sym (ap (with_kinds (fuse_kind c.vertex (phase_of g c.vertex))) c.vertices ∙ cleared_back c.vertex (phase_of g c.vertex) g.vertices (distinct g w) w.phases_below_a_turn (λ t. refl));
  edges = sym c.edges;
  inputs = sym c.inputs;
  outputs = sym c.outputs;
}

pub phase_cleared_formed : (g : Graph) (q : ℕ) (h : Graph) → WellFormed g → IsPhaseCleared g q h → WellFormed h
phase_cleared_formed g q h w c =
    kept_kinds g (cleared_kind c.vertex) h w below (λ p t. keeps p) (λ p t. keeps p)
    c.vertices (record { ordered = same_edges h g w (ap ids c.vertices ∙ ids-with_kinds (cleared_kind c.vertex) g.vertices) c.edges; inputs = c.inputs; outputs = c.outputs })
  where
    below : Below (cleared_kind c.vertex)
    below p kind lt = at (eqb p c.vertex)
      where
        at : (b : Bool) → (cond b (in_plane kind.plane 0) kind).phase < turn
        at true = omega arith
        at false = lt

    keeps : (p : ℕ) → KeepsXY (cleared_kind c.vertex) p
    keeps p kind plane = at (eqb p c.vertex)
      where
        at : (b : Bool) → is_XY (cond b (in_plane kind.plane 0) kind).plane ≡ true
        at true = plane
        at false = plane

-- the phase that is left is 0
pub phase_cleared_zero : (g : Graph) (q : ℕ) (h : Graph) → WellFormed g → (c : IsPhaseCleared g q h) →
    phase_of h c.vertex ≡ 0
phase_cleared_zero g q h w c =
    ap (λ vs. (kind_of vs c.vertex).phase) c.vertices
    ∙ ap (λ k. k.phase) (kind_of-with_kinds (cleared_kind c.vertex) c.vertex g.vertices (output_there g q (plain c.vertex) w c.output))
    ∙ ap (λ b. (cond b (in_plane (plane_of g c.vertex) 0) (kind_of g.vertices c.vertex)).phase) (eqb-self c.vertex)

-- ---- a spider
module _ (g : Graph) (q : ℕ) (h : Graph) (w : WellFormed g) (c : IsAdvance g q h) where
  there : member c.spider (ids g.vertices) ≡ true
  there = output_there g q (plain c.spider) w c.output

  pub fresh : member c.spider (ids h.vertices) ≡ false
  fresh = ap (λ vs. member c.spider (ids vs)) c.vertices ∙ member-without c.spider g.vertices

  pub advanced : IsSpiderPeel g q h
  advanced = record {
    spider = c.spider;
    next = c.next;
    fresh = fresh;
    output = ap (λ es. slice_get es q) c.outputs ∙ slice_get-set g.outputs q (plain c.spider) (plain c.next) c.output;
    vertices = sym (ap₂ insert_vertex (λ j. record { id = c.spider; kind = in_plane (sym (output_plane g q (plain c.spider) w c.output) j) (sym c.phase j) }) c.vertices ∙ insert-without c.spider g.vertices w.vertices_rising there);
    ordered = w.edges;
    ordered_too = c.ordered;
    edges = joined-leaf (joined g.edges) (joined h.edges) c.spider c.next (joined_comm g.edges) (joined_comm h.edges) (no_loop g c.spider w) c.only_neighbour
        (λ p. joined-absent (ids h.vertices) h.edges c.spider p c.ordered.lower_there c.ordered.higher_there fresh) c.edges;
    inputs = sym c.inputs;
    outputs = sym (ap (λ es. set es q (plain c.spider)) c.outputs ∙ set-set g.outputs q (plain c.next) (plain c.spider) ∙ set_same g.outputs q (plain c.spider) c.output);
  }

  at_next : joined g.edges c.next c.spider ≡ true
  at_next = joined_comm g.edges c.next c.spider ∙ c.only_neighbour c.next ∙ eqb-self c.next

  next_there : member c.next (ids g.vertices) ≡ true
  next_there =
      by_test (member c.next (ids g.vertices)) (λ t. t)
      (λ f. absurd (true≢false (sym at_next ∙ joined-absent (ids g.vertices) g.edges c.next c.spider w.edges.lower_there w.edges.higher_there f)))

  next_apart : c.next ≢ c.spider
  next_apart e = true≢false (sym at_next ∙ ap (λ p. joined g.edges p c.spider) e ∙ no_loop g c.spider w)

  pub advanced_formed : member c.spider (end_vertices g.inputs) ≡ false → plane_of g c.next ≡ XY →
      member c.next (end_vertices g.outputs) ≡ false → WellFormed h
  unfolding advanced
  advanced_formed no_input plane no_output =
      spider_formed_back g q h w advanced no_input
      (ap (λ vs. member c.next (ids vs)) c.vertices ∙ ap (member c.next) (ids-without c.spider g.vertices) ∙ member-removed_other c.next c.spider (ids g.vertices) next_apart ∙ next_there)
      (ap (λ vs. is_XY (kind_of vs c.next).plane) c.vertices ∙ ap (λ k. is_XY k.plane) (kind_of-without c.next c.spider g.vertices next_apart) ∙ ap is_XY plane)
      no_output

-- ---- their gates and their odd phases
pub cleared_gates : (g : Graph) (q : ℕ) (h : Graph) → WellFormed g → (c : IsPhaseCleared g q h) → PeelsAt one g (phase_gates q (phase_of g c.vertex)) h
cleared_gates g q h w c =
    peels_exactly g (phase_gates q (phase_of g c.vertex)) h (ap length c.inputs) (ap length c.outputs)
    (λ f x. phase_peeled g q (phase_of g c.vertex) h f x w (phase_cleared_formed g q h w c) (phase_cleared g q h w c)
    ∙ ap (λ (e : List Bool → Number). followed h e x) (sym (acts-phase_gates q (phase_of g c.vertex) f)))

pub cleared_odd : (g : Graph) (q : ℕ) (h : Graph) → WellFormed g → (c : IsPhaseCleared g q h) → odd_phases g ≡ odd_phases h + odd_gates (phase_gates q (phase_of g c.vertex))
unfolding phase_cleared
cleared_odd g q h w c =
    phase_odd_exactly g q (phase_of g c.vertex) h (phase_cleared_formed g q h w c) (phase_cleared g q h w c) (phase_cleared_zero g q h w c)
    ∙ ap (λ n. odd_phases h + n) (one_gate q (phase_of g c.vertex) ∙ sym (odd-phase_gates q (phase_of g c.vertex)))

pub advanced_gates : (g : Graph) (q : ℕ) (h : Graph) → WellFormed g → WellFormed h → IsAdvance g q h → PeelsAt one g (H q ∷ []) h
advanced_gates g q h wg wh c = spider_peels g q h wh (advanced g q h wg c) wg

pub advanced_odd : (g : Graph) (q : ℕ) (h : Graph) → WellFormed g → IsAdvance g q h → odd_phases g ≡ odd_phases h
advanced_odd g q h w c = spider_odd g q h (advanced g q h w c)
