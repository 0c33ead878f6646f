-- Planes and phases change alone, so rows stay.
use Rattle.std.proofs.Common.{◌≡◌, ◌∙◌, refl, sym, ap, ap₂, ℕ, ◌+◌, Bool, true, false, ◌&&◌, inl, inr, Some, None}
use Rattle.zx_model.specs.Bits.{member}
use Rattle.zx_calculus.specs.Graph.{Graph, joined, neighbours, WellFormed}
use Rattle.zx_calculus.specs.Turns.{half_turned}
use Rattle.zx_calculus.specs.Edits.{at_vertex}
use Rattle.zx_calculus.specs.Internal.ChangedKinds.{with_changed}
use Rattle.zx_calculus.proofs.Toggling.{member-neighbours}
use Rattle.zx_calculus.proofs.ChangedKinds.{turned_live}
use Rattle.zx_bits.specs.Rows.{IsFirstFrom}
use Rattle.graph_rewrites.proofs.Walks.{below, changed_where, changed_below, walk_starts, walk_turns, walk_passes, walk_ends, walked_from, first_in}
use Rattle.graph_rewrites.proofs.pivot.turn_common.Goals as goal
use Rattle.graph_rewrites.proofs.pivot.turn_common.Goals.{then-has_edge, else-has_edge}

-- the common neighbours of u and v
abbrev common : Graph → ℕ → ℕ → ℕ → Bool
common g u v p = member p (neighbours g u) && joined g.edges v p

within : (g : Graph) (u v : ℕ) → WellFormed g → (p : ℕ) → joined g.edges u p ≡ false → common g u v p ≡ false
within g u v formed p out = ap (λ b. b && joined g.edges v p) (member-neighbours g u p formed ∙ out)

-- whether the next one is common
next_common : (g h : Graph) (u v start p : ℕ) (b : Bool) → WellFormed g → h ≡ changed_below (common g u v) half_turned start g →
    joined g.edges u p ≡ true → b ≡ joined h.edges v p → (r : Bool) → b ≡ r → common g u v p ≡ r
next_common g h u v start p b formed turned near is r e =
    ap₂ (λ x y. x && y) (member-neighbours g u p formed ∙ near)
    (sym (is ∙ ap (λ (k : Graph). joined k.edges v p) turned) ∙ e)

pub turn-init : goal.turn-init
turn-init c = record {
  turned = sym (walk_starts (common c.args.g.now.graph c.args.u c.args.v) half_turned c.args.g.now.graph);
  formed = inl refl;
  room = refl;
}

pub neighbour_from-requires : goal.neighbour_from-requires
neighbour_from-requires c =
    turned_live (changed_where (below (common c.args.g.now.graph c.args.u c.args.v) c.turn.start) half_turned)
    c.args.g.now.graph c.turn.g.graph c.args.u c.turn.invariant.turned c.requires.u_live

pub has_edge-requires : goal.has_edge-requires
has_edge-requires c =
    turned_live (changed_where (below (common c.args.g.now.graph c.args.u c.args.v) c.turn.start) half_turned)
    c.args.g.now.graph c.turn.g.graph c.args.v c.turn.invariant.turned c.requires.v_live

pub turn-preserved : goal.turn-preserved
turn-preserved c =
    let g : Graph = c.args.g.now.graph in
    let test : ℕ → Bool = common g c.args.u c.args.v in
    let past = c.turn.invariant in
    let formed : WellFormed g =
    walked_from test half_turned g c.turn.g.graph c.turn.start past.turned past.formed c.neighbour_from.ensures.valid in
    let first : IsFirstFrom (joined g.edges c.args.u) c.turn.start (Some c.in-Some.p) =
    first_in test half_turned g c.turn.g.graph c.args.u c.turn.start (Some c.in-Some.p) past.turned
    c.in-Some.ensures.first in
    let is : (r : Bool) → c.has_edge.result ≡ r → test c.in-Some.p ≡ r =
    next_common g c.turn.g.graph c.args.u c.args.v c.turn.start c.in-Some.p c.has_edge.result formed past.turned first.1
    c.has_edge.ensures.value in
    record {
      turned = elim c.if-has_edge.branch [
        | then-has_edge w ↦ rw w.g-is (w.turn_half.ensures.turned
            ∙ ap (with_changed (at_vertex c.in-Some.p half_turned)) past.turned
            ∙ walk_turns (joined g.edges c.args.u) test (within g c.args.u c.args.v formed) half_turned g c.turn.start
            c.in-Some.p first (is true w.if-has_edge.true))
        | else-has_edge w ↦ rw w.g-is (past.turned
            ∙ walk_passes (joined g.edges c.args.u) test (within g c.args.u c.args.v formed) half_turned g c.turn.start
            c.in-Some.p first (is false w.if-has_edge.false))
      ] ∙ ap (λ q. changed_below test half_turned (q + 1) g) (sym c.get-start.ensures);
      formed = inr formed;
      room = elim c.if-has_edge.branch [
        | then-has_edge w ↦ rw w.g-is (w.turn_half.ensures.room ∙ past.room)
        | else-has_edge w ↦ rw w.g-is past.room
      ];
    }

pub returns-clause-turned : goal.returns-clause-turned
returns-clause-turned c =
    let g : Graph = c.args.g.now.graph in
    let test : ℕ → Bool = common g c.args.u c.args.v in
    let past = c.turn.invariant in
    let formed : WellFormed g =
    walked_from test half_turned g c.turn.g.graph c.turn.start past.turned past.formed c.neighbour_from.ensures.valid in
    past.turned
    ∙ walk_ends (joined g.edges c.args.u) test (within g c.args.u c.args.v formed) half_turned g c.turn.start
    (first_in test half_turned g c.turn.g.graph c.args.u c.turn.start None past.turned c.in_default.ensures.first)

pub returns-clause-was_valid : goal.returns-clause-was_valid
returns-clause-was_valid c =
    walked_from (common c.args.g.now.graph c.args.u c.args.v) half_turned c.args.g.now.graph c.turn.g.graph c.turn.start
    c.turn.invariant.turned c.turn.invariant.formed c.neighbour_from.ensures.valid
