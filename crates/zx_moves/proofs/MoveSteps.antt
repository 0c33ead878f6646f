-- Where a move of the first kind applies, each of its rewrites is allowed in the graph that those before it lead to.
use Rattle.std.proofs.Common.{◌≡◌, ◌≢◌, ◌⊎◌, inl, inr, refl, sym, ◌∙◌, ap, ap₂, subst, ℕ, Bool, true, false, if◌then◌else◌, not, ◌&&◌, ◌||◌, eqb, List, [], ◌∷◌, ◌++◌, true≢false, lit<}
use Rattle.zx_model.specs.Phase.{half_turn, opposite_phase, is_half_turns, IsHalfTurns, is_quarter_turn, IsQuarterTurn}
use Rattle.zx_model.specs.Bits.{member}
use Rattle.zx_model.proofs.Phases.{half_turns_from, quarter_turn_from}
use Rattle.zx_calculus.specs.Graph.{Plane, XY, XZ, YZ, Kind, Graph, ids, end_vertices, is_XY, kind_of, plane_of, phase_of, joined, without, insert_vertex, IsVertex, Interior, WellFormed, is_interior}
use Rattle.zx_calculus.specs.Turns.{in_plane, half_turned, complemented, complemented_in, pivoted}
use Rattle.zx_calculus.specs.Complements.{complement_kind, IsLocalComplement}
use Rattle.zx_calculus.specs.Deletions.{delete_kind, IsDelete}
use Rattle.zx_calculus.specs.Pivots.{pivot_kind, IsPivot}
use Rattle.zx_calculus.specs.Splits.{spider_of_phase_zero}
use Rattle.zx_calculus.specs.Edits.{is_pair}
use Rattle.zx_calculus.specs.Steps.{allowed, after, IsStep, IsRun}
use Rattle.zx_calculus.specs.Counts.{has_input, has_output}
use Rattle.zx_calculus.specs.Moves.{IsBoundaryPivot}
use Rattle.zx_calculus.specs.Steps as calculus
use Rattle.zx_calculus.proofs.Booleans.{or-true}
use Rattle.zx_calculus.proofs.Ids.{by_test, apart_of_member, eqb-self}
use Rattle.zx_calculus.proofs.Vertices.{ids-with_kinds, kind_of-with_kinds, kind_of-without, member-insert}
use Rattle.zx_calculus.proofs.Splitting.{interior_of, no_loop, plane_XY}
use Rattle.zx_calculus.proofs.Results.{interior_true}
use Rattle.zx_calculus.proofs.Counting.{YZ_apart, gone_interior}
use Rattle.zx_calculus.proofs.Deletions.{deletable_to}
use Rattle.zx_calculus.proofs.Steps.{step_kept, after_step}
use Rattle.zx_calculus.proofs.Kept.{both, kind_of-insert_other}
use Rattle.zx_calculus.proofs.Splits.{member-move_end-old, member-move_end-other}
use Rattle.zx_calculus.proofs.CountLemmas.{member-without_other}
use Rattle.zx_moves.specs.declared.moves.Move.{Move}
use Rattle.zx_moves.specs.declared.moves.Move.TheVariants as moves
use Rattle.zx_moves.specs.Search.{AppliesAt, IsOfFirstKind}
use Rattle.zx_moves.specs.Moving.{splits_of, removal_of, steps_of, IsMoved}
use Rattle.zx_moves.specs.Internal.Planning.{AreAllowed}
use Rattle.zx_moves.proofs.SearchTests.{live_near, near_joined}
use Rattle.zx_moves.proofs.SearchLaws.{complement_allowed, pivot_allowed, lone_allowed, single_allowed, apart_where}
use Rattle.zx_calculus.proofs.TwinTests.{twins_allowed}

-- ---- side conditions
delete_allowed : (g : Graph) (u : ℕ) (kind : Kind) → IsVertex g u → kind_of g.vertices u ≡ kind
    → kind.plane ≢ XY → IsHalfTurns kind.phase → allowed g (calculus.Delete u) ≡ true
delete_allowed g u kind there same plane phase =
    deletable_to g u
    (record {
      there = there;
      plane = λ e. plane (ap (λ k. k.plane) (sym same) ∙ e);
      phase = subst (λ k. IsHalfTurns k.phase) (sym same) phase;
    })

interior_by : (g : Graph) (u : ℕ) → has_input g u ≡ false → has_output g u ≡ false → is_interior g u ≡ true
interior_by g u e f = ap₂ (λ a b. not (a || b)) e f

-- ---- phases
opposite_half : (k : ℕ) → IsHalfTurns k → IsHalfTurns (opposite_phase k)
opposite_half k (inl e) = inl (ap opposite_phase e)
opposite_half k (inr e) = inr (ap opposite_phase e)

opposite_quarter : (k : ℕ) → IsQuarterTurn k → IsQuarterTurn (opposite_phase k)
opposite_quarter k (inl e) = inr (ap opposite_phase e)
opposite_quarter k (inr e) = inl (ap opposite_phase e)

-- a local complement about a vertex of a quarter turn, or three, makes it one of half turns
complemented_phase : (plane : Plane) (k : ℕ) → plane ≢ XZ → IsQuarterTurn k
    → ((complemented_in plane k).plane ≢ XY) × IsHalfTurns (complemented_in plane k).phase
complemented_phase XY k n (inl e) = (λ x. let y : XZ ≡ XY = x in cc, inr (ap (λ i. (complemented_in XY i).phase) e))
complemented_phase XY k n (inr e) = (λ x. let y : XZ ≡ XY = x in cc, inl (ap (λ i. (complemented_in XY i).phase) e))
complemented_phase XZ k n e = absurd (n refl)
complemented_phase YZ k n (inl e) = (YZ_apart YZ refl, inl (ap (λ i. (complemented_in YZ i).phase) e))
complemented_phase YZ k n (inr e) = (YZ_apart YZ refl, inr (ap (λ i. (complemented_in YZ i).phase) e))

-- ---- what each rewrite leaves of a vertex
complement_live : (g : Graph) (u : ℕ) (h : Graph) (p : ℕ) → IsLocalComplement g u h → IsVertex g p → IsVertex h p
complement_live g u h p c there =
    ap (λ vs. member p (ids vs)) c.vertices
    ∙ ap (member p) (ids-with_kinds (complement_kind u (joined g.edges u)) g.vertices) ∙ there

complement_kind_of : (g : Graph) (u : ℕ) (h : Graph) → IsLocalComplement g u h
    → kind_of h.vertices u ≡ complemented (kind_of g.vertices u)
complement_kind_of g u h c =
    ap (λ vs. kind_of vs u) c.vertices
    ∙ kind_of-with_kinds (complement_kind u (joined g.edges u)) u g.vertices c.there ∙ rw (eqb-self u) refl

delete_after_complement : (g : Graph) (u : ℕ) (h : Graph) → plane_of g u ≢ XZ → IsQuarterTurn (phase_of g u)
    → IsLocalComplement g u h → allowed h (calculus.Delete u) ≡ true
delete_after_complement g u h plane phase c =
    let gone = complemented_phase (plane_of g u) (phase_of g u) plane phase in
    delete_allowed h u (complemented (kind_of g.vertices u)) (complement_live g u h u c c.there)
    (complement_kind_of g u h c) gone.0 gone.1

pivot_live : (g : Graph) (u v : ℕ) (h : Graph) (p : ℕ) → IsPivot g u v h → IsVertex g p → IsVertex h p
pivot_live g u v h p c there =
    ap (λ vs. member p (ids vs)) c.vertices
    ∙ ap (member p) (ids-with_kinds (pivot_kind u v (joined g.edges u) (joined g.edges v)) g.vertices) ∙ there

pivot_kind_of : (g : Graph) (u v : ℕ) (h : Graph) (p : ℕ) → IsPivot g u v h → IsVertex g p → (eqb p u || eqb p v) ≡ true
    → kind_of h.vertices p ≡ pivoted (kind_of g.vertices p)
pivot_kind_of g u v h p c there one =
    ap (λ vs. kind_of vs p) c.vertices
    ∙ kind_of-with_kinds (pivot_kind u v (joined g.edges u) (joined g.edges v)) p g.vertices there ∙ rw one refl

pivoted_first : (g : Graph) (u v : ℕ) (h : Graph) → IsPivot g u v h
    → kind_of h.vertices u ≡ pivoted (kind_of g.vertices u)
pivoted_first g u v h c = pivot_kind_of g u v h u c c.there (ap (λ b. b || eqb u v) (eqb-self u))

pivoted_second : (g : Graph) (u v : ℕ) (h : Graph) → IsPivot g u v h
    → kind_of h.vertices v ≡ pivoted (kind_of g.vertices v)
pivoted_second g u v h c =
    pivot_kind_of g u v h v c c.there_too (ap (λ b. eqb v u || b) (eqb-self v) ∙ or-true (eqb v u))

in_XY : (g : Graph) (u : ℕ) → plane_of g u ≡ XY → kind_of g.vertices u ≡ in_plane XY (phase_of g u)
in_XY g u e = ap (λ plane. in_plane plane (phase_of g u)) e

-- an XY vertex of half turns can go after a pivot
delete_after_pivot : (g : Graph) (u v : ℕ) (h : Graph) → plane_of g u ≡ XY → IsHalfTurns (phase_of g u)
    → IsPivot g u v h → allowed h (calculus.Delete u) ≡ true
delete_after_pivot g u v h plane phase c =
    delete_allowed h u (in_plane YZ (phase_of g u)) (pivot_live g u v h u c c.there)
    (pivoted_first g u v h c ∙ ap pivoted (in_XY g u plane)) (YZ_apart YZ refl) phase

-- ---- the boundary move
-- a deletion leaves another YZ vertex there, of the same phase or the opposite one
module _ (g : Graph) (u : ℕ) (h : Graph) (b k : ℕ) (c : IsDelete g u h) (other : b ≢ u) (there : IsVertex g b)
    (kind : kind_of g.vertices b ≡ in_plane YZ k) where
  still_live : IsVertex h b
  still_live =
      ap (λ vs. member b (ids vs)) c.vertices
      ∙ ap (member b) (ids-with_kinds (delete_kind (phase_of g u) (joined g.edges u)) (without u g.vertices))
      ∙ member-without_other b u g.vertices other ∙ there

  left_kind : kind_of h.vertices b ≡ delete_kind (phase_of g u) (joined g.edges u) b (in_plane YZ k)
  left_kind =
      ap (λ vs. kind_of vs b) c.vertices
      ∙ kind_of-with_kinds (delete_kind (phase_of g u) (joined g.edges u)) b (without u g.vertices)
      (member-without_other b u g.vertices other ∙ there)
      ∙ ap (delete_kind (phase_of g u) (joined g.edges u) b) (kind_of-without b u g.vertices other ∙ kind)

  left_as : (j : ℕ) × (kind_of h.vertices b ≡ in_plane YZ j) × ((j ≡ k) ⊎ (j ≡ opposite_phase k))
  left_as =
      by_test (eqb (phase_of g u) half_turn && joined g.edges u b)
      (λ t. (opposite_phase k, left_kind ∙ ap turned_where t, inr refl))
      (λ f. (k, left_kind ∙ ap turned_where f, inl refl))
    where
      turned_where : Bool → Kind
      turned_where t = if t then half_turned (in_plane YZ k) else in_plane YZ k

either_half : (j k : ℕ) → (j ≡ k) ⊎ (j ≡ opposite_phase k) → IsHalfTurns k → IsHalfTurns j
either_half j k (inl e) half = subst IsHalfTurns (sym e) half
either_half j k (inr e) half = subst IsHalfTurns (sym e) (opposite_half k half)

either_quarter : (j k : ℕ) → (j ≡ k) ⊎ (j ≡ opposite_phase k) → IsQuarterTurn k → IsQuarterTurn j
either_quarter j k (inl e) quarter = subst IsQuarterTurn (sym e) quarter
either_quarter j k (inr e) quarter = subst IsQuarterTurn (sym e) (opposite_quarter k quarter)

-- how b goes, a YZ vertex whose phase is `phase` or the opposite of it
removal_allowed : (g : Graph) (b j phase : ℕ) → IsVertex g b → is_interior g b ≡ true → kind_of g.vertices b ≡ in_plane YZ j
    → (j ≡ phase) ⊎ (j ≡ opposite_phase phase) → AreAllowed g (removal_of phase b)
removal_allowed g b j phase there inside kind of_phase =
    by_phase (is_half_turns phase) (is_quarter_turn phase) refl refl
  where
    by_phase : (half quarter : Bool) → is_half_turns phase ≡ half → is_quarter_turn phase ≡ quarter
        → AreAllowed g (if half then calculus.Delete b ∷ []
        else if quarter then calculus.LocalComplement b ∷ calculus.Delete b ∷ [] else [])
    by_phase true quarter e f = (
      delete_allowed g b (in_plane YZ j) there kind (YZ_apart YZ refl)
          (either_half j phase of_phase (half_turns_from phase e)),
      λ h d. tt,
    )
    by_phase false true e f = (
      both (member b (ids g.vertices)) (is_interior g b) there inside,
      λ h c. (
        delete_after_complement g b h (λ x. let y : YZ ≡ XZ = sym (ap (λ k. k.plane) kind) ∙ x in cc)
            (subst IsQuarterTurn (ap (λ k. k.phase) (sym kind)) (either_quarter j phase of_phase (quarter_turn_from phase f)))
            c,
        λ l d. tt,
      ),
    )
    by_phase false false e f = tt

-- an interior XY vertex u of half turns, and an XY neighbour b of this phase
record Ready (g : Graph) (u b : ℕ) (phase : ℕ) : Type 0 where
  well_formed : WellFormed g
  there : IsVertex g u
  there_too : IsVertex g b
  interior : Interior g u
  plane : plane_of g u ≡ XY
  half : IsHalfTurns (phase_of g u)
  kind : kind_of g.vertices b ≡ in_plane XY phase
  adjacent : joined g.edges u b ≡ true

-- where b holds no end
rest_allowed : (g : Graph) (u b : ℕ) (phase : ℕ) → Ready g u b phase → has_input g b ≡ false → has_output g b ≡ false
    → AreAllowed g (calculus.Pivot u b ∷ calculus.Delete u ∷ removal_of phase b)
rest_allowed g u b phase r no_input no_output = (
  pivot_allowed g r.well_formed u b r.there (interior_true g u r.interior) (interior_by g b no_input no_output)
      r.adjacent,
  λ k c. (
    delete_after_pivot g u b k r.plane r.half c,
    λ h d.
        let kind : kind_of k.vertices b ≡ in_plane YZ phase = pivoted_second g u b k c ∙ ap pivoted r.kind in
        let live : IsVertex k b = pivot_live g u b k b c r.there_too in
        let left = left_as k u h b phase d apart live kind in
        removal_allowed h b left.0 phase (still_live k u h b phase d apart live kind) (inside k h c d) left.1 left.2,
  ),
)
  where
    apart : b ≢ u
    apart e = true≢false (sym r.adjacent ∙ ap (joined g.edges u) e ∙ no_loop g u r.well_formed)

    inside : (k h : Graph) → IsPivot g u b k → IsDelete k u h → is_interior h b ≡ true
    inside k h c d =
        interior_by h b (ap (λ ends. member b (end_vertices ends)) (d.frame.inputs ∙ c.frame.inputs) ∙ no_input)
        (ap (λ ends. member b (end_vertices ends)) (d.frame.outputs ∙ c.frame.outputs) ∙ no_output)

-- u holds no end, and b does
apart_by : (t : ℕ → Bool) (u b : ℕ) → t u ≡ false → t b ≡ true → u ≢ b
apart_by t u b e f same = true≢false (sym f ∙ ap t (sym same) ∙ e)

old_there : (g h : Graph) (new p : ℕ) → h.vertices ≡ insert_vertex (spider_of_phase_zero new) g.vertices
    → IsVertex g p → IsVertex h p
old_there g h new p vertices there =
    ap (λ vs. member p (ids vs)) vertices ∙ member-insert p (spider_of_phase_zero new) g.vertices
    ∙ ap (λ t. eqb p new || t) there ∙ or-true (eqb p new)

old_kind : (g h : Graph) (new p : ℕ) → h.vertices ≡ insert_vertex (spider_of_phase_zero new) g.vertices
    → member new (ids g.vertices) ≡ false → IsVertex g p → kind_of h.vertices p ≡ kind_of g.vertices p
old_kind g h new p vertices fresh there =
    ap (λ vs. kind_of vs p) vertices
    ∙ kind_of-insert_other p (spider_of_phase_zero new) g.vertices (apart_of_member p new (ids g.vertices) there fresh)

module _ (g : Graph) (u b : ℕ) (phase : ℕ) (h : Graph) (r : Ready g u b phase) where
  split_ready : (new : ℕ) → member new (ids g.vertices) ≡ false
      → h.vertices ≡ insert_vertex (spider_of_phase_zero new) g.vertices
      → ((p q : ℕ) → joined h.edges p q ≡ (joined g.edges p q || is_pair b new p q))
      → WellFormed h → Interior h u → Ready h u b phase
  split_ready new fresh vertices edges w inside = record {
    well_formed = w;
    there = old_there g h new u vertices r.there;
    there_too = old_there g h new b vertices r.there_too;
    interior = inside;
    plane = ap (λ k. k.plane) (old_kind g h new u vertices fresh r.there) ∙ r.plane;
    half = subst (λ k. IsHalfTurns k.phase) (sym (old_kind g h new u vertices fresh r.there)) r.half;
    kind = old_kind g h new b vertices fresh r.there_too ∙ r.kind;
    adjacent = edges u b ∙ ap (λ t. t || is_pair b new u b) r.adjacent;
  }

  split_input_ready : IsStep g (calculus.SplitInput b) h → Ready h u b phase
  split_input_ready c =
      split_ready _ c.fresh c.vertices c.edges (step_kept g (calculus.SplitInput b) h r.well_formed c)
      (record {
        no_input = ap (λ ends. member u (end_vertices ends)) c.inputs
            ∙ member-move_end-other b _ g.inputs u (apart_by (has_input g) u b r.interior.no_input c.has_input)
            (apart_of_member u _ (ids g.vertices) r.there c.fresh)
            ∙ r.interior.no_input;
        no_output = ap (λ ends. member u (end_vertices ends)) c.outputs ∙ r.interior.no_output;
      })

  split_output_ready : IsStep g (calculus.SplitOutput b) h → Ready h u b phase
  split_output_ready c =
      split_ready _ c.fresh c.vertices c.edges (step_kept g (calculus.SplitOutput b) h r.well_formed c)
      (record {
        no_input = ap (λ ends. member u (end_vertices ends)) c.inputs ∙ r.interior.no_input;
        no_output = ap (λ ends. member u (end_vertices ends)) c.outputs
            ∙ member-move_end-other b _ g.outputs u (apart_by (has_output g) u b r.interior.no_output c.has_output)
            (apart_of_member u _ (ids g.vertices) r.there c.fresh)
            ∙ r.interior.no_output;
      })

  input_went : IsStep g (calculus.SplitInput b) h → has_input h b ≡ false
  input_went c =
      ap (λ ends. member b (end_vertices ends)) c.inputs
      ∙ member-move_end-old b _ g.inputs (apart_of_member b _ (ids g.vertices) r.there_too c.fresh)

  output_went : IsStep g (calculus.SplitOutput b) h → has_output h b ≡ false
  output_went c =
      ap (λ ends. member b (end_vertices ends)) c.outputs
      ∙ member-move_end-old b _ g.outputs (apart_of_member b _ (ids g.vertices) r.there_too c.fresh)

boundary_allowed : (g : Graph) (u b : ℕ) (phase : ℕ) → Ready g u b phase
    → AreAllowed g (splits_of g b ++ (calculus.Pivot u b ∷ calculus.Delete u ∷ removal_of phase b))
boundary_allowed g u b phase r = by_ends (has_input g b) (has_output g b) refl refl
  where
    by_ends : (i o : Bool) → has_input g b ≡ i → has_output g b ≡ o
        → AreAllowed g (((if i then calculus.SplitInput b ∷ [] else [])
        ++ (if o then calculus.SplitOutput b ∷ [] else []))
        ++ (calculus.Pivot u b ∷ calculus.Delete u ∷ removal_of phase b))
    by_ends false false e f = rest_allowed g u b phase r e f
    by_ends false true e f = (
      f,
      λ h c. rest_allowed h u b phase (split_output_ready g u b phase h r c)
          (ap (λ ends. member b (end_vertices ends)) c.inputs ∙ e) (output_went g u b phase h r c),
    )
    by_ends true false e f = (
      e,
      λ h c. rest_allowed h u b phase (split_input_ready g u b phase h r c) (input_went g u b phase h r c)
          (ap (λ ends. member b (end_vertices ends)) c.outputs ∙ f),
    )
    by_ends true true e f = (
      e,
      λ h c. (
        ap (λ ends. member b (end_vertices ends)) c.outputs ∙ f,
        λ k d.
            let ready = split_input_ready g u b phase h r c in
            rest_allowed k u b phase (split_output_ready h u b phase k ready d)
            (ap (λ ends. member b (end_vertices ends)) d.inputs ∙ input_went g u b phase h r c)
            (output_went h u b phase k ready d),
      ),
    )

boundary_ready : (g : Graph) (u b : ℕ) → WellFormed g → IsBoundaryPivot g u b → Ready g u b (phase_of g b)
boundary_ready g u b w a = record {
  well_formed = w;
  there = a.spider.there;
  there_too = live_near g u b (near_joined g w u b a.adjacent);
  interior = a.spider.interior;
  plane = a.spider.plane;
  half = a.spider.phase;
  kind = in_XY g b (by_test (is_XY (plane_of g b)) (λ t. plane_XY (plane_of g b) t)
      (λ f. absurd (a.boundary b a.adjacent (interior_of g b w f))));
  adjacent = a.adjacent;
}

-- ---- all kinds
pub steps_allowed : (g : Graph) (m : Move) → WellFormed g → AppliesAt g m → IsOfFirstKind g m
    → AreAllowed g (steps_of g m)
steps_allowed g (moves.Delete u) w a first = (deletable_to g u a, λ h s. tt)
steps_allowed g (moves.QuarterGadget u) w a first = (
  complement_allowed g u a.there (gone_interior g u w (YZ_apart (plane_of g u) a.plane)),
  λ k c. (delete_after_complement g u k (λ e. let y : YZ ≡ XZ = sym a.plane ∙ e in cc) a.phase c, λ h d. tt),
)
steps_allowed g (moves.FromXZ u) w a first = (
  complement_allowed g u a.there (gone_interior g u w (λ e. let y : XZ ≡ XY = sym a.plane ∙ e in cc)),
  λ h s. tt,
)
steps_allowed g (moves.QuarterSpider u) w a first = (
  complement_allowed g u a.there (interior_true g u a.interior),
  λ k c. (delete_after_complement g u k (λ e. let y : XY ≡ XZ = sym a.plane ∙ e in cc) a.phase c, λ h d. tt),
)
steps_allowed g (moves.InnerPivot u v) w a first = (
  pivot_allowed g w u v a.spider.there (interior_true g u a.spider.interior) (interior_true g v a.interior) a.adjacent,
  λ k c. (delete_after_pivot g u v k a.spider.plane a.spider.phase c, λ h d. tt),
)
steps_allowed g (moves.BoundaryPivot u b) w a first = boundary_allowed g u b (phase_of g b) (boundary_ready g u b w a)
steps_allowed g (moves.GadgetPair u v) w a first = (
  pivot_allowed g w u v a.there (gone_interior g u w (YZ_apart (plane_of g u) a.plane))
      (gone_interior g v w (YZ_apart (plane_of g v) a.plane_too)) a.adjacent,
  λ h s. tt,
)
steps_allowed g (moves.LoneGadget u) w a first = (lone_allowed g u a, λ h s. tt)
steps_allowed g (moves.SingleGadget u) w a first = (
  single_allowed g w u a
      (λ v. first (moves.FromXZ v)
      (record { place = 2; later_place = 8; kind = refl; later_kind = refl; earlier = lit< tt }))
      (λ v. first (moves.GadgetPair u v)
      (record { place = 6; later_place = 8; kind = refl; later_kind = refl; earlier = lit< tt })),
  λ h s. tt,
)
steps_allowed g (moves.Twins u v) w a first = (
  twins_allowed g w u v a
      (apart_where g u v a
      (first (moves.GadgetPair u v)
      (record { place = 6; later_place = 9; kind = refl; later_kind = refl; earlier = lit< tt }))),
  λ h s. tt,
)

-- the rewrite that a move begins with
pub begun_allowed : (g : Graph) (m : Move) (s : calculus.Step) (rest : List calculus.Step) → WellFormed g
    → AppliesAt g m → IsOfFirstKind g m → steps_of g m ≡ s ∷ rest → allowed g s ≡ true
begun_allowed g m s rest w a first same = (subst (AreAllowed g) same (steps_allowed g m w a first)).0

-- allowed steps lead somewhere
allowed_run : (g : Graph) (steps : List calculus.Step) → WellFormed g → AreAllowed g steps
    → (h : Graph) × IsRun g steps h
allowed_run g [] w a = (g, refl)
allowed_run g (s ∷ steps) w a =
    let step : IsStep g s (after s g) = after_step g s w a.0 in
    let later = allowed_run (after s g) steps (step_kept g s (after s g) w step) (a.1 (after s g) step) in
    (later.0, (after s g, step, later.1))

pub move_made : (g : Graph) (m : Move) → WellFormed g → AppliesAt g m → IsOfFirstKind g m → (h : Graph) × IsMoved g m h
move_made g m w a first =
    let made = allowed_run g (steps_of g m) w (steps_allowed g m w a first) in
    (made.0, record { applies = a; first = first; run = made.1 })
