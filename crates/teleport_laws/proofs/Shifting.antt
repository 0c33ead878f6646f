-- Rewrites carry added phases along.
use Rattle.std.proofs.Common.{◌≡◌, ◌≢◌, refl, sym, ◌∙◌, ap, subst, ℕ, ◌<◌, Bool, true, false, cond, not, ◌&&◌, ◌||◌, eqb, List, [], ◌∷◌, arith}
use Rattle.zx_model.specs.Phase.{turn, half_turn, quarter_turn, sum_of_phases, opposite_phase}
use Rattle.zx_model.specs.Bits.{member}
use Rattle.zx_calculus.specs.Graph.{Plane, XY, XZ, YZ, Kind, Vertex, Graph, ids, joined, kind_of, plane_of, phase_of, is_XY, is_XZ, IsVertex, Interior, with_kinds, without, insert_vertex, WellFormed, OrderedEdges}
use Rattle.zx_calculus.specs.Turns.{in_plane, quarter_turned, half_turned, complemented, pivoted, with_phase_added}
use Rattle.zx_calculus.specs.Edits.{KeepsEnds}
use Rattle.zx_calculus.specs.Complements.{complement_kind, IsLocalComplement}
use Rattle.zx_calculus.specs.Deletions.{delete_kind, IsDelete}
use Rattle.zx_calculus.specs.Pivots.{pivot_kind, IsPivot}
use Rattle.zx_calculus.specs.Splits.{spider_of_phase_zero, new_vertex, IsSplitInput, IsSplitOutput}
use Rattle.zx_calculus.specs.Gadgets.{fuse_kind, first_of_list, IsDropLone, IsFuseInto, IsFuseTwin}
use Rattle.zx_calculus.specs.Steps.{Step, LocalComplement, Delete, Pivot, SplitInput, SplitOutput, DropLone, FuseInto, FuseTwin, IsStep}
use Rattle.zx_calculus.proofs.Ids.{by_equal, apart_of_member}
use Rattle.zx_calculus.proofs.Splits.{mirrored, mirrored_formed, mirrored_split, split_mirrored}
use Rattle.zx_calculus.proofs.Splitting.{distinct, distinct_without, member-without}
use Rattle.zx_calculus.proofs.CountLemmas.{member-without_other}
use Rattle.zx_calculus.proofs.Vertices.{ids-with_kinds, without-with_kinds, kind_of-with_kinds, kind_of-without, phase-kind_of}
use Rattle.zx_calculus.proofs.ChangedKinds.{with_kinds-with_kinds, with_kinds_at, with_kinds-insert}
use Rattle.zx_calculus.proofs.Gadgets.{neighbours_into}
use Rattle.std.proofs.Common.{ne_eqb}
use Rattle.teleport_laws.specs.Shifts.{add_kind, shifted, IsShift, signed, joined_phases, more_after, IsFree}

-- phases that are added leave all else
pub plane-added : (more : ℕ → ℕ) (vs : List Vertex) (v : ℕ) → (kind_of (with_kinds (add_kind more) vs) v).plane ≡ (kind_of vs v).plane
plane-added more [] v = refl
plane-added more (w ∷ vs) v = by_equal v w.id (λ t e. rw t refl) (λ t n. rw t (plane-added more vs v))

pub plane-shifted : (more : ℕ → ℕ) (g : Graph) (v : ℕ) → plane_of (shifted more g) v ≡ plane_of g v
plane-shifted more g v = plane-added more g.vertices v

pub ids-shifted : (more : ℕ → ℕ) (g : Graph) → ids (shifted more g).vertices ≡ ids g.vertices
ids-shifted more g = ids-with_kinds (add_kind more) g.vertices

pub live-shifted : (more : ℕ → ℕ) (g : Graph) (v : ℕ) → IsVertex g v → IsVertex (shifted more g) v
live-shifted more g v there = ap (member v) (ids-shifted more g) ∙ there

pub phase-shifted : (more : ℕ → ℕ) (g : Graph) (v : ℕ) → IsVertex g v → phase_of (shifted more g) v ≡ sum_of_phases (phase_of g v) (more v)
phase-shifted more g v there = ap (λ (k : Kind). k.phase) (kind_of-with_kinds (add_kind more) v g.vertices there)

interior-shifted : (more : ℕ → ℕ) (g : Graph) (v : ℕ) → Interior g v → Interior (shifted more g) v
interior-shifted more g v inside = record { no_input = inside.no_input; no_output = inside.no_output }

frame-shifted : (more after : ℕ → ℕ) (g h : Graph) → KeepsEnds g h → KeepsEnds (shifted more g) (shifted after h)
frame-shifted more after g h frame = record {
  ordered = subst (λ vs. OrderedEdges vs h.edges) (sym (ids-shifted after h)) frame.ordered;
  inputs = frame.inputs;
  outputs = frame.outputs;
}

-- ---- phases and turns
pub plus_none : (k : ℕ) → k < turn → sum_of_phases k 0 ≡ k
plus_none k below = omega arith

swap_last : (a b c : ℕ) → sum_of_phases (sum_of_phases a b) c ≡ sum_of_phases (sum_of_phases a c) b
swap_last a b c = omega arith

pub opposite-sum : (a b : ℕ) → a < turn → b < turn → opposite_phase (sum_of_phases a b) ≡ sum_of_phases (opposite_phase a) (opposite_phase b)
opposite-sum a b low low' = omega arith

quarter_less : (a b : ℕ) → a < turn → b < turn →
    sum_of_phases quarter_turn (opposite_phase (sum_of_phases a b)) ≡ sum_of_phases (sum_of_phases quarter_turn (opposite_phase a)) (opposite_phase b)
quarter_less a b low low' = omega arith

pub four_phases : (a b c d : ℕ) → sum_of_phases (sum_of_phases a b) (sum_of_phases c d) ≡ sum_of_phases (sum_of_phases a c) (sum_of_phases b d)
four_phases a b c d = omega arith

-- what a turn of a kind makes of an added phase
abbrev Turns : (Kind → Kind) → (Plane → Bool) → Type 0
Turns change negated = (plane : Plane) (k m : ℕ) → k < turn → m < turn →
    with_phase_added (signed (negated plane) m) (change (in_plane plane k)) ≡ change (with_phase_added m (in_plane plane k))

quarter_turns : Turns quarter_turned is_XZ
quarter_turns XY k m low low' = ap (in_plane XY) (swap_last k quarter_turn m)
quarter_turns XZ k m low low' = ap (in_plane YZ) (sym (opposite-sum k m low low'))
quarter_turns YZ k m low low' = refl

half_turns : Turns half_turned (λ plane. not (is_XY plane))
half_turns XY k m low low' = ap (in_plane XY) (swap_last k half_turn m)
half_turns XZ k m low low' = ap (in_plane XZ) (sym (opposite-sum k m low low'))
half_turns YZ k m low low' = ap (in_plane YZ) (sym (opposite-sum k m low low'))

complements : Turns complemented is_XZ
complements XY k m low low' = ap (in_plane XZ) (swap_last k quarter_turn m)
complements XZ k m low low' = ap (in_plane XY) (sym (quarter_less k m low low'))
complements YZ k m low low' = ap (in_plane YZ) (swap_last k (opposite_phase quarter_turn) m)

pivots : Turns pivoted is_XZ
pivots XY k m low low' = refl
pivots XZ k m low low' = ap (in_plane XZ) (sym (quarter_less k m low low'))
pivots YZ k m low low' = refl

-- a vertex's kind before and after, where it may turn
may_turn : (change : Kind → Kind) (negated : Plane → Bool) (b : Bool) (kind : Kind) (m : ℕ) → Turns change negated → kind.phase < turn → m < turn →
    with_phase_added (signed (b && negated kind.plane) m) (cond b (change kind) kind) ≡ cond b (change (with_phase_added m kind)) (with_phase_added m kind)
may_turn change negated true kind m turns low low' = turns kind.plane kind.phase m low low'
may_turn change negated false kind m turns low low' = refl

-- ---- the eight rewrites
module _ (g : Graph) (w : WellFormed g) (more : ℕ → ℕ) (shift : IsShift g more) where
  low_phase : (p : ℕ) → phase_of g p < turn
  low_phase p = phase-kind_of p g.vertices w.phases_below_a_turn

  -- where vertices change their kinds, those with more phase do so likewise
  alike : (h : Graph) (change changed : ℕ → Kind → Kind) (after : ℕ → ℕ) → h.vertices ≡ with_kinds change g.vertices →
      ((p : ℕ) → IsVertex g p → add_kind after p (change p (kind_of g.vertices p)) ≡ changed p (add_kind more p (kind_of g.vertices p))) →
      (shifted after h).vertices ≡ with_kinds changed (shifted more g).vertices
  alike h change changed after vertices same =
      ap (with_kinds (add_kind after)) vertices ∙ with_kinds-with_kinds (add_kind after) change g.vertices
      ∙ with_kinds_at (λ p k. add_kind after p (change p k)) (λ p k. changed p (add_kind more p k)) g.vertices (distinct g w) same
      ∙ sym (with_kinds-with_kinds changed (add_kind more) g.vertices)

  -- and where one of them goes
  alike_without : (u : ℕ) (h : Graph) (change changed : ℕ → Kind → Kind) (after : ℕ → ℕ) → h.vertices ≡ with_kinds change (without u g.vertices) →
      ((p : ℕ) → IsVertex g p → p ≢ u → add_kind after p (change p (kind_of g.vertices p)) ≡ changed p (add_kind more p (kind_of g.vertices p))) →
      (shifted after h).vertices ≡ with_kinds changed (without u (shifted more g).vertices)
  alike_without u h change changed after vertices same =
      ap (with_kinds (add_kind after)) vertices ∙ with_kinds-with_kinds (add_kind after) change (without u g.vertices)
      ∙ with_kinds_at (λ p k. add_kind after p (change p k)) (λ p k. changed p (add_kind more p k)) (without u g.vertices) (distinct_without g u w)
      (λ p there. let apart : p ≢ u = apart_of_member p u (ids (without u g.vertices)) there (member-without u g.vertices) in
      subst (λ k. add_kind after p (change p k) ≡ changed p (add_kind more p k)) (sym (kind_of-without p u g.vertices apart))
      (same p (sym (member-without_other p u g.vertices apart) ∙ there) apart))
      ∙ sym (with_kinds-with_kinds changed (add_kind more) (without u g.vertices))
      ∙ sym (ap (with_kinds changed) (without-with_kinds (add_kind more) u g.vertices))

  carry_complement : (u : ℕ) (h : Graph) → IsLocalComplement g u h → IsLocalComplement (shifted more g) u (shifted (more_after g (LocalComplement u) more) h)
  carry_complement u h c = record {
    there = live-shifted more g u c.there;
    interior = interior-shifted more g u c.interior;
    vertices = alike h (complement_kind u (joined g.edges u)) (complement_kind u (joined g.edges u)) _ c.vertices (λ p there. at p (eqb p u) (joined g.edges u p));
    edges = c.edges;
    frame = frame-shifted more _ g h c.frame;
  }
    where
      at : (p : ℕ) (own near : Bool) →
          with_phase_added (signed ((own || near) && is_XZ (plane_of g p)) (more p)) (cond own (complemented (kind_of g.vertices p)) (cond near (quarter_turned (kind_of g.vertices p)) (kind_of g.vertices p)))
          ≡ cond own (complemented (add_kind more p (kind_of g.vertices p))) (cond near (quarter_turned (add_kind more p (kind_of g.vertices p))) (add_kind more p (kind_of g.vertices p)))
      at p true near = complements (plane_of g p) (phase_of g p) (more p) (low_phase p) (shift.below p)
      at p false near = may_turn quarter_turned is_XZ near (kind_of g.vertices p) (more p) quarter_turns (low_phase p) (shift.below p)

  carry_delete : (u : ℕ) (h : Graph) → IsDelete g u h → more u ≡ 0 → IsDelete (shifted more g) u (shifted (more_after g (Delete u) more) h)
  carry_delete u h c none = record {
    deletable = record {
      there = live-shifted more g u c.deletable.there;
      plane = λ e. c.deletable.plane (sym (plane-shifted more g u) ∙ e);
      phase = rw same c.deletable.phase;
    };
    vertices = alike_without u h (delete_kind (phase_of g u) (joined g.edges u)) (delete_kind (phase_of (shifted more g) u) (joined g.edges u)) _ c.vertices
        (λ p there apart. rw (same, ne_eqb p u apart)
        (may_turn half_turned (λ plane. not (is_XY plane)) (eqb (phase_of g u) half_turn && joined g.edges u p) (kind_of g.vertices p) (more p) half_turns (low_phase p) (shift.below p)));
    edges = c.edges;
    frame = frame-shifted more _ g h c.frame;
  }
    where
      same : phase_of (shifted more g) u ≡ phase_of g u
      same = phase-shifted more g u c.deletable.there ∙ ap (sum_of_phases (phase_of g u)) none ∙ plus_none (phase_of g u) (low_phase u)

  carry_pivot : (u v : ℕ) (h : Graph) → IsPivot g u v h → IsPivot (shifted more g) u v (shifted (more_after g (Pivot u v) more) h)
  carry_pivot u v h c = record {
    there = live-shifted more g u c.there;
    there_too = live-shifted more g v c.there_too;
    interior = interior-shifted more g u c.interior;
    interior_too = interior-shifted more g v c.interior_too;
    adjacent = c.adjacent;
    vertices = alike h (pivot_kind u v (joined g.edges u) (joined g.edges v)) (pivot_kind u v (joined g.edges u) (joined g.edges v)) _ c.vertices
        (λ p there. at p (eqb p u || eqb p v) (joined g.edges u p && joined g.edges v p));
    still_adjacent = c.still_adjacent;
    of_u = c.of_u;
    of_v = c.of_v;
    between = c.between;
    frame = frame-shifted more _ g h c.frame;
  }
    where
      at : (p : ℕ) (own common : Bool) →
          with_phase_added (signed (cond own (is_XZ (plane_of g p)) (common && not (is_XY (plane_of g p)))) (more p))
          (cond own (pivoted (kind_of g.vertices p)) (cond common (half_turned (kind_of g.vertices p)) (kind_of g.vertices p)))
          ≡ cond own (pivoted (add_kind more p (kind_of g.vertices p))) (cond common (half_turned (add_kind more p (kind_of g.vertices p))) (add_kind more p (kind_of g.vertices p)))
      at p true common = pivots (plane_of g p) (phase_of g p) (more p) (low_phase p) (shift.below p)
      at p false common = may_turn half_turned (λ plane. not (is_XY plane)) common (kind_of g.vertices p) (more p) half_turns (low_phase p) (shift.below p)

  -- one more vertex, of phase 0
  alike_new : (new : ℕ) (h : Graph) → member new (ids g.vertices) ≡ false → h.vertices ≡ insert_vertex (spider_of_phase_zero new) g.vertices →
      (shifted more h).vertices ≡ insert_vertex (spider_of_phase_zero new) (shifted more g).vertices
  alike_new new h fresh vertices =
      ap (with_kinds (add_kind more)) vertices ∙ with_kinds-insert (add_kind more) (spider_of_phase_zero new) g.vertices
      ∙ ap (λ k. insert_vertex (record { id = new; kind = in_plane XY (sum_of_phases 0 k) }) (with_kinds (add_kind more) g.vertices)) (shift.absent new fresh)

  carry_split_input : (b : ℕ) (h : Graph) → IsSplitInput g b (new_vertex g) h → IsSplitInput (shifted more g) b (new_vertex (shifted more g)) (shifted more h)
  carry_split_input b h c = rw (ids-shifted more g) record {
    fresh = ap (member (new_vertex g)) (ids-shifted more g) ∙ c.fresh;
    has_input = c.has_input;
    vertices = alike_new (new_vertex g) h c.fresh c.vertices;
    ordered = subst (λ vs. OrderedEdges vs h.edges) (sym (ids-shifted more h)) c.ordered;
    edges = c.edges;
    inputs = c.inputs;
    outputs = c.outputs;
  }

  carry_drop : (u : ℕ) (h : Graph) → IsDropLone g u h → IsDropLone (shifted more g) u (shifted (more_after g (DropLone u) more) h)
  carry_drop u h c = record {
    there = live-shifted more g u c.there;
    plane = plane-shifted more g u ∙ c.plane;
    lone = c.lone;
    vertices = ap (with_kinds (add_kind (more_after g (DropLone u) more))) c.vertices
        ∙ with_kinds_at (add_kind (more_after g (DropLone u) more)) (add_kind more) (without u g.vertices) (distinct_without g u w)
        (λ p there. rw (ne_eqb p u (apart_of_member p u (ids (without u g.vertices)) there (member-without u g.vertices))) refl)
        ∙ sym (without-with_kinds (add_kind more) u g.vertices);
    edges = c.edges;
    frame = frame-shifted more _ g h c.frame;
  }

  -- u is fused into v
  alike_fused : (u v : ℕ) (h : Graph) → IsVertex g u → h.vertices ≡ with_kinds (fuse_kind v (phase_of g u)) (without u g.vertices) →
      (shifted (joined_phases u v more) h).vertices ≡ with_kinds (fuse_kind v (phase_of (shifted more g) u)) (without u (shifted more g).vertices)
  alike_fused u v h there_u vertices =
      alike_without u h (fuse_kind v (phase_of g u)) (fuse_kind v (phase_of (shifted more g) u)) (joined_phases u v more) vertices
      (λ p there apart. rw (phase-shifted more g u there_u, ne_eqb p u apart)
      (by_equal p v
      (λ t e. rw t (ap (in_plane (plane_of g p)) (four_phases (phase_of g p) (phase_of g u) (more v) (more u) ∙ ap (λ k. sum_of_phases (sum_of_phases (phase_of g p) k) (sum_of_phases (phase_of g u) (more u))) (ap more (sym e)))))
      (λ t n. rw t refl)))

  carry_fuse_into : (u : ℕ) (h : Graph) → IsFuseInto g u h → IsFuseInto (shifted more g) u (shifted (more_after g (FuseInto u) more) h)
  carry_fuse_into u h c = record {
    into = c.into;
    there = live-shifted more g u c.there;
    plane = plane-shifted more g u ∙ c.plane;
    into_there = live-shifted more g c.into c.into_there;
    into_plane = plane-shifted more g c.into ∙ c.into_plane;
    only_neighbour = c.only_neighbour;
    vertices = ap (λ v. (shifted (joined_phases u v more) h).vertices) (ap first_of_list (neighbours_into g u h w c)) ∙ alike_fused u c.into h c.there c.vertices;
    edges = c.edges;
    frame = frame-shifted more _ g h c.frame;
  }

  carry_fuse_twin : (u v : ℕ) (h : Graph) → IsFuseTwin g u v h → IsFuseTwin (shifted more g) u v (shifted (more_after g (FuseTwin u v) more) h)
  carry_fuse_twin u v h c = record {
    there = live-shifted more g u c.there;
    there_too = live-shifted more g v c.there_too;
    different = c.different;
    plane = plane-shifted more g u ∙ c.plane;
    plane_too = plane-shifted more g v ∙ c.plane_too;
    not_adjacent = c.not_adjacent;
    equal_neighbours = c.equal_neighbours;
    vertices = alike_fused v u h c.there_too c.vertices;
    edges = c.edges;
    frame = frame-shifted more _ g h c.frame;
  }

carry_split_output : (g : Graph) (w : WellFormed g) (more : ℕ → ℕ) → IsShift g more → (b : ℕ) (h : Graph) →
    IsSplitOutput g b (new_vertex g) h → IsSplitOutput (shifted more g) b (new_vertex (shifted more g)) (shifted more h)
carry_split_output g w more shift b h c =
    split_mirrored (shifted more g) b (new_vertex (shifted more g)) (shifted more (mirrored h))
    (carry_split_input (mirrored g) (mirrored_formed g w) more (record { below = shift.below; absent = shift.absent }) b (mirrored h) (mirrored_split g b (new_vertex g) h c))

pub step_carries : (g : Graph) (s : Step) (h : Graph) (more : ℕ → ℕ) → WellFormed g → IsStep g s h → IsShift g more → IsFree more s →
    IsStep (shifted more g) s (shifted (more_after g s more) h)
step_carries g (LocalComplement u) h more w c shift free = carry_complement g w more shift u h c
step_carries g (Delete u) h more w c shift free = carry_delete g w more shift u h c free
step_carries g (Pivot u v) h more w c shift free = carry_pivot g w more shift u v h c
step_carries g (SplitInput b) h more w c shift free = carry_split_input g w more shift b h c
step_carries g (SplitOutput b) h more w c shift free = carry_split_output g w more shift b h c
step_carries g (DropLone u) h more w c shift free = carry_drop g w more shift u h c
step_carries g (FuseInto u) h more w c shift free = carry_fuse_into g w more shift u h c
step_carries g (FuseTwin u v) h more w c shift free = carry_fuse_twin g w more shift u v h c
