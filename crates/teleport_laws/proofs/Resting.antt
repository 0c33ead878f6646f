-- But for whole quarter turns, the phases of vertices are those of the gates that they hold.
use Rattle.std.proofs.Common.{◌≡◌, ◌≢◌, refl, sym, ◌∙◌, ap, ap₂, ℕ, ◌%◌, ◌<◌, Bool, true, false, cond, not, ◌&&◌, ◌||◌, eqb, List, [], ◌∷◌, arith}
use Rattle.zx_model.specs.Phase.{turn, half_turn, quarter_turn, sum_of_phases, opposite_phase}
use Rattle.zx_model.specs.Bits.{member}
use Rattle.zx_calculus.specs.Graph.{Plane, XY, XZ, YZ, Kind, Vertex, Graph, ids, kind_of, plane_of, phase_of, joined, is_XY, is_XZ, with_kinds, without, insert_vertex, IsVertex, WellFormed}
use Rattle.zx_calculus.specs.Turns.{in_plane, quarter_turned, half_turned, complemented, pivoted}
use Rattle.zx_calculus.specs.Complements.{complement_kind}
use Rattle.zx_calculus.specs.Deletions.{delete_kind}
use Rattle.zx_calculus.specs.Pivots.{pivot_kind}
use Rattle.zx_calculus.specs.Gadgets.{fuse_kind, first_of_list}
use Rattle.zx_calculus.specs.Splits.{spider_of_phase_zero, new_vertex}
use Rattle.zx_calculus.specs.Steps.{Step, LocalComplement, Delete, Pivot, SplitInput, SplitOutput, DropLone, FuseInto, FuseTwin, IsStep}
use Rattle.zx_calculus.proofs.Ids.{by_test, by_equal, or-left, or-right}
use Rattle.zx_calculus.proofs.Vertices.{kind_of-with_kinds, kind_of-without, ids-with_kinds, phase-kind_of, kind_of-insert}
use Rattle.zx_calculus.proofs.Kept.{kind_of-insert_other}
use Rattle.zx_calculus.proofs.Splitting.{member-without}
use Rattle.zx_calculus.proofs.CountLemmas.{member-without_other}
use Rattle.zx_calculus.proofs.Gadgets.{neighbours_into}
use Rattle.teleport_laws.specs.Shifts.{signed, negates, into_of, joined_phases, more_after}
use Rattle.teleport_laws.specs.Groups.{IsOfGates}
use Rattle.teleport_laws.proofs.Carrying.{AreBelow}

-- equal but for whole quarter turns
abbrev AreAlike : ℕ → ℕ → Type 0
AreAlike j k = j % quarter_turn ≡ k % quarter_turn

alike-signed : (b : Bool) (j k : ℕ) → j < turn → k < turn → AreAlike j k → AreAlike (signed b j) (signed b k)
alike-signed true j k low low' e = omega arith
alike-signed false j k low low' e = e

alike-sum : (a b c d : ℕ) → AreAlike a c → AreAlike b d → AreAlike (sum_of_phases a b) (sum_of_phases c d)
alike-sum a b c d e f = omega arith

plus_quarter : (k : ℕ) → AreAlike (sum_of_phases k quarter_turn) k
plus_quarter k = omega arith

plus_half : (k : ℕ) → AreAlike (sum_of_phases k half_turn) k
plus_half k = omega arith

less_quarter : (k : ℕ) → AreAlike (sum_of_phases k (opposite_phase quarter_turn)) k
less_quarter k = omega arith

quarter_less : (k : ℕ) → k < turn → AreAlike (sum_of_phases quarter_turn (opposite_phase k)) (opposite_phase k)
quarter_less k low = omega arith

-- a turn of a kind negates the phase, or leaves it
abbrev Rests : (Kind → Kind) → (Plane → Bool) → Type 0
Rests change negated = (plane : Plane) (k : ℕ) → k < turn → AreAlike (change (in_plane plane k)).phase (signed (negated plane) k)

quarter_rests : Rests quarter_turned is_XZ
quarter_rests XY k low = plus_quarter k
quarter_rests XZ k low = refl
quarter_rests YZ k low = refl

half_rests : Rests half_turned (λ plane. not (is_XY plane))
half_rests XY k low = plus_half k
half_rests XZ k low = refl
half_rests YZ k low = refl

complement_rests : Rests complemented is_XZ
complement_rests XY k low = plus_quarter k
complement_rests XZ k low = quarter_less k low
complement_rests YZ k low = less_quarter k

pivot_rests : Rests pivoted is_XZ
pivot_rests XY k low = refl
pivot_rests XZ k low = quarter_less k low
pivot_rests YZ k low = refl

may_rest : (change : Kind → Kind) (negated : Plane → Bool) (b : Bool) (kind : Kind) → Rests change negated → kind.phase < turn →
    AreAlike (cond b (change kind) kind).phase (signed (b && negated kind.plane) kind.phase)
may_rest change negated true kind rests low = rests kind.plane kind.phase low
may_rest change negated false kind rests low = refl

-- no phase where there is no vertex
pub kind_of-absent : (vs : List Vertex) (v : ℕ) → member v (ids vs) ≡ false → kind_of vs v ≡ in_plane XY 0
kind_of-absent [] v absent = refl
kind_of-absent (u ∷ vs) v absent = rw (or-left (eqb v u.id) (member v (ids vs)) absent) (kind_of-absent vs v (or-right (eqb v u.id) _ absent))

out_of : (v u : ℕ) (x p : ℕ) → (v ≡ u → p ≡ 0) → (v ≢ u → AreAlike p x) → AreAlike p (cond (eqb v u) 0 x)
out_of v u x p gone other = by_equal v u (λ t e. rw t (ap (λ k. k % quarter_turn) (gone e))) (λ t n. rw t (other n))

module _ (g : Graph) (w : WellFormed g) (more : ℕ → ℕ) (low : AreBelow more) (of : IsOfGates g more) where
  low_phase : (p : ℕ) → phase_of g p < turn
  low_phase p = phase-kind_of p g.vertices w.phases_below_a_turn

  none_there : (v : ℕ) → member v (ids g.vertices) ≡ false → AreAlike 0 (more v)
  none_there v absent = sym (ap (λ (k : Kind). k.phase % quarter_turn) (kind_of-absent g.vertices v absent)) ∙ of v

  -- what is left at a vertex of the kind that it has, where a change negates it or not
  changed_here : (change : ℕ → Kind → Kind) (n : Bool) (v : ℕ) → AreAlike (change v (kind_of g.vertices v)).phase (signed n (phase_of g v)) → AreAlike (change v (kind_of g.vertices v)).phase (signed n (more v))
  changed_here change n v here = here ∙ alike-signed n (phase_of g v) (more v) (low_phase v) (low v) (of v)

  none_left : (n : Bool) (v : ℕ) → member v (ids g.vertices) ≡ false → AreAlike 0 (signed n (more v))
  none_left n v absent = at n ∙ alike-signed n 0 (more v) (omega arith) (low v) (none_there v absent)
    where
      at : (b : Bool) → AreAlike 0 (signed b 0)
      at true = refl
      at false = refl

  rest_alike : (change : ℕ → Kind → Kind) (n : Bool) (h : Graph) (v : ℕ) → h.vertices ≡ with_kinds change g.vertices →
      AreAlike (change v (kind_of g.vertices v)).phase (signed n (phase_of g v)) → AreAlike (phase_of h v) (signed n (more v))
  rest_alike change n h v vertices here =
      by_test (member v (ids g.vertices))
      (λ t. ap (λ (k : Kind). k.phase % quarter_turn) (ap (λ vs. kind_of vs v) vertices ∙ kind_of-with_kinds change v g.vertices t) ∙ changed_here change n v here)
      (λ f. ap (λ (k : Kind). k.phase % quarter_turn) (kind_of-absent h.vertices v (ap (λ vs. member v (ids vs)) vertices ∙ ap (member v) (ids-with_kinds change g.vertices) ∙ f))
      ∙ none_left n v f)

  -- where u goes
  gone_phase : (change : ℕ → Kind → Kind) (u : ℕ) (h : Graph) (v : ℕ) → h.vertices ≡ with_kinds change (without u g.vertices) → v ≡ u → phase_of h v ≡ 0
  gone_phase change u h v vertices e =
      ap (λ (k : Kind). k.phase) (kind_of-absent h.vertices v (ap (λ vs. member v (ids vs)) vertices ∙ ap (member v) (ids-with_kinds change (without u g.vertices)) ∙ ap (λ x. member x (ids (without u g.vertices))) e ∙ member-without u g.vertices))

  left_kind : (change : ℕ → Kind → Kind) (u : ℕ) (h : Graph) (v : ℕ) → h.vertices ≡ with_kinds change (without u g.vertices) → v ≢ u → IsVertex g v → kind_of h.vertices v ≡ change v (kind_of g.vertices v)
  left_kind change u h v vertices apart there =
      ap (λ vs. kind_of vs v) vertices ∙ kind_of-with_kinds change v (without u g.vertices) (member-without_other v u g.vertices apart ∙ there)
      ∙ ap (change v) (kind_of-without v u g.vertices apart)

  left_absent : (change : ℕ → Kind → Kind) (u : ℕ) (h : Graph) (v : ℕ) → h.vertices ≡ with_kinds change (without u g.vertices) → v ≢ u → member v (ids g.vertices) ≡ false → phase_of h v ≡ 0
  left_absent change u h v vertices apart absent =
      ap (λ (k : Kind). k.phase) (kind_of-absent h.vertices v (ap (λ vs. member v (ids vs)) vertices ∙ ap (member v) (ids-with_kinds change (without u g.vertices)) ∙ member-without_other v u g.vertices apart ∙ absent))

  rest_without : (change : ℕ → Kind → Kind) (n : Bool) (u : ℕ) (h : Graph) (v : ℕ) → h.vertices ≡ with_kinds change (without u g.vertices) → v ≢ u →
      AreAlike (change v (kind_of g.vertices v)).phase (signed n (phase_of g v)) → AreAlike (phase_of h v) (signed n (more v))
  rest_without change n u h v vertices apart here =
      by_test (member v (ids g.vertices))
      (λ t. ap (λ (k : Kind). k.phase % quarter_turn) (left_kind change u h v vertices apart t) ∙ changed_here change n v here)
      (λ f. ap (λ k. k % quarter_turn) (left_absent change u h v vertices apart f) ∙ none_left n v f)

  -- u is fused into another
  rest_fused : (u into : ℕ) (h : Graph) (v : ℕ) → IsVertex g into → h.vertices ≡ with_kinds (fuse_kind into (phase_of g u)) (without u g.vertices) → AreAlike (phase_of h v) (joined_phases u into more v)
  rest_fused u into h v there vertices =
      out_of v u _ (phase_of h v) (gone_phase (fuse_kind into (phase_of g u)) u h v vertices)
      (λ apart. by_equal v into
      (λ t e. rw t
      (ap (λ (k : Kind). k.phase % quarter_turn) (left_kind (fuse_kind into (phase_of g u)) u h v vertices apart (ap (λ x. member x (ids g.vertices)) e ∙ there))
      ∙ ap (λ b. (cond b (in_plane (plane_of g v) (sum_of_phases (phase_of g v) (phase_of g u))) (kind_of g.vertices v)).phase % quarter_turn) t
      ∙ ap (λ x. sum_of_phases (phase_of g x) (phase_of g u) % quarter_turn) e
      ∙ alike-sum (phase_of g into) (phase_of g u) (more into) (more u) (of into) (of u)))
      (λ t n. rw t
      (rest_without (fuse_kind into (phase_of g u)) false u h v vertices apart
      (ap (λ b. (cond b (in_plane (plane_of g v) (sum_of_phases (phase_of g v) (phase_of g u))) (kind_of g.vertices v)).phase % quarter_turn) t))))

  rest_split : (new : ℕ) (h : Graph) (v : ℕ) → member new (ids g.vertices) ≡ false → h.vertices ≡ insert_vertex (spider_of_phase_zero new) g.vertices → AreAlike (phase_of h v) (more v)
  rest_split new h v fresh vertices =
      by_equal v new
      (λ t e. ap (λ (k : Kind). k.phase % quarter_turn) (ap₂ kind_of vertices e ∙ kind_of-insert (spider_of_phase_zero new) g.vertices fresh)
      ∙ none_there new fresh ∙ ap (λ x. more x % quarter_turn) (sym e))
      (λ t n. ap (λ (k : Kind). k.phase % quarter_turn) (ap (λ vs. kind_of vs v) vertices ∙ kind_of-insert_other v (spider_of_phase_zero new) g.vertices n) ∙ of v)

  pub step_rests : (s : Step) (h : Graph) → IsStep g s h → IsOfGates h (more_after g s more)
  step_rests (LocalComplement u) h c v =
      rest_alike (complement_kind u (joined g.edges u)) (negates g (LocalComplement u) v) h v c.vertices (at (eqb v u) (joined g.edges u v))
    where
      at : (own near : Bool) → AreAlike (cond own (complemented (kind_of g.vertices v)) (cond near (quarter_turned (kind_of g.vertices v)) (kind_of g.vertices v))).phase
          (signed ((own || near) && is_XZ (plane_of g v)) (phase_of g v))
      at true near = complement_rests (plane_of g v) (phase_of g v) (low_phase v)
      at false near = may_rest quarter_turned is_XZ near (kind_of g.vertices v) quarter_rests (low_phase v)
  step_rests (Delete u) h c v =
      out_of v u _ (phase_of h v) (gone_phase (delete_kind (phase_of g u) (joined g.edges u)) u h v c.vertices)
      (λ apart. rest_without (delete_kind (phase_of g u) (joined g.edges u)) (negates g (Delete u) v) u h v c.vertices apart
      (may_rest half_turned (λ plane. not (is_XY plane)) (eqb (phase_of g u) half_turn && joined g.edges u v) (kind_of g.vertices v) half_rests (low_phase v)))
  step_rests (Pivot u z) h c v =
      rest_alike (pivot_kind u z (joined g.edges u) (joined g.edges z)) (negates g (Pivot u z) v) h v c.vertices (at (eqb v u || eqb v z) (joined g.edges u v && joined g.edges z v))
    where
      at : (own common : Bool) → AreAlike (cond own (pivoted (kind_of g.vertices v)) (cond common (half_turned (kind_of g.vertices v)) (kind_of g.vertices v))).phase
          (signed (cond own (is_XZ (plane_of g v)) (common && not (is_XY (plane_of g v)))) (phase_of g v))
      at true common = pivot_rests (plane_of g v) (phase_of g v) (low_phase v)
      at false common = may_rest half_turned (λ plane. not (is_XY plane)) common (kind_of g.vertices v) half_rests (low_phase v)
  step_rests (SplitInput b) h c v = rest_split (new_vertex g) h v c.fresh c.vertices
  step_rests (SplitOutput b) h c v = rest_split (new_vertex g) h v c.fresh c.vertices
  step_rests (DropLone u) h c v =
      by_equal v u
      (λ t e. rw t (ap (λ (k : Kind). k.phase % quarter_turn) (kind_of-absent h.vertices v (ap₂ (λ x vs. member x (ids vs)) e c.vertices ∙ member-without u g.vertices))))
      (λ t n. rw t (ap (λ (k : Kind). k.phase % quarter_turn) (ap (λ vs. kind_of vs v) c.vertices ∙ kind_of-without v u g.vertices n) ∙ of v))
  step_rests (FuseInto u) h c v =
      let into : into_of g u ≡ c.into = ap first_of_list (neighbours_into g u h w c) in
      rest_fused u c.into h v c.into_there c.vertices ∙ ap (λ x. joined_phases u x more v % quarter_turn) (sym into)
  step_rests (FuseTwin u z) h c v = rest_fused z u h v c.there c.vertices
