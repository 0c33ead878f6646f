-- A step that splits nothing, in a graph and in that graph with a gate behind its outputs.
use Rattle.std.proofs.Common.{◌≡◌, ◌≢◌, refl, sym, ◌∙◌, ap, ap₂, subst, true≢false, ℕ, Bool, true, false, cond, ◌&&◌, eqb, ne_eqb, ltb, arith, pos, negsuc, List, [], ◌∷◌, length, filter}
use Rattle.zx_model.specs.Phase.{half_turn, quarter_turn, sum_of_phases}
use Rattle.zx_model.specs.Bits.{xor, member}
use Rattle.zx_calculus.specs.Graph.{XY, YZ, Kind, Vertex, End, Graph, ids, joined, kind_of, plane_of, phase_of, neighbours, end_vertices, insert_vertex, with_kinds, without, IsVertex, Interior, WellFormed}
use Rattle.zx_calculus.specs.Edits.{KeepsEnds}
use Rattle.zx_calculus.specs.Turns.{in_plane, with_phase_added, quarter_turned, half_turned}
use Rattle.zx_calculus.specs.Complements.{IsLocalComplement, complement_kind, complement_scalar, complement_scalar_in}
use Rattle.zx_calculus.specs.Deletions.{IsDelete, delete_kind, delete_scalar, delete_scalar_in}
use Rattle.zx_calculus.specs.Pivots.{IsPivot, pivot_kind, common_neighbours, pivot_scalar, pivot_scalar_in}
use Rattle.zx_calculus.specs.Gadgets.{fuse_kind, IsDropLone, IsFuseInto, IsFuseTwin}
use Rattle.zx_model.specs.Scalar.{product_of_scalars}
use Rattle.zx_calculus.specs.Splits.{spider_of_phase_zero}
use Rattle.zx_calculus.specs.Scalars.{quarter_power, quarter_power_in, half_power, half_power_in, quarter_powers, half_powers, turn_by, root_of_two_to}
use Rattle.zx_calculus.specs.StepScalars.{step_scalar}
use Rattle.zx_calculus.specs.Steps.{Step, IsStep, LocalComplement, Delete, Pivot, SplitInput, SplitOutput, DropLone, FuseInto, FuseTwin}
use Rattle.zx_calculus.proofs.Booleans.{parities, xor-false, and-false}
use Rattle.zx_calculus.proofs.Ids.{by_test, and-left, apart_of_member, member-filter, member-absent_removed}
use Rattle.zx_calculus.proofs.Forms.{ids-without}
use Rattle.zx_calculus.proofs.Vertices.{ids-with_kinds, kind_of-without}
use Rattle.zx_calculus.proofs.Splitting.{distinct, distinct_without, interior_of, off_XY}
use Rattle.zx_calculus.proofs.Counting.{YZ_apart}
use Rattle.zx_calculus.proofs.Programs.{absent_right}
use Rattle.zx_calculus.proofs.StepScalars.{powers_same}
use Rattle.zx_calculus.proofs.Steps.{step_kept}
use Rattle.zx_calculus.proofs.Toggling.{neighbour_live}
use Rattle.zx_gates.specs.declared.gate.Gate.TheVariants.{H, Phase, Cz, Cx, Not}
use Rattle.move_laws.specs.Orders.{is_split}
use Rattle.zx_gates.specs.Circuit.{IsOnQubits}
use Rattle.zx_gates.specs.declared.gate.Gate.{Gate}
use Rattle.growing_laws.specs.Growing.{placed}
use Rattle.growing_laws.proofs.Parts.{spot, added, added_none, moved_none, extended, extended_live, extended_kind, extended_plane, extended_without, extended_kinds, Passes}
use Rattle.growing_laws.proofs.Placing.{IsPlaced, placed_is, output_XY}

-- ---- which changes of kinds a gate passes
turned_then : (b : Bool) (turned : Kind → Kind) (k m : ℕ) → turned (in_plane XY (sum_of_phases m k)) ≡ with_phase_added k (turned (in_plane XY m)) →
    cond b (turned (in_plane XY (sum_of_phases m k))) (in_plane XY (sum_of_phases m k)) ≡ with_phase_added k (cond b (turned (in_plane XY m)) (in_plane XY m))
turned_then true turned k m h = h
turned_then false turned k m h = refl

sums_swap : (m k j : ℕ) → sum_of_phases (sum_of_phases m k) j ≡ sum_of_phases (sum_of_phases m j) k
sums_swap m k j = omega arith

swapped : (a b x : Bool) → xor (xor a b) x ≡ xor (xor a x) b
swapped a b x = simp parities

module _ (new : ℕ) (g : Graph) where
  passes_complement : (u : ℕ) (near : ℕ → Bool) → Interior g u → u ≢ new → near new ≡ false → Passes new g.outputs (complement_kind u near)
  passes_complement u near inner apart none = record {
    at_new = rw (ne_eqb new u (λ e. apart (sym e)), none) refl;
    at_outputs = λ p k m there. rw (ne_eqb p u (not_inner p there)) (turned_then (near p) quarter_turned k m (ap (in_plane XY) (sums_swap m k quarter_turn)));
  }
    where
      not_inner : (p : ℕ) → member p (end_vertices g.outputs) ≡ true → p ≢ u
      not_inner p there = apart_of_member p u (end_vertices g.outputs) there inner.no_output

  passes_delete : (phase : ℕ) (near : ℕ → Bool) → near new ≡ false → Passes new g.outputs (delete_kind phase near)
  passes_delete phase near none = record {
    at_new = rw none (rw (and-false (eqb phase half_turn)) refl);
    at_outputs = λ p k m there. turned_then (eqb phase half_turn && near p) half_turned k m (ap (in_plane XY) (sums_swap m k half_turn));
  }

  passes_pivot : (u v : ℕ) (near_u near_v : ℕ → Bool) → Interior g u → Interior g v → u ≢ new → v ≢ new → near_u new ≡ false →
      Passes new g.outputs (pivot_kind u v near_u near_v)
  passes_pivot u v near_u near_v inner inner_too apart apart_too none = record {
    at_new = rw (ne_eqb new u (λ e. apart (sym e)), ne_eqb new v (λ e. apart_too (sym e)), none) refl;
    at_outputs = λ p k m there. rw (ne_eqb p u (apart_of_member p u (end_vertices g.outputs) there inner.no_output), ne_eqb p v (apart_of_member p v (end_vertices g.outputs) there inner_too.no_output))
        (turned_then (near_u p && near_v p) half_turned k m (ap (in_plane XY) (sums_swap m k half_turn)));
  }

  passes_fuse : (v j : ℕ) → v ≢ new → Passes new g.outputs (fuse_kind v j)
  passes_fuse v j apart = record {
    at_new = rw (ne_eqb new v (λ e. apart (sym e))) refl;
    at_outputs = λ p k m there. turned_then (eqb p v) (with_phase_added j) k m (ap (in_plane XY) (sums_swap m k j));
  }

-- ---- what holds inside g holds inside g with the gate, which is k
filter-insert : (near : ℕ → Bool) (n : Vertex) (vs : List Vertex) → near n.id ≡ false → filter near (ids (insert_vertex n vs)) ≡ filter near (ids vs)
filter-insert near n [] none = rw none refl
filter-insert near n (v ∷ vs) none =
    by_test (ltb n.id v.id) (λ t. rw (t, none) refl)
    (λ f. rw f (ap (λ rest. cond (near v.id) (v.id ∷ rest) rest) (filter-insert near n vs none)))

extended_filter : (new : ℕ) (es : List End) (gate : Gate) (vs : List Vertex) (near : ℕ → Bool) → near new ≡ false →
    filter near (ids (extended new es gate vs)) ≡ filter near (ids vs)
extended_filter new es (H q) vs near none = filter-insert near (spider_of_phase_zero new) vs none
extended_filter new es (Phase q k) vs near none = ap (filter near) (ids-with_kinds (fuse_kind (spot es q) k) vs)
extended_filter new es (Cz p q) vs near none = refl
extended_filter new es (Cx p q) vs near none = refl
extended_filter new es (Not q) vs near none = refl

-- a turn of an XY vertex costs nothing
no_quarter_power : (kind : Kind) → kind.plane ≡ XY → quarter_power kind ≡ 0
no_quarter_power kind e = ap (λ plane. quarter_power_in plane kind.phase) e

no_half_power : (kind : Kind) → kind.plane ≡ XY → half_power kind ≡ 0
no_half_power kind e = ap (λ plane. half_power_in plane kind.phase) e

module _ (new : ℕ) (gate : Gate) (g k : Graph) (w : WellFormed g) (fresh : member new (ids g.vertices) ≡ false)
    (on : IsOnQubits (length g.outputs) gate) (P : IsPlaced new g.outputs gate g k) where
  not_new : (u : ℕ) → IsVertex g u → u ≢ new
  not_new u there = apart_of_member u new (ids g.vertices) there fresh

  pub live : (u : ℕ) → IsVertex g u → IsVertex k u
  live u there = ap (λ vs. member u (ids vs)) P.vertices ∙ extended_live new g.outputs gate g.vertices u there

  inside : (u : ℕ) → IsVertex g u → Interior g u → Interior k u
  inside u there inner = record {
    no_input = ap (λ es. member u (end_vertices es)) P.inputs ∙ inner.no_input;
    no_output = ap (λ es. member u (end_vertices es)) P.outputs ∙ moved_none new g.outputs gate u inner.no_output (not_new u there);
  }

  pub plane : (u : ℕ) → IsVertex g u → plane_of k u ≡ plane_of g u
  plane u there = ap (λ vs. (kind_of vs u).plane) P.vertices ∙ extended_plane new g.outputs gate g.vertices u (not_new u there) there

  kind : (u : ℕ) → IsVertex g u → member u (end_vertices g.outputs) ≡ false → kind_of k.vertices u ≡ kind_of g.vertices u
  kind u there no_output =
      ap (λ vs. kind_of vs u) P.vertices ∙ extended_kind new g.outputs gate g.vertices u on no_output (not_new u there) there

  pub phase : (u : ℕ) → IsVertex g u → Interior g u → phase_of k u ≡ phase_of g u
  phase u there inner = ap (λ (x : Kind). x.phase) (kind u there inner.no_output)

  pub row : (u : ℕ) → IsVertex g u → Interior g u → (p : ℕ) → joined k.edges u p ≡ joined g.edges u p
  row u there inner p =
      P.edges u p ∙ ap (xor (joined g.edges u p)) (added_none new g.outputs gate u p on inner.no_output (not_new u there)) ∙ xor-false (joined g.edges u p)

  -- no edge goes to a new vertex
  not_near : (u : ℕ) → joined g.edges u new ≡ false
  not_near u = absent_right g w u new fresh

  pub off_plane : (u : ℕ) → plane_of g u ≢ XY → Interior g u
  off_plane u n = interior_of g u w (off_XY (plane_of g u) n)

  pub off_YZ : (u : ℕ) → plane_of g u ≡ YZ → Interior g u
  off_YZ u e = off_plane u (YZ_apart _ e)

  -- ---- the exact scalars
  pub near : (u : ℕ) → IsVertex g u → Interior g u → neighbours k u ≡ neighbours g u
  near u there inner =
      ap (λ (test : ℕ → Bool). filter test (ids k.vertices)) (λ i p. row u there inner p i)
      ∙ ap (λ vs. filter (joined g.edges u) (ids vs)) P.vertices
      ∙ extended_filter new g.outputs gate g.vertices (joined g.edges u) (not_near u)

  -- a power that XY vertices don't have
  power : (cost : Kind → ℕ) → ((x : Kind) → x.plane ≡ XY → cost x ≡ 0) → (p : ℕ) → IsVertex g p →
      cost (kind_of k.vertices p) ≡ cost (kind_of g.vertices p)
  power cost none p there =
      by_test (member p (end_vertices g.outputs))
      (λ t. none (kind_of k.vertices p) (plane p there ∙ output_XY g w p t) ∙ sym (none (kind_of g.vertices p) (output_XY g w p t)))
      (λ f. ap cost (kind p there f))

  complement_scalar_same : (u : ℕ) → IsVertex g u → Interior g u → complement_scalar k u ≡ complement_scalar g u
  complement_scalar_same u there inner =
      ap₂ (λ (x : Kind) n. product_of_scalars (complement_scalar_in x.plane x.phase) (turn_by n)) (kind u there inner.no_output)
      (ap (quarter_powers k) (near u there inner)
      ∙ powers_same (λ p. quarter_power (kind_of k.vertices p)) (λ p. quarter_power (kind_of g.vertices p)) (neighbours g u)
      (λ p m. power quarter_power no_quarter_power p (neighbour_live g u p m)))

  delete_scalar_same : (u : ℕ) → IsVertex g u → Interior g u → delete_scalar k u ≡ delete_scalar g u
  delete_scalar_same u there inner =
      ap₂ (λ (x : Kind) n. cond (eqb x.phase half_turn) (product_of_scalars (delete_scalar_in x.plane) (turn_by n)) (root_of_two_to (pos 2))) (kind u there inner.no_output)
      (ap (half_powers k) (near u there inner)
      ∙ powers_same (λ p. half_power (kind_of k.vertices p)) (λ p. half_power (kind_of g.vertices p)) (neighbours g u)
      (λ p m. power half_power no_half_power p (neighbour_live g u p m)))

  pivot_scalar_same : (u v : ℕ) → IsVertex g u → IsVertex g v → Interior g u → Interior g v → pivot_scalar k u v ≡ pivot_scalar g u v
  pivot_scalar_same u v there there_too inner inner_too =
      ap₂ (λ (x : Kind × Kind) n. product_of_scalars (root_of_two_to (negsuc 1)) (product_of_scalars
      (product_of_scalars (pivot_scalar_in x.0.plane x.0.phase) (pivot_scalar_in x.1.plane x.1.phase)) (turn_by n)))
      (λ i. (kind u there inner.no_output i, kind v there_too inner_too.no_output i))
      (ap₂ (λ (test : ℕ → Bool) ns. half_powers k (filter test ns)) (λ i p. row v there_too inner_too p i) (near u there inner)
      ∙ powers_same (λ p. half_power (kind_of k.vertices p)) (λ p. half_power (kind_of g.vertices p)) (common_neighbours g u v)
      (λ p m. power half_power no_half_power p (neighbour_live g u p (and-left _ _ (sym (member-filter (joined g.edges v) (neighbours g u) p) ∙ m)))))

  pub scalar_same : (s : Step) (h : Graph) → is_split s ≡ false → IsStep g s h → step_scalar k s ≡ step_scalar g s
  scalar_same (LocalComplement u) h none c = complement_scalar_same u c.there c.interior
  scalar_same (Delete u) h none c = delete_scalar_same u c.deletable.there (off_plane u c.deletable.plane)
  scalar_same (Pivot u v) h none c = pivot_scalar_same u v c.there c.there_too c.interior c.interior_too
  scalar_same (SplitInput b) h none c = absurd (true≢false none)
  scalar_same (SplitOutput b) h none c = absurd (true≢false none)
  scalar_same (DropLone u) h none c = refl
  scalar_same (FuseInto u) h none c = refl
  scalar_same (FuseTwin u v) h none c = refl

  -- ---- the step, where h with the gate is l
  module _ (h l : Graph) (Q : IsPlaced new g.outputs gate h l) where
    frame : KeepsEnds g h → KeepsEnds k l
    frame c = record { ordered = Q.ordered; inputs = Q.inputs ∙ c.inputs ∙ sym P.inputs; outputs = Q.outputs ∙ sym P.outputs }

    row_after : (u : ℕ) → IsVertex g u → Interior g u → (p : ℕ) → joined l.edges u p ≡ joined h.edges u p
    row_after u there inner p =
        Q.edges u p ∙ ap (xor (joined h.edges u p)) (added_none new g.outputs gate u p on inner.no_output (not_new u there)) ∙ xor-false (joined h.edges u p)

    edges_left : (p q : ℕ) → joined h.edges p q ≡ joined g.edges p q → joined l.edges p q ≡ joined k.edges p q
    edges_left p q e = Q.edges p q ∙ ap (λ b. xor b (added new g.outputs gate p q)) e ∙ sym (P.edges p q)

    changed : (f f' : ℕ → Kind → Kind) → f ≡ f' → Passes new g.outputs f → h.vertices ≡ with_kinds f g.vertices → l.vertices ≡ with_kinds f' k.vertices
    changed f f' same c is =
        Q.vertices ∙ ap (extended new g.outputs gate) is
        ∙ extended_kinds new g.outputs gate g.vertices f on (distinct g w) (output_XY g w) c
        ∙ ap₂ with_kinds same (sym P.vertices)

    gone : (u : ℕ) → IsVertex g u → extended new g.outputs gate (without u g.vertices) ≡ without u k.vertices
    gone u there = extended_without new g.outputs gate g.vertices u w.vertices_rising (not_new u there) ∙ ap (without u) (sym P.vertices)

    changed_left : (f f' : ℕ → Kind → Kind) (u : ℕ) → f ≡ f' → Passes new g.outputs f → IsVertex g u → Interior g u →
        h.vertices ≡ with_kinds f (without u g.vertices) → l.vertices ≡ with_kinds f' (without u k.vertices)
    changed_left f f' u same c there inner is =
        Q.vertices ∙ ap (extended new g.outputs gate) is
        ∙ extended_kinds new g.outputs gate (without u g.vertices) f on (distinct_without g u w) planes c
        ∙ ap₂ with_kinds same (gone u there)
      where
        planes : (p : ℕ) → member p (end_vertices g.outputs) ≡ true → (kind_of (without u g.vertices) p).plane ≡ XY
        planes p at_end =
            ap (λ (x : Kind). x.plane) (kind_of-without p u g.vertices (apart_of_member p u (end_vertices g.outputs) at_end inner.no_output))
            ∙ output_XY g w p at_end

    complement : (u : ℕ) → IsLocalComplement g u h → IsLocalComplement k u l
    complement u c = record {
      there = live u c.there;
      interior = inside u c.there c.interior;
      vertices = changed _ _ (λ i. complement_kind u (λ p. sym (row u c.there c.interior p) i))
          (passes_complement new g u (joined g.edges u) c.interior (not_new u c.there) (not_near u)) c.vertices;
      edges = λ p q n. Q.edges p q ∙ ap (λ b. xor b (added new g.outputs gate p q)) (c.edges p q n)
          ∙ swapped (joined g.edges p q) (joined g.edges u p && joined g.edges u q) (added new g.outputs gate p q)
          ∙ ap₂ xor (sym (P.edges p q)) (ap₂ (λ a b. a && b) (sym (row u c.there c.interior p)) (sym (row u c.there c.interior q)));
      frame = frame c.frame;
    }

    delete : (u : ℕ) → IsDelete g u h → IsDelete k u l
    delete u c =
        let there : IsVertex g u = c.deletable.there in
        let inner : Interior g u = off_plane u c.deletable.plane in
        record {
          deletable = record {
            there = live u there;
            plane = λ e. c.deletable.plane (sym (plane u there) ∙ e);
            phase = rw (phase u there inner) c.deletable.phase;
          };
          vertices = changed_left _ _ u (λ i. delete_kind (sym (phase u there inner) i) (λ p. sym (row u there inner p) i))
              (passes_delete new g (phase_of g u) (joined g.edges u) (not_near u)) there inner c.vertices;
          edges = λ p q n m. edges_left p q (c.edges p q n m);
          frame = frame c.frame;
        }

    drop_lone : (u : ℕ) → IsDropLone g u h → IsDropLone k u l
    drop_lone u c = record {
      there = live u c.there;
      plane = plane u c.there ∙ c.plane;
      lone = λ p. row u c.there (off_YZ u c.plane) p ∙ c.lone p;
      vertices = Q.vertices ∙ ap (extended new g.outputs gate) c.vertices ∙ gone u c.there;
      edges = λ p q n m. edges_left p q (c.edges p q n m);
      frame = frame c.frame;
    }

    fuse_into : (u : ℕ) → IsFuseInto g u h → IsFuseInto k u l
    fuse_into u c =
        let inner : Interior g u = off_YZ u c.plane in
        record {
          into = c.into;
          there = live u c.there;
          plane = plane u c.there ∙ c.plane;
          into_there = live c.into c.into_there;
          into_plane = plane c.into c.into_there ∙ c.into_plane;
          only_neighbour = λ p. row u c.there inner p ∙ c.only_neighbour p;
          vertices = changed_left _ _ u (λ i. fuse_kind c.into (sym (phase u c.there inner) i))
              (passes_fuse new g c.into (phase_of g u) (not_new c.into c.into_there)) c.there inner c.vertices;
          edges = λ p q n m. edges_left p q (c.edges p q n m);
          frame = frame c.frame;
        }

    fuse_twin : (u v : ℕ) → IsFuseTwin g u v h → IsFuseTwin k u v l
    fuse_twin u v c =
        let inner : Interior g u = off_YZ u c.plane in
        let inner_too : Interior g v = off_YZ v c.plane_too in
        record {
          there = live u c.there;
          there_too = live v c.there_too;
          different = c.different;
          plane = plane u c.there ∙ c.plane;
          plane_too = plane v c.there_too ∙ c.plane_too;
          not_adjacent = row u c.there inner v ∙ c.not_adjacent;
          equal_neighbours = λ p. row u c.there inner p ∙ c.equal_neighbours p ∙ sym (row v c.there_too inner_too p);
          vertices = changed_left _ _ v (λ i. fuse_kind u (sym (phase v c.there_too inner_too) i))
              (passes_fuse new g u (phase_of g v) (not_new u c.there)) c.there_too inner_too c.vertices;
          edges = λ p q n m. edges_left p q (c.edges p q n m);
          frame = frame c.frame;
        }

    pivot : (u v : ℕ) → IsPivot g u v h → IsPivot k u v l
    pivot u v c = record {
      there = live u c.there;
      there_too = live v c.there_too;
      interior = inside u c.there c.interior;
      interior_too = inside v c.there_too c.interior_too;
      adjacent = at_u v ∙ c.adjacent;
      vertices = changed _ _ (λ i. pivot_kind u v (λ p. sym (at_u p) i) (λ p. sym (at_v p) i))
          (passes_pivot new g u v (joined g.edges u) (joined g.edges v) c.interior c.interior_too (not_new u c.there) (not_new v c.there_too) (not_near u)) c.vertices;
      still_adjacent = row_after u c.there c.interior v ∙ c.still_adjacent;
      of_u = λ p n m. row_after u c.there c.interior p ∙ c.of_u p n m ∙ sym (at_v p);
      of_v = λ p n m. row_after v c.there_too c.interior_too p ∙ c.of_v p n m ∙ sym (at_u p);
      between = λ p q n m n' m' apart.
          Q.edges p q ∙ ap (λ b. xor b (added new g.outputs gate p q)) (c.between p q n m n' m' apart)
          ∙ swapped (joined g.edges p q) (xor (joined g.edges u p && joined g.edges v q) (joined g.edges v p && joined g.edges u q)) (added new g.outputs gate p q)
          ∙ ap₂ xor (sym (P.edges p q))
          (ap₂ xor (ap₂ (λ a b. a && b) (sym (at_u p)) (sym (at_v q))) (ap₂ (λ a b. a && b) (sym (at_v p)) (sym (at_u q))));
      frame = frame c.frame;
    }
      where
        at_u : (p : ℕ) → joined k.edges u p ≡ joined g.edges u p
        at_u p = row u c.there c.interior p

        at_v : (p : ℕ) → joined k.edges v p ≡ joined g.edges v p
        at_v p = row v c.there_too c.interior_too p

    pub both_placed : (s : Step) → is_split s ≡ false → IsStep g s h → IsStep k s l
    both_placed (LocalComplement u) none c = complement u c
    both_placed (Delete u) none c = delete u c
    both_placed (Pivot u v) none c = pivot u v c
    both_placed (SplitInput b) none c = absurd (true≢false none)
    both_placed (SplitOutput b) none c = absurd (true≢false none)
    both_placed (DropLone u) none c = drop_lone u c
    both_placed (FuseInto u) none c = fuse_into u c
    both_placed (FuseTwin u v) none c = fuse_twin u v c

-- ---- what isn't a vertex doesn't become one, and the ends stay
still_out : (new : ℕ) (f : ℕ → Kind → Kind) (vs ws : List Vertex) → ws ≡ with_kinds f vs → member new (ids vs) ≡ false → member new (ids ws) ≡ false
still_out new f vs ws is fresh = ap (λ us. member new (ids us)) is ∙ ap (member new) (ids-with_kinds f vs) ∙ fresh

left_out : (new u : ℕ) (vs : List Vertex) → member new (ids vs) ≡ false → member new (ids (without u vs)) ≡ false
left_out new u vs fresh = ap (member new) (ids-without u vs) ∙ member-absent_removed new u (ids vs) fresh

pub step_fresh : (new : ℕ) (g : Graph) (s : Step) (h : Graph) → is_split s ≡ false → IsStep g s h → member new (ids g.vertices) ≡ false → member new (ids h.vertices) ≡ false
step_fresh new g (LocalComplement u) h none c fresh = still_out new _ g.vertices h.vertices c.vertices fresh
step_fresh new g (Delete u) h none c fresh = still_out new _ (without u g.vertices) h.vertices c.vertices (left_out new u g.vertices fresh)
step_fresh new g (Pivot u v) h none c fresh = still_out new _ g.vertices h.vertices c.vertices fresh
step_fresh new g (SplitInput b) h none c fresh = absurd (true≢false none)
step_fresh new g (SplitOutput b) h none c fresh = absurd (true≢false none)
step_fresh new g (DropLone u) h none c fresh = ap (λ us. member new (ids us)) c.vertices ∙ left_out new u g.vertices fresh
step_fresh new g (FuseInto u) h none c fresh = still_out new _ (without u g.vertices) h.vertices c.vertices (left_out new u g.vertices fresh)
step_fresh new g (FuseTwin u v) h none c fresh = still_out new _ (without v g.vertices) h.vertices c.vertices (left_out new v g.vertices fresh)

pub step_frame : (g : Graph) (s : Step) (h : Graph) → is_split s ≡ false → IsStep g s h → KeepsEnds g h
step_frame g (LocalComplement u) h none c = c.frame
step_frame g (Delete u) h none c = c.frame
step_frame g (Pivot u v) h none c = c.frame
step_frame g (SplitInput b) h none c = absurd (true≢false none)
step_frame g (SplitOutput b) h none c = absurd (true≢false none)
step_frame g (DropLone u) h none c = c.frame
step_frame g (FuseInto u) h none c = c.frame
step_frame g (FuseTwin u v) h none c = c.frame

pub step_on : (g : Graph) (s : Step) (h : Graph) (gate : Gate) → is_split s ≡ false → IsStep g s h → IsOnQubits (length g.outputs) gate → IsOnQubits (length h.outputs) gate
step_on g s h gate none step on = subst (λ es. IsOnQubits (length es) gate) (sym (step_frame g s h none step).outputs) on

pub step_placed : (new : ℕ) (g : Graph) (s : Step) (h : Graph) (gate : Gate) → WellFormed g → is_split s ≡ false → member new (ids g.vertices) ≡ false →
    IsOnQubits (length g.outputs) gate → IsStep g s h → IsStep (placed new g gate) s (placed new h gate)
step_placed new g s h gate w none fresh on step =
    both_placed new gate g (placed new g gate) w fresh on (placed_is g w new gate fresh on) h (placed new h gate)
    (subst (λ es. IsPlaced new es gate h (placed new h gate)) (step_frame g s h none step).outputs
    (placed_is h (step_kept g s h w step) new gate (step_fresh new g s h none step fresh) (step_on g s h gate none step on)))
    s none step

pub step_scalar_placed : (new : ℕ) (g : Graph) (s : Step) (h : Graph) (gate : Gate) → WellFormed g → is_split s ≡ false → member new (ids g.vertices) ≡ false →
    IsOnQubits (length g.outputs) gate → IsStep g s h → step_scalar (placed new g gate) s ≡ step_scalar g s
step_scalar_placed new g s h gate w none fresh on step =
    scalar_same new gate g (placed new g gate) w fresh on (placed_is g w new gate fresh on) s h none step
