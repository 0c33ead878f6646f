-- What holds of each rewrite, and of lists of them.
use Rattle.std.proofs.Common.{◌≡◌, ◌≢◌, sym, ◌∙◌, ap, subst, ℕ, ◌≤◌, Bool, true, ◌&&◌, ◌||◌, List, [], ◌∷◌, true≢false, ne_eqb, arith, length, ◌+◌, le_of_eq, not}
use Rattle.zx_model.specs.Number.{mul}
use Rattle.zx_model.specs.Proportional.{Proportional}
use Rattle.zx_model.specs.Bits.{one_if, xor}
use Rattle.zx_model.specs.Constants.{two}
use Rattle.zx_model.proofs.Ring.{two_nonzero}
use Rattle.zx_model.proofs.Domain.{mul_left_cancel}
use Rattle.zx_model.proofs.Scalars.{scaled_proportional}
use Rattle.zx_model.proofs.ProportionalLemmas.{proportional_refl, proportional_trans}
use Rattle.zx_model.proofs.Odd.{one_if-odd_sum}
use Rattle.zx_calculus.specs.Steps.{FuseInto, Pivot, FuseTwin, SplitOutput, DropLone, Delete, LocalComplement, IsStep, SplitInput, Step, IsRun, allowed, after}
use Rattle.zx_calculus.specs.Graph.{WellFormed, Graph, End, phase_of, joined, ids, is_XY, is_YZ, with_kinds, without}
use Rattle.zx_calculus.specs.Sum.{graph_sum}
use Rattle.zx_calculus.specs.Splits.{split_vertices, split_edges}
use Rattle.zx_calculus.specs.StepScalars.{IsSumTimes, step_scalar}
use Rattle.zx_calculus.specs.Counts.{is_odd_fused, odd_phases, is_odd_at}
use Rattle.zx_calculus.specs.Gadgets.{is_one_XY, is_empty, fuse_kind, first_of_list, IsFuseTwin}
use Rattle.zx_calculus.specs.Deletions.{delete_kind}
use Rattle.zx_calculus.specs.Edits.{is_pair}
use Rattle.zx_calculus.specs.Pivots.{pivot_adjacent}
use Rattle.zx_calculus.proofs.LeastFree.{least_free-fresh}
use Rattle.zx_calculus.proofs.Deletions.{delete_kept, delete_sum, odd-delete, deletable_to, after_delete}
use Rattle.zx_calculus.proofs.Splits.{split_output_kept, split_input_kept, split_input_sum, split_output_sum, length-move_end, odd-split, split_symmetric, after_split_output, after_split_input}
use Rattle.zx_calculus.proofs.Gadgets.{fuse_into_kept, fuse_twin_kept, drop_lone_kept, fuse_into_sum, fuse_twin_sum, drop_lone_sum, odd-fuse_twin, odd-drop, odd-fuse_into, filter-none, equal_everywhere, neighbours_into, after_fuse_twin, after_drop, after_fuse_into}
use Rattle.zx_calculus.proofs.Complements.{local_complement_kept, complement_sum, odd-complement, complement_symmetric, after_complement}
use Rattle.zx_calculus.proofs.Pivots.{pivot_kept, pivot_sum, odd-pivot, pivot_law, pivot_symmetric, after_pivot}
use Rattle.zx_calculus.proofs.Factors.{left_factor, right_factor}
use Rattle.zx_calculus.proofs.StepScalars.{step_scaled}
use Rattle.zx_calculus.proofs.Results.{interior_true, gone_plain, gone, edges_are, graph_is}
use Rattle.zx_calculus.proofs.Kept.{both}
use Rattle.zx_calculus.proofs.Splitting.{no_loop}
use Rattle.zx_calculus.proofs.Edges.{joined_comm}

pub step_kept : (g : Graph) (s : Step) (h : Graph) → WellFormed g → IsStep g s h → WellFormed h
step_kept g (LocalComplement u) h w c = local_complement_kept g u h w c
step_kept g (Delete u) h w c = delete_kept g u h w c
step_kept g (Pivot u v) h w c = pivot_kept g u v h w c
step_kept g (SplitInput b) h w c = split_input_kept g b _ h w c
step_kept g (SplitOutput b) h w c = split_output_kept g b _ h w c
step_kept g (DropLone u) h w c = drop_lone_kept g u h w c
step_kept g (FuseInto u) h w c = fuse_into_kept g u h w c
step_kept g (FuseTwin u v) h w c = fuse_twin_kept g u v h w c

pub run_kept : (g : Graph) (steps : List Step) (h : Graph) → WellFormed g → IsRun g steps h → WellFormed h
run_kept g [] h w r = subst WellFormed r w
run_kept g (s ∷ steps) h w r = run_kept r.0 steps h (step_kept g s r.0 w r.1) r.2

pub step_sum : (g : Graph) (s : Step) (h : Graph) (x y : List Bool) → WellFormed g → IsStep g s h → length x ≡ length g.inputs → length y ≡ length g.outputs → mul (left_factor g s) (graph_sum g x y) ≡ mul (right_factor g s) (graph_sum h x y)
step_sum g (LocalComplement u) h x y w c m n = complement_sum g u h w (step_kept g (LocalComplement u) h w c) c x y
step_sum g (Delete u) h x y w c m n = delete_sum g u h x y w (step_kept g (Delete u) h w c) c
step_sum g (Pivot u v) h x y w c m n = pivot_sum g u v h w (step_kept g (Pivot u v) h w c) c x y
step_sum g (SplitInput b) h x y w c m n = split_input_sum g b _ h x y w (step_kept g (SplitInput b) h w c) c m
step_sum g (SplitOutput b) h x y w c m n = split_output_sum g b _ h x y w (step_kept g (SplitOutput b) h w c) c n
step_sum g (DropLone u) h x y w c m n = drop_lone_sum g u h x y w (step_kept g (DropLone u) h w c) c
step_sum g (FuseInto u) h x y w c m n = fuse_into_sum g u h x y w (step_kept g (FuseInto u) h w c) c
step_sum g (FuseTwin u v) h x y w c m n = fuse_twin_sum g u v h w (step_kept g (FuseTwin u v) h w c) c x y

-- the sum before is the step's scalar times the sum after
pub step_sum_times : (g : Graph) (s : Step) (h : Graph) → WellFormed g → IsStep g s h → IsSumTimes g (step_scalar g s) h
step_sum_times g s h w c = step_scaled g s h w (λ x y. step_sum g s h x y w c)

pub step_proportional : (g : Graph) (s : Step) (h : Graph) → WellFormed g → IsStep g s h → Proportional (length g.inputs) (length g.outputs) (graph_sum g) (graph_sum h)
step_proportional g s h w c =
    scaled_proportional (length g.inputs) (length g.outputs) (graph_sum g) (graph_sum h) (step_scalar g s) (step_sum_times g s h w c)

-- a step keeps the number of ends
pub inputs_kept : (g : Graph) (s : Step) (h : Graph) → IsStep g s h → length h.inputs ≡ length g.inputs
inputs_kept g (LocalComplement u) h c = ap length c.frame.inputs
inputs_kept g (Delete u) h c = ap length c.frame.inputs
inputs_kept g (Pivot u v) h c = ap length c.frame.inputs
inputs_kept g (SplitInput b) h c = ap length c.inputs ∙ length-move_end b _ g.inputs
inputs_kept g (SplitOutput b) h c = ap length c.inputs
inputs_kept g (DropLone u) h c = ap length c.frame.inputs
inputs_kept g (FuseInto u) h c = ap length c.frame.inputs
inputs_kept g (FuseTwin u v) h c = ap length c.frame.inputs

pub outputs_kept : (g : Graph) (s : Step) (h : Graph) → IsStep g s h → length h.outputs ≡ length g.outputs
outputs_kept g (LocalComplement u) h c = ap length c.frame.outputs
outputs_kept g (Delete u) h c = ap length c.frame.outputs
outputs_kept g (Pivot u v) h c = ap length c.frame.outputs
outputs_kept g (SplitInput b) h c = ap length c.outputs
outputs_kept g (SplitOutput b) h c = ap length c.outputs ∙ length-move_end b _ g.outputs
outputs_kept g (DropLone u) h c = ap length c.frame.outputs
outputs_kept g (FuseInto u) h c = ap length c.frame.outputs
outputs_kept g (FuseTwin u v) h c = ap length c.frame.outputs

pub run_proportional : (g : Graph) (steps : List Step) (h : Graph) → WellFormed g → IsRun g steps h → Proportional (length g.inputs) (length g.outputs) (graph_sum g) (graph_sum h)
run_proportional g [] h w r = subst (λ k. Proportional (length g.inputs) (length g.outputs) (graph_sum g) (graph_sum k)) r (proportional_refl (length g.inputs) (length g.outputs) (graph_sum g))
run_proportional g (s ∷ steps) h w r =
    proportional_trans (length g.inputs) (length g.outputs) (graph_sum g) (graph_sum r.0) (graph_sum h) (step_proportional g s r.0 w r.1)
    (rw (← (inputs_kept g s r.0 r.1), ← (outputs_kept g s r.0 r.1)) (run_proportional r.0 steps h (step_kept g s r.0 w r.1) r.2))

pub run_inputs_kept : (g : Graph) (steps : List Step) (h : Graph) → IsRun g steps h → length h.inputs ≡ length g.inputs
run_inputs_kept g [] h r = ap (λ k. length k.inputs) (sym r)
run_inputs_kept g (s ∷ steps) h r = run_inputs_kept r.0 steps h r.2 ∙ inputs_kept g s r.0 r.1

pub run_outputs_kept : (g : Graph) (steps : List Step) (h : Graph) → IsRun g steps h → length h.outputs ≡ length g.outputs
run_outputs_kept g [] h r = ap (λ k. length k.outputs) (sym r)
run_outputs_kept g (s ∷ steps) h r = run_outputs_kept r.0 steps h r.2 ∙ outputs_kept g s r.0 r.1

fewer : (g h : Graph) (u v : ℕ) → odd_phases h + one_if (is_odd_at g u) + one_if (is_odd_at g v) ≡ odd_phases g + one_if (is_odd_fused g u v) → odd_phases h ≤ odd_phases g
fewer g h u v e = lesser (odd_phases h) (odd_phases g) _ _ _ e (one_if-odd_sum (phase_of g v) (phase_of g u))
  where
    lesser : (a b x y z : ℕ) → a + x + y ≡ b + z → z ≤ y + x → a ≤ b
    lesser a b x y z e f = omega arith

pub step_odd : (g : Graph) (s : Step) (h : Graph) → WellFormed g → IsStep g s h → odd_phases h ≤ odd_phases g
step_odd g (LocalComplement u) h w c = le_of_eq (odd-complement g u h w c)
step_odd g (Delete u) h w c = le_of_eq (odd-delete g u h w c)
step_odd g (Pivot u v) h w c = le_of_eq (odd-pivot g u v h w c)
step_odd g (SplitInput b) h w c = le_of_eq (odd-split g h _ c.vertices)
step_odd g (SplitOutput b) h w c = le_of_eq (odd-split g h _ c.vertices)
step_odd g (DropLone u) h w c = with_more _ _ _ (odd-drop g u h w c)
  where
    with_more : (a b x : ℕ) → a + x ≡ b → a ≤ b
    with_more a b x e = omega arith
step_odd g (FuseInto u) h w c = fewer g h u c.into (odd-fuse_into g u h w c)
step_odd g (FuseTwin u v) h w c = fewer g h v u (odd-fuse_twin g u v h w c)

pub run_odd : (g : Graph) (steps : List Step) (h : Graph) → WellFormed g → IsRun g steps h → odd_phases h ≤ odd_phases g
run_odd g [] h w r = le_of_eq (ap odd_phases (sym r))
run_odd g (s ∷ steps) h w r = both_steps _ _ _ (run_odd r.0 steps h (step_kept g s r.0 w r.1) r.2) (step_odd g s r.0 w r.1)
  where
    both_steps : (a b c : ℕ) → a ≤ b → b ≤ c → a ≤ c
    both_steps a b c p q = omega arith

pub step_allowed : (g : Graph) (s : Step) (h : Graph) → WellFormed g → IsStep g s h → allowed g s ≡ true
step_allowed g (LocalComplement u) h w c = both _ _ c.there (interior_true g u c.interior)
step_allowed g (Delete u) h w c = deletable_to g u c.deletable
step_allowed g (Pivot u v) h w c = both _ _ (both _ _ c.there c.there_too) (both _ _ (both _ _ (interior_true g u c.interior) (interior_true g v c.interior_too)) c.adjacent)
step_allowed g (SplitInput b) h w c = c.has_input
step_allowed g (SplitOutput b) h w c = c.has_output
step_allowed g (DropLone u) h w c = both _ _ (both _ _ c.there (ap is_YZ c.plane)) (ap is_empty (filter-none (joined g.edges u) (ids g.vertices) c.lone))
step_allowed g (FuseInto u) h w c = both _ _ (both _ _ c.there (ap is_YZ c.plane)) (ap (is_one_XY g) (neighbours_into g u h w c) ∙ ap is_XY c.into_plane)
step_allowed g (FuseTwin u v) h w c =
    both _ _
    (both _ _ (both _ _ c.there c.there_too) (both _ _ (ap not (ne_eqb u v c.different)) (both _ _ (ap is_YZ c.plane) (ap is_YZ c.plane_too))))
    (both _ _ (ap not c.not_adjacent) (equal_everywhere (joined g.edges u) (joined g.edges v) (ids g.vertices) c.equal_neighbours))

split_result : (g : Graph) (b new : ℕ) (h : Graph) (inputs outputs : List End) → WellFormed h → h.vertices ≡ split_vertices g new → ((p q : ℕ) → joined h.edges p q ≡ (joined g.edges p q || is_pair b new p q)) → h.inputs ≡ inputs → h.outputs ≡ outputs →
    h ≡ record { vertices = split_vertices g new; edges = split_edges g b new; inputs = inputs; outputs = outputs }
split_result g b new h inputs outputs w vertices edges ins outs =
    graph_is h _ _ inputs outputs vertices (edges_are h _ w (split_symmetric g b new) (λ p q n s t. edges p q)) ins outs

-- what a step makes is what the program makes
pub step_result : (g : Graph) (s : Step) (h : Graph) → WellFormed g → IsStep g s h → h ≡ after s g
step_result g (LocalComplement u) h w c =
    graph_is h _ _ g.inputs g.outputs c.vertices
    (edges_are h (λ p q. xor (joined g.edges p q) (joined g.edges u p && joined g.edges u q)) (step_kept g (LocalComplement u) h w c) (complement_symmetric g u) (λ p q n s t. c.edges p q n)) c.frame.inputs c.frame.outputs
step_result g (Delete u) h w c =
    graph_is h _ _ g.inputs g.outputs c.vertices
    (edges_are h (joined g.edges) (step_kept g (Delete u) h w c) (joined_comm g.edges)
    (λ p q n s t. c.edges p q (gone (delete_kind (phase_of g u) (joined g.edges u)) u g.vertices h.vertices p c.vertices s) (gone (delete_kind (phase_of g u) (joined g.edges u)) u g.vertices h.vertices q c.vertices t))) c.frame.inputs c.frame.outputs
step_result g (Pivot u v) h w c =
    graph_is h _ _ g.inputs g.outputs c.vertices
    (edges_are h (pivot_adjacent (joined g.edges) u v) (step_kept g (Pivot u v) h w c) (pivot_symmetric (joined g.edges) u v apart (joined_comm g.edges)) (λ p q n s t. pivot_law g u v h c apart p q n)) c.frame.inputs c.frame.outputs
  where
    apart : u ≢ v
    apart e = true≢false (sym c.adjacent ∙ ap (joined g.edges u) (sym e) ∙ no_loop g u w)
step_result g (SplitInput b) h w c = split_result g b _ h _ _ (step_kept g (SplitInput b) h w c) c.vertices c.edges c.inputs c.outputs
step_result g (SplitOutput b) h w c = split_result g b _ h _ _ (step_kept g (SplitOutput b) h w c) c.vertices c.edges c.inputs c.outputs
step_result g (DropLone u) h w c =
    graph_is h _ _ g.inputs g.outputs c.vertices
    (edges_are h (joined g.edges) (step_kept g (DropLone u) h w c) (joined_comm g.edges) (λ p q n s t. c.edges p q (gone_plain u g.vertices h.vertices p c.vertices s) (gone_plain u g.vertices h.vertices q c.vertices t))) c.frame.inputs c.frame.outputs
step_result g (FuseInto u) h w c =
    graph_is h _ _ g.inputs g.outputs
    (c.vertices ∙ ap (λ v. with_kinds (fuse_kind v (phase_of g u)) (without u g.vertices)) (sym (ap first_of_list (neighbours_into g u h w c))))
    (edges_are h (joined g.edges) (step_kept g (FuseInto u) h w c) (joined_comm g.edges)
    (λ p q n s t. c.edges p q (gone (fuse_kind c.into (phase_of g u)) u g.vertices h.vertices p c.vertices s) (gone (fuse_kind c.into (phase_of g u)) u g.vertices h.vertices q c.vertices t))) c.frame.inputs c.frame.outputs
step_result g (FuseTwin u v) h w c =
    graph_is h _ _ g.inputs g.outputs c.vertices
    (edges_are h (joined g.edges) (step_kept g (FuseTwin u v) h w c) (joined_comm g.edges)
    (λ p q n s t. c.edges p q (gone (fuse_kind u (phase_of g v)) v g.vertices h.vertices p c.vertices s) (gone (fuse_kind u (phase_of g v)) v g.vertices h.vertices q c.vertices t))) c.frame.inputs c.frame.outputs

-- a step can be done where it is allowed
pub after_step : (g : Graph) (s : Step) → WellFormed g → allowed g s ≡ true → IsStep g s (after s g)
after_step g (LocalComplement u) w h = after_complement g w u h
after_step g (Delete u) w h = after_delete g w u h
after_step g (Pivot u v) w h = after_pivot g w u v h
after_step g (SplitInput b) w h = after_split_input g w b h _ (least_free-fresh (ids g.vertices) w.vertices_rising)
after_step g (SplitOutput b) w h = after_split_output g w b h _ (least_free-fresh (ids g.vertices) w.vertices_rising)
after_step g (DropLone u) w h = after_drop g w u h
after_step g (FuseInto u) w h = after_fuse_into g w u h
after_step g (FuseTwin u v) w h = after_fuse_twin g w u v h

-- so a run has one end
pub run_result : (g : Graph) (steps : List Step) (h k : Graph) → WellFormed g → IsRun g steps h → IsRun g steps k → h ≡ k
run_result g [] h k w r q = sym r ∙ q
run_result g (s ∷ steps) h k w r q =
    run_result r.0 steps h k (step_kept g s r.0 w r.1) r.2
    (subst (λ l. IsRun l steps k) (step_result g s q.0 w q.1 ∙ sym (step_result g s r.0 w r.1)) q.2)

pub fuse_twin_sum_comm : (g : Graph) (u v : ℕ) (h k : Graph) (x y : List Bool) → WellFormed g → IsFuseTwin g u v h → IsFuseTwin g v u k → length x ≡ length g.inputs → length y ≡ length g.outputs → graph_sum h x y ≡ graph_sum k x y
fuse_twin_sum_comm g u v h k x y w c d m n =
    mul_left_cancel two (graph_sum h x y) (graph_sum k x y) two_nonzero
    (sym (step_sum g (FuseTwin u v) h x y w c m n) ∙ step_sum g (FuseTwin v u) k x y w d m n)
