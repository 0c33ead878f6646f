-- Each move lowers the number that bounds the moves.
use Rattle.std.proofs.Common.{◌≡◌, refl, sym, ◌∙◌, ap, subst, ℕ, zero, suc, ◌+◌, ◌*◌, ◌<◌, ◌≤◌, Bool, true, false, if◌then◌else◌, not, ◌&&◌, List, [], ◌∷◌, ◌++◌, length, true≢false, arith, filter}
use Rattle.std.proofs.lemmas.List.Filters.{length-filter_both}
use Rattle.zx_calculus.proofs.ReducedLemmas.{counts_within}
use Rattle.zx_model.specs.Phase.{turn, is_odd, is_half_turns, is_quarter_turn}
use Rattle.zx_model.specs.Bits.{member, one_if}
use Rattle.zx_model.proofs.Phases.{odd_otherwise}
use Rattle.zx_calculus.specs.Graph.{XY, XZ, YZ, Vertex, Graph, ids, end_vertices, is_XY, kind_of, plane_of, phase_of, IsVertex, WellFormed, is_YZ, is_interior, is_XZ}
use Rattle.zx_calculus.specs.Complements.{IsLocalComplement}
use Rattle.zx_calculus.specs.Deletions.{IsDelete}
use Rattle.zx_calculus.specs.Pivots.{IsPivot}
use Rattle.zx_calculus.specs.Splits.{spider_of_phase_zero, new_vertex}
use Rattle.zx_calculus.specs.Gadgets.{IsDropLone, IsFuseInto, IsFuseTwin}
use Rattle.zx_calculus.specs.Counts.{not_XY, has_input, has_output, is_odd_at, is_even_at, is_odd_fused}
use Rattle.zx_calculus.specs.Steps as calculus
use Rattle.zx_calculus.specs.Steps.{IsRun, IsStep}
use Rattle.zx_calculus.proofs.Ids.{apart_of_member}
use Rattle.zx_calculus.proofs.Splitting.{distinct, all_at}
use Rattle.zx_calculus.proofs.Steps.{step_kept, run_kept}
use Rattle.zx_calculus.proofs.Kept.{kind_of-insert_other}
use Rattle.zx_calculus.proofs.Counting.{phases_below}
use Rattle.zx_calculus.proofs.CountLemmas.{count, count_same}
use Rattle.zx_calculus.proofs.ReducedLemmas.{counts_within}
use Rattle.zx_calculus.proofs.Complements.{odd-complement, even-complement, planes-complement}
use Rattle.zx_calculus.proofs.Pivots.{odd-pivot, even-pivot, planes-pivot}
use Rattle.zx_calculus.proofs.Deletions.{odd-delete, even-delete, planes-delete}
use Rattle.zx_calculus.proofs.Gadgets.{odd-drop, even-drop, planes-drop, odd-fuse_into, even-fuse_into, planes-fuse_into, odd-fuse_twin, even-fuse_twin, planes-fuse_twin}
use Rattle.zx_calculus.proofs.Splits.{odd-split, planes-split, even-split_input, even-split_output}
use Rattle.zx_moves.specs.declared.moves.Move.{Move}
use Rattle.zx_moves.specs.declared.moves.Move.TheVariants as moves
use Rattle.zx_moves.specs.Search.{AppliesAt}
use Rattle.zx_moves.specs.Moving.{splits_of, removal_of, steps_of, most_moves, AreMoves}
use Rattle.zx_moves.proofs.MoveRuns.{IsRun-split}

one_at_most : (b : Bool) → one_if b ≤ 1
one_at_most true = omega arith
one_at_most false = omega arith

either_one : (b : Bool) → one_if b + one_if (not b) ≡ 1
either_one true = refl
either_one false = refl

-- ---- local complement and deletion
delete_falls : (g : Graph) (u : ℕ) (h : Graph) → WellFormed g → IsDelete g u h → most_moves h + 3 ≡ most_moves g
delete_falls g u h w d = falls _ _ _ _ _ _ (even-delete g u h w d) (planes-delete g u h w d) (odd-delete g u h w d)
  where
    falls : (e e' p p' o o' : ℕ) → e' + 1 ≡ e → p' + 1 ≡ p → o' ≡ o → (2 * e' + p' + 2 * o') + 3 ≡ 2 * e + p + 2 * o
    falls e e' p p' o o' x y z = omega arith

-- a local complement raises the number by one where its vertex is XY, and lowers it by one where that is XZ
complement_changes : (g : Graph) (u : ℕ) (h : Graph) → WellFormed g → IsLocalComplement g u h
    → most_moves h + one_if (is_XZ (plane_of g u)) ≡ most_moves g + one_if (is_XY (plane_of g u))
complement_changes g u h w c =
    changes _ _ _ _ _ _ _ _ (even-complement g u h w c) (planes-complement g u h w c) (odd-complement g u h w c)
  where
    changes : (e e' p p' o o' x y : ℕ) → e' ≡ e → p' + x ≡ p + y → o' ≡ o
        → (2 * e' + p' + 2 * o') + x ≡ (2 * e + p + 2 * o) + y
    changes e e' p p' o o' x y r s t = omega arith

complement_delete_falls : (g : Graph) (u : ℕ) (h : Graph) → WellFormed g
    → IsRun g (calculus.LocalComplement u ∷ calculus.Delete u ∷ []) h → most_moves h < most_moves g
complement_delete_falls g u h w (k, c, (l, d, same)) =
    subst (λ x. most_moves x < most_moves g) same
    (falls _ _ _ _ _ (complement_changes g u k w c) (one_at_most (is_XY (plane_of g u)))
    (delete_falls k u l (step_kept g (calculus.LocalComplement u) k w c) d))
  where
    falls : (m n l x y : ℕ) → n + x ≡ m + y → y ≤ 1 → l + 3 ≡ n → l < m
    falls m n l x y e f h = omega arith

from_XZ_falls : (g : Graph) (u : ℕ) (h : Graph) → WellFormed g → plane_of g u ≡ XZ → IsLocalComplement g u h
    → most_moves h < most_moves g
from_XZ_falls g u h w plane c =
    falls _ _ _ _ (complement_changes g u h w c) (ap (λ p. one_if (is_XZ p)) plane) (ap (λ p. one_if (is_XY p)) plane)
  where
    falls : (m n x y : ℕ) → n + x ≡ m + y → x ≡ 1 → y ≡ 0 → n < m
    falls m n x y e f h = omega arith

-- ---- pivots
pivot_changes : (g : Graph) (u v : ℕ) (h : Graph) → WellFormed g → IsPivot g u v h
    → most_moves h + one_if (is_YZ (plane_of g u)) + one_if (is_YZ (plane_of g v))
    ≡ most_moves g + one_if (is_XY (plane_of g u)) + one_if (is_XY (plane_of g v))
pivot_changes g u v h w c =
    changes _ _ _ _ _ _ _ _ _ _ (even-pivot g u v h w c) (planes-pivot g u v h w c) (odd-pivot g u v h w c)
  where
    changes : (e e' p p' o o' x x' y y' : ℕ) → e' ≡ e → p' + x + x' ≡ p + y + y' → o' ≡ o
        → (2 * e' + p' + 2 * o') + x + x' ≡ (2 * e + p + 2 * o) + y + y'
    changes e e' p p' o o' x x' y y' r s t = omega arith

-- a pivot raises the number by two at most
pivot_delete_falls : (g : Graph) (u v : ℕ) (k h : Graph) → WellFormed g → IsPivot g u v k → IsDelete k u h
    → most_moves h + 1 ≤ most_moves g
pivot_delete_falls g u v k h w c d =
    falls _ _ _ _ _ _ _ (pivot_changes g u v k w c)
    (one_at_most (is_XY (plane_of g u))) (one_at_most (is_XY (plane_of g v)))
    (delete_falls k u h (step_kept g (calculus.Pivot u v) k w c) d)
  where
    falls : (m n l x x' y y' : ℕ) → n + x + x' ≡ m + y + y' → y ≤ 1 → y' ≤ 1 → l + 3 ≡ n → l + 1 ≤ m
    falls m n l x x' y y' e f g h = omega arith

gadget_pair_falls : (g : Graph) (u v : ℕ) (h : Graph) → WellFormed g → plane_of g u ≡ YZ → plane_of g v ≡ YZ
    → IsPivot g u v h → most_moves h < most_moves g
gadget_pair_falls g u v h w plane plane' c =
    falls _ _ _ _ _ _ (pivot_changes g u v h w c) (ap (λ p. one_if (is_YZ p)) plane) (ap (λ p. one_if (is_XY p)) plane)
    (ap (λ p. one_if (is_XY p)) plane')
  where
    falls : (m n x x' y y' : ℕ) → n + x + x' ≡ m + y + y' → x ≡ 1 → y ≡ 0 → y' ≡ 0 → n < m
    falls m n x x' y y' e f g h = omega arith

-- ---- gadgets
drop_falls : (g : Graph) (u : ℕ) (h : Graph) → WellFormed g → IsDropLone g u h → most_moves h < most_moves g
drop_falls g u h w d =
    falls _ _ _ _ _ _ (is_odd_at g u) (even-drop g u h w d) (planes-drop g u h w d) (odd-drop g u h w d)
  where
    falls : (e e' p p' o o' : ℕ) (t : Bool) → e' + one_if (not t) ≡ e → p' + 1 ≡ p → o' + one_if t ≡ o
        → 2 * e' + p' + 2 * o' < 2 * e + p + 2 * o
    falls e e' p p' o o' true x y z = omega arith
    falls e e' p p' o o' false x y z = omega arith

-- u goes, and its phase is added to that of v, which is interior or not; it doesn't matter which of the phases are odd
fusing_falls : (e e' p p' o o' : ℕ) (inside odd_u odd_v fused : Bool)
    → e' + one_if (not odd_u) + one_if (inside && not odd_v) ≡ e + one_if (inside && not fused)
    → p' + 1 ≡ p → o' + one_if odd_u + one_if odd_v ≡ o + one_if fused → 2 * e' + p' + 2 * o' < 2 * e + p + 2 * o
fusing_falls e e' p p' o o' true odd_u odd_v fused x y z =
    falls _ _ _ _ _ _ (either_one odd_u) (either_one odd_v) (either_one fused) x z
  where
    falls : (a a' b b' f f' : ℕ) → a + a' ≡ 1 → b + b' ≡ 1 → f + f' ≡ 1 → e' + a' + b' ≡ e + f' → o' + a + b ≡ o + f
        → 2 * e' + p' + 2 * o' < 2 * e + p + 2 * o
    falls a a' b b' f f' q r s t u = omega (arith, y)
fusing_falls e e' p p' o o' false odd_u odd_v fused x y z =
    falls _ _ _ _ (either_one odd_u) (one_at_most fused) x z
  where
    falls : (a a' b f : ℕ) → a + a' ≡ 1 → f ≤ 1 → e' + a' + 0 ≡ e + 0 → o' + a + b ≡ o + f
        → 2 * e' + p' + 2 * o' < 2 * e + p + 2 * o
    falls a a' b f q r t u = omega (arith, y)

fuse_into_falls : (g : Graph) (u : ℕ) (h : Graph) → WellFormed g → IsFuseInto g u h → most_moves h < most_moves g
fuse_into_falls g u h w c =
    fusing_falls _ _ _ _ _ _ (is_interior g c.into) (is_odd_at g u) (is_odd_at g c.into) (is_odd_fused g u c.into)
    (even-fuse_into g u h w c) (planes-fuse_into g u h w c) (odd-fuse_into g u h w c)

fuse_twin_falls : (g : Graph) (u v : ℕ) (h : Graph) → WellFormed g → IsFuseTwin g u v h → most_moves h < most_moves g
fuse_twin_falls g u v h w c =
    fusing_falls _ _ _ _ _ _ true (is_odd_at g v) (is_odd_at g u) (is_odd_fused g v u)
    (even-fuse_twin g u v h w c) (planes-fuse_twin g u v h w c) (odd-fuse_twin g u v h w c)

-- ---- the boundary move
-- where splits raise the number by `raised` at most, what is left of the move lowers it by more
module _ (u b : ℕ) (h : Graph) where
  removed_falls : (g : Graph) (phase : ℕ) → WellFormed g → phase < turn → IsRun g (removal_of phase b) h
      → most_moves h + 2 * one_if (not (is_odd phase)) ≤ most_moves g
  removed_falls g phase w below r = by_phase (is_half_turns phase) (is_quarter_turn phase) refl refl r
    where
      unchanged : (m n : ℕ) (odd : Bool) → odd ≡ true → n ≡ m → n + 2 * one_if (not odd) ≤ m
      unchanged m n true h e = omega arith
      unchanged m n false h e = absurd (true≢false (sym h))

      at_once : (m n : ℕ) (odd : Bool) → n + 3 ≡ m → n + 2 * one_if (not odd) ≤ m
      at_once m n true e = omega arith
      at_once m n false e = omega arith

      after_complement : (m k n x y : ℕ) (odd : Bool) → k + x ≡ m + y → y ≤ 1 → n + 3 ≡ k → n + 2 * one_if (not odd) ≤ m
      after_complement m k n x y true e f h = omega arith
      after_complement m k n x y false e f h = omega arith

      by_phase : (half quarter : Bool) → is_half_turns phase ≡ half → is_quarter_turn phase ≡ quarter
          → IsRun g (if half then calculus.Delete b ∷ []
          else if quarter then calculus.LocalComplement b ∷ calculus.Delete b ∷ [] else []) h
          → most_moves h + 2 * one_if (not (is_odd phase)) ≤ most_moves g
      by_phase true quarter e f (k, d, same) =
          at_once (most_moves g) (most_moves h) (is_odd phase)
          (subst (λ x. most_moves x + 3 ≡ most_moves g) same (delete_falls g b k w d))
      by_phase false true e f (k, c, (l, d, same)) =
          after_complement _ _ _ _ _ (is_odd phase) (complement_changes g b k w c) (one_at_most (is_XY (plane_of g b)))
          (subst (λ x. most_moves x + 3 ≡ most_moves k) same
          (delete_falls k b l (step_kept g (calculus.LocalComplement b) k w c) d))
      by_phase false false e f same =
          unchanged (most_moves g) (most_moves h) (is_odd phase) (odd_otherwise phase below e f)
          (ap most_moves (sym same))

  -- after the splits
  rest_falls : (g : Graph) (phase : ℕ) → WellFormed g → phase < turn
      → IsRun g (calculus.Pivot u b ∷ calculus.Delete u ∷ removal_of phase b) h
      → most_moves h + 1 + 2 * one_if (not (is_odd phase)) ≤ most_moves g
  rest_falls g phase w below (k, c, (l, d, r)) =
      together _ _ _ _
      (removed_falls l phase (step_kept k (calculus.Delete u) l (step_kept g (calculus.Pivot u b) k w c) d) below r)
      (pivot_delete_falls g u b k l w c d)
    where
      together : (m l n t : ℕ) → n + 2 * t ≤ l → l + 1 ≤ m → n + 1 + 2 * t ≤ m
      together m l n t e f = omega arith

split_input_phase : (g : Graph) (b : ℕ) (k : Graph) → WellFormed g → IsStep g (calculus.SplitInput b) k → phase_of k b ≡ phase_of g b
split_input_phase g b k w c =
    ap (λ vs. (kind_of vs b).phase) c.vertices
    ∙ ap (λ kind. kind.phase) (kind_of-insert_other b (spider_of_phase_zero (new_vertex g)) g.vertices
    (apart_of_member b _ (ids g.vertices)
    (all_at (λ p. member p (ids g.vertices)) (end_vertices g.inputs) b w.inputs.there c.has_input) c.fresh))

-- a split raises the number by two at most, and not at all where its vertex keeps an end
split_input_rises : (g : Graph) (b : ℕ) (k : Graph) → WellFormed g → IsStep g (calculus.SplitInput b) k
    → most_moves k ≡ most_moves g + 2 * one_if (not (has_output g b) && is_even_at g b)
split_input_rises g b k w c =
    rises _ _ _ _ _ _ _ (even-split_input g b _ k w c) (planes-split g k _ c.vertices) (odd-split g k _ c.vertices)
  where
    rises : (e e' p p' o o' x : ℕ) → e' ≡ e + x → p' ≡ p → o' ≡ o → 2 * e' + p' + 2 * o' ≡ (2 * e + p + 2 * o) + 2 * x
    rises e e' p p' o o' x r s t = omega arith

split_output_rises : (g : Graph) (b : ℕ) (k : Graph) → WellFormed g → IsStep g (calculus.SplitOutput b) k
    → most_moves k ≤ most_moves g + 2 * one_if (is_even_at g b)
split_output_rises g b k w c =
    rises _ _ _ _ _ _ (has_input g b) (is_even_at g b) (even-split_output g b _ k w c) (planes-split g k _ c.vertices)
    (odd-split g k _ c.vertices)
  where
    rises : (e e' p p' o o' : ℕ) (i t : Bool) → e' ≡ e + one_if (not i && t) → p' ≡ p → o' ≡ o
        → 2 * e' + p' + 2 * o' ≤ (2 * e + p + 2 * o) + 2 * one_if t
    rises e e' p p' o o' true t r s q = omega arith
    rises e e' p p' o o' false t r s q = omega arith

splits_rise : (g : Graph) (b : ℕ) (k : Graph) → WellFormed g → IsRun g (splits_of g b) k
    → most_moves k ≤ most_moves g + 2 * one_if (is_even_at g b)
splits_rise g b k w r = by_ends (has_input g b) (has_output g b) refl r
  where
    none : (m n x : ℕ) → n ≡ m → n ≤ m + 2 * x
    none m n x e = omega arith

    input_alone : (m n : ℕ) (t : Bool) → n ≡ m + 2 * one_if (not false && t) → n ≤ m + 2 * one_if t
    input_alone m n t e = omega arith

    both : (m l n x y : ℕ) → l ≡ m + 2 * 0 → n ≤ l + 2 * x → x ≡ y → n ≤ m + 2 * y
    both m l n x y e f s = omega arith

    by_ends : (i o : Bool) → has_output g b ≡ o
        → IsRun g ((if i then calculus.SplitInput b ∷ [] else []) ++ (if o then calculus.SplitOutput b ∷ [] else [])) k
        → most_moves k ≤ most_moves g + 2 * one_if (is_even_at g b)
    by_ends false false e same = none (most_moves g) (most_moves k) (one_if (is_even_at g b)) (ap most_moves (sym same))
    by_ends false true e (l, c, same) =
        subst (λ x. most_moves x ≤ most_moves g + 2 * one_if (is_even_at g b)) same (split_output_rises g b l w c)
    by_ends true false e (l, c, same) =
        subst (λ x. most_moves x ≤ most_moves g + 2 * one_if (is_even_at g b)) same
        (input_alone (most_moves g) (most_moves l) (is_even_at g b)
        (subst (λ o. most_moves l ≡ most_moves g + 2 * one_if (not o && is_even_at g b)) e
        (split_input_rises g b l w c)))
    by_ends true true e (l, c, (l', c', same)) =
        subst (λ x. most_moves x ≤ most_moves g + 2 * one_if (is_even_at g b)) same
        (both (most_moves g) (most_moves l) (most_moves l') (one_if (is_even_at l b)) (one_if (is_even_at g b))
        (subst (λ o. most_moves l ≡ most_moves g + 2 * one_if (not o && is_even_at g b)) e
        (split_input_rises g b l w c))
        (split_output_rises l b l' (step_kept g (calculus.SplitInput b) l w c) c')
        (ap (λ p. one_if (not (is_odd p))) (split_input_phase g b l w c)))

boundary_falls : (g : Graph) (u b : ℕ) (h : Graph) → WellFormed g → IsRun g (steps_of g (moves.BoundaryPivot u b)) h
    → most_moves h < most_moves g
boundary_falls g u b h w r =
    let halves =
    IsRun-split g (splits_of g b) (calculus.Pivot u b ∷ calculus.Delete u ∷ removal_of (phase_of g b) b) h r in
    falls _ _ _ _ (splits_rise g b halves.0 w halves.1)
    (rest_falls u b h halves.0 (phase_of g b) (run_kept g (splits_of g b) halves.0 w halves.1) (phases_below g w b)
    halves.2)
  where
    falls : (m k n x : ℕ) → k ≤ m + 2 * x → n + 1 + 2 * x ≤ k → n < m
    falls m k n x e f = omega arith

-- ---- all kinds
pub most_moves-move : (g h : Graph) (m : Move) → WellFormed g → AppliesAt g m → IsRun g (steps_of g m) h
    → most_moves h < most_moves g
most_moves-move g h (moves.Delete u) w a (k, d, same) =
    subst (λ x. most_moves x < most_moves g) same (less _ _ (delete_falls g u k w d))
  where
    less : (m n : ℕ) → n + 3 ≡ m → n < m
    less m n e = omega arith
most_moves-move g h (moves.QuarterGadget u) w a r = complement_delete_falls g u h w r
most_moves-move g h (moves.FromXZ u) w a (k, c, same) =
    subst (λ x. most_moves x < most_moves g) same (from_XZ_falls g u k w a.plane c)
most_moves-move g h (moves.QuarterSpider u) w a r = complement_delete_falls g u h w r
most_moves-move g h (moves.InnerPivot u v) w a (k, c, (l, d, same)) =
    subst (λ x. most_moves x < most_moves g) same (less _ _ (pivot_delete_falls g u v k l w c d))
  where
    less : (m n : ℕ) → n + 1 ≤ m → n < m
    less m n e = omega arith
most_moves-move g h (moves.BoundaryPivot u b) w a r = boundary_falls g u b h w r
most_moves-move g h (moves.GadgetPair u v) w a (k, c, same) =
    subst (λ x. most_moves x < most_moves g) same (gadget_pair_falls g u v k w a.plane a.plane_too c)
most_moves-move g h (moves.LoneGadget u) w a (k, c, same) =
    subst (λ x. most_moves x < most_moves g) same (drop_falls g u k w c)
most_moves-move g h (moves.SingleGadget u) w a (k, c, same) =
    subst (λ x. most_moves x < most_moves g) same (fuse_into_falls g u k w c)
most_moves-move g h (moves.Twins u v) w a (k, c, same) =
    subst (λ x. most_moves x < most_moves g) same (fuse_twin_falls g u v k w c)

pub AreMoves-few : (g : Graph) (n : ℕ) (steps : List calculus.Step) (h : Graph) → WellFormed g → AreMoves g n steps h
    → n + most_moves h ≤ most_moves g
AreMoves-few g zero steps h w a = none (most_moves g) (most_moves h) (ap most_moves (sym a.1))
  where
    none : (m n : ℕ) → n ≡ m → 0 + n ≤ m
    none m n e = omega arith
AreMoves-few g (suc n) steps h w a =
    together _ _ _ _ (AreMoves-few a.1 n a.2 h (run_kept g (steps_of g a.0) a.1 w a.3.run) a.5)
    (most_moves-move g a.1 a.0 w a.3.applies a.3.run)
  where
    together : (m k l n : ℕ) → n + l ≤ k → k < m → suc n + l ≤ m
    together m k l n e f = omega arith

-- ---- where a graph begins
-- graphs all of whose vertices are XY, as those of circuits
pub not_XY-none : (g : Graph) → WellFormed g → ((v : ℕ) → IsVertex g v → plane_of g v ≡ XY) → not_XY g ≡ 0
not_XY-none g w planes =
    count_same (λ p k. not (is_XY k.plane)) (λ p k. false) g.vertices (distinct g w)
    (λ p there. ap (λ plane. not (is_XY plane)) (planes p there))
    ∙ none g.vertices
  where
    none : (vs : List Vertex) → count (λ p k. false) vs ≡ 0
    none [] = refl
    none (v ∷ vs) = none vs

pub most_moves-translated : (g : Graph) → WellFormed g → ((v : ℕ) → IsVertex g v → plane_of g v ≡ XY)
    → most_moves g ≤ 2 * length g.vertices
most_moves-translated g w planes = within _ _ _ _ (counts_within g w) (not_XY-none g w planes)
  where
    within : (e p o n : ℕ) → e + o ≤ n → p ≡ 0 → 2 * e + p + 2 * o ≤ 2 * n
    within e p o n f h = omega arith

pub AreMoves-translated : (g : Graph) (n : ℕ) (steps : List calculus.Step) (h : Graph) → WellFormed g
    → ((v : ℕ) → IsVertex g v → plane_of g v ≡ XY) → AreMoves g n steps h → n ≤ 2 * length g.vertices
AreMoves-translated g n steps h w planes a =
    within _ _ _ _ (AreMoves-few g n steps h w a) (most_moves-translated g w planes)
  where
    within : (n k m l : ℕ) → n + k ≤ m → m ≤ l → n ≤ l
    within n k m l e f = omega arith

-- a graph with few vertices allows few moves
filter_few : {X : Type 0} (p : X → Bool) (xs : List X) → length (filter p xs) ≤ length xs
filter_few p xs = let both = length-filter_both p (λ x. not (p x)) (λ x. refl) xs in omega (arith, both)

pub most_moves-few : (g : Graph) → WellFormed g → most_moves g ≤ 3 * length g.vertices
most_moves-few g w = few _ _ _ _ (counts_within g w) (filter_few (λ (v : Vertex). not (is_XY v.kind.plane)) g.vertices)
  where
    few : (e o q n : ℕ) → e + o ≤ n → q ≤ n → 2 * e + q + 2 * o ≤ 3 * n
    few e o q n a b = omega (arith, a, b)
