-- Moves one after the other are a run, of at most six rewrites each.
use Rattle.std.proofs.Common.{◌≡◌, refl, sym, ◌∙◌, ap, subst, ℕ, zero, suc, ◌+◌, ◌*◌, ◌≤◌, Bool, true, false, if◌then◌else◌, List, [], ◌∷◌, ◌++◌, length, append_assoc, length-append, arith}
use Rattle.std.proofs.lemmas.List.{append-nil}
use Rattle.std.proofs.Math.Numerals.{add-one}
use Rattle.zx_model.specs.Phase.{is_half_turns, is_quarter_turn}
use Rattle.zx_calculus.specs.Graph.{Graph, phase_of}
use Rattle.zx_calculus.specs.Counts.{has_input, has_output}
use Rattle.zx_calculus.specs.Steps as calculus
use Rattle.zx_calculus.specs.Steps.{IsRun}
use Rattle.zx_calculus.proofs.Steps.{run_inputs_kept, run_outputs_kept}
use Rattle.zx_moves.specs.declared.moves.Move.{Move}
use Rattle.zx_moves.specs.declared.moves.Move.TheVariants as moves
use Rattle.zx_moves.specs.Moving.{splits_of, removal_of, steps_of, IsMoved, AreMoves}

-- ---- runs
pub IsRun-append : (g : Graph) (first second : List calculus.Step) (k h : Graph)
    → IsRun g first k → IsRun k second h → IsRun g (first ++ second) h
IsRun-append g [] second k h r s = subst (λ x. IsRun x second h) (sym r) s
IsRun-append g (step ∷ first) second k h r s = (r.0, r.1, IsRun-append r.0 first second k h r.2 s)

-- a run of two lists stops between them
pub IsRun-split : (g : Graph) (first second : List calculus.Step) (h : Graph)
    → IsRun g (first ++ second) h → (k : Graph) × IsRun g first k × IsRun k second h
IsRun-split g [] second h r = (g, refl, r)
IsRun-split g (step ∷ first) second h r =
    let later = IsRun-split r.0 first second h r.2 in (later.0, (r.0, r.1, later.1), later.2)

pub ends-run : (g : Graph) (steps : List calculus.Step) (h : Graph) → IsRun g steps h
    → (length h.inputs ≡ length g.inputs) × (length h.outputs ≡ length g.outputs)
ends-run g steps h r = (run_inputs_kept g steps h r, run_outputs_kept g steps h r)

-- ---- lengths
length-splits_of : (g : Graph) (b : ℕ) → length (splits_of g b) ≤ 2
length-splits_of g b = at_most (has_input g b) (has_output g b)
  where
    at_most : (i o : Bool)
        → length ((if i then calculus.SplitInput b ∷ [] else []) ++ (if o then calculus.SplitOutput b ∷ [] else [])) ≤ 2
    at_most true true = omega arith
    at_most true false = omega arith
    at_most false true = omega arith
    at_most false false = omega arith

length-removal_of : (phase b : ℕ) → length (removal_of phase b) ≤ 2
length-removal_of phase b = at_most (is_half_turns phase) (is_quarter_turn phase)
  where
    at_most : (half quarter : Bool)
        → length (if half then calculus.Delete b ∷ []
        else if quarter then calculus.LocalComplement b ∷ calculus.Delete b ∷ [] else []) ≤ 2
    at_most true quarter = omega arith
    at_most false true = omega arith
    at_most false false = omega arith

-- a move is made of one to six rewrites
steps_of-count : (g : Graph) (m : Move) → (1 ≤ length (steps_of g m)) × (length (steps_of g m) ≤ 6)
steps_of-count g (moves.Delete u) = (omega arith, omega arith)
steps_of-count g (moves.QuarterGadget u) = (omega arith, omega arith)
steps_of-count g (moves.FromXZ u) = (omega arith, omega arith)
steps_of-count g (moves.QuarterSpider u) = (omega arith, omega arith)
steps_of-count g (moves.InnerPivot u v) = (omega arith, omega arith)
steps_of-count g (moves.BoundaryPivot u b) =
    together _ _ _
    (length-append (splits_of g b) (calculus.Pivot u b ∷ calculus.Delete u ∷ removal_of (phase_of g b) b))
    (length-splits_of g b) (length-removal_of (phase_of g b) b)
  where
    together : (n k l : ℕ) → n ≡ k + suc (suc l) → k ≤ 2 → l ≤ 2 → (1 ≤ n) × (n ≤ 6)
    together n k l e f h = (omega arith, omega arith)
steps_of-count g (moves.GadgetPair u v) = (omega arith, omega arith)
steps_of-count g (moves.LoneGadget u) = (omega arith, omega arith)
steps_of-count g (moves.SingleGadget u) = (omega arith, omega arith)
steps_of-count g (moves.Twins u v) = (omega arith, omega arith)

pub steps_of-some : (g : Graph) (m : Move) → 1 ≤ length (steps_of g m)
steps_of-some g m = (steps_of-count g m).0

pub length-steps_of : (g : Graph) (m : Move) → length (steps_of g m) ≤ 6
length-steps_of g m = (steps_of-count g m).1

-- ---- moves
pub AreMoves-run : (g : Graph) (n : ℕ) (steps : List calculus.Step) (h : Graph) → AreMoves g n steps h → IsRun g steps h
AreMoves-run g zero steps h a = subst (λ s. IsRun g s h) (sym a.0) a.1
AreMoves-run g (suc n) steps h a =
    subst (λ s. IsRun g s h) (sym a.4)
    (IsRun-append g (steps_of g a.0) a.2 a.1 h a.3.run (AreMoves-run a.1 n a.2 h a.5))

AreMoves-one_more : (g : Graph) (n : ℕ) (steps : List calculus.Step) (k : Graph) (m : Move) (h : Graph)
    → AreMoves g n steps k → IsMoved k m h → AreMoves g (suc n) (steps ++ steps_of k m) h
AreMoves-one_more g zero steps k m h a moved = (
  m,
  h,
  [],
  subst (λ x. IsMoved x m h) (sym a.1) moved,
  ap (λ s. s ++ steps_of k m) a.0 ∙ ap (λ x. steps_of x m) (sym a.1) ∙ sym (append-nil (steps_of g m)),
  (refl, refl),
)
AreMoves-one_more g (suc n) steps k m h a moved = (
  a.0,
  a.1,
  a.2 ++ steps_of k m,
  a.3,
  ap (λ s. s ++ steps_of k m) a.4 ∙ append_assoc (steps_of g a.0) a.2 (steps_of k m),
  AreMoves-one_more a.1 n a.2 k m h a.5 moved,
)

-- one move more
pub AreMoves-snoc : (g : Graph) (n : ℕ) (steps : List calculus.Step) (k : Graph) (m : Move) (h : Graph)
    → AreMoves g n steps k → IsMoved k m h → AreMoves g (n + 1) (steps ++ steps_of k m) h
AreMoves-snoc g n steps k m h a moved =
    subst (λ i. AreMoves g i (steps ++ steps_of k m) h) (sym (add-one n)) (AreMoves-one_more g n steps k m h a moved)

pub length-AreMoves : (g : Graph) (n : ℕ) (steps : List calculus.Step) (h : Graph) → AreMoves g n steps h
    → length steps ≤ 6 * n
length-AreMoves g zero steps h a = subst (λ s. length s ≤ 6 * 0) (sym a.0) (omega arith)
length-AreMoves g (suc n) steps h a =
    together _ _ _ _ (ap length a.4 ∙ length-append (steps_of g a.0) a.2) (length-steps_of g a.0)
    (length-AreMoves a.1 n a.2 h a.5)
  where
    together : (l k r n : ℕ) → l ≡ k + r → k ≤ 6 → r ≤ 6 * n → l ≤ 6 * suc n
    together l k r n e f h = omega arith
