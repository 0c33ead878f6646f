-- How many ids a graph needs, inside a move and over moves.
use Rattle.std.proofs.Common.{◌≡◌, refl, sym, ap, subst, ℕ, zero, suc, ◌+◌, ◌≤◌, Bool, true, false, if◌then◌else◌, not, ◌&&◌, ◌||◌, ne_eqb, true≢false, List, [], ◌∷◌, ◌++◌, length, arith}
use Rattle.std.proofs.lemmas.List.{append-nil}
use Rattle.std.specs.List.{list_all}
use Rattle.zx_model.specs.Phase.{is_half_turns, is_quarter_turn}
use Rattle.zx_model.specs.Bits.{member, one_if}
use Rattle.zx_calculus.specs.Graph.{Graph, Kind, Vertex, End, ids, end_vertices, phase_of, WellFormed}
use Rattle.zx_calculus.specs.Counts.{has_input, has_output}
use Rattle.zx_calculus.specs.Steps as calculus
use Rattle.zx_calculus.specs.Steps.{IsRun}
use Rattle.zx_calculus.proofs.CountLemmas.{Test, count, count-cons, count_same, count_apart}
use Rattle.zx_calculus.proofs.Ids.{by_test, not-true, and-left, and-right, Distinct, apart_of_member}
use Rattle.zx_calculus.proofs.Splitting.{distinct}
use Rattle.zx_calculus.proofs.Steps.{step_kept, run_kept}
use Rattle.move_laws.specs.Demand.{demand, has_both}
use Rattle.move_laws.specs.Orders.{is_split}
use Rattle.move_laws.proofs.DemandLemmas.{no_split, split_input, only_input, only_output, split_both}
use Rattle.zx_moves.specs.declared.moves.Move.{Move}
use Rattle.zx_moves.specs.declared.moves.Move.TheVariants as moves
use Rattle.zx_moves.specs.Moving.{removal_of, steps_of, AreMoves}
use Rattle.flow_rewrites.specs.Internal.Rooms.{StaysWithin}

less : (a t b d : ℕ) → a + t ≡ b → b ≤ d → a ≤ d
less a t b d e le = omega arith

one_less : (a b d : ℕ) → a + 1 ≡ b → b ≤ d + 1 → a ≤ d
one_less a b d e le = omega arith

one_more : (a b : ℕ) → a ≡ b + 1 → a ≤ b + 1
one_more a b e = omega arith

up : (a d : ℕ) → a ≤ d → a ≤ d + 1
up a d le = omega arith

-- steps that split nothing
no_splits : (d : ℕ) (g : Graph) (steps : List calculus.Step) → WellFormed g → list_all (λ s. not (is_split s)) steps ≡ true →
    demand g ≤ d → StaysWithin d g steps
no_splits d g [] w none le = le
no_splits d g (s ∷ rest) w none le = (
  up _ _ le,
  λ h step. no_splits d h rest (step_kept g s h w step) (and-right _ _ none)
      (less _ _ _ _ (no_split g s h w (not-true (is_split s) (and-left _ _ none)) step) le),
)

removal_splits_none : (phase b : ℕ) → list_all (λ s. not (is_split s)) (removal_of phase b) ≡ true
removal_splits_none phase b = either (is_half_turns phase) (is_quarter_turn phase)
  where
    either : (half quarter : Bool) → list_all (λ s. not (is_split s))
        (if half then calculus.Delete b ∷ []
        else if quarter then calculus.LocalComplement b ∷ calculus.Delete b ∷ [] else []) ≡ true
    either true quarter = refl
    either false true = refl
    either false false = refl

-- u goes once the two are pivoted
pivoted_within : (d : ℕ) (g : Graph) (u b phase : ℕ) → WellFormed g → demand g ≤ d + 1 →
    StaysWithin d g (calculus.Pivot u b ∷ calculus.Delete u ∷ removal_of phase b)
pivoted_within d g u b phase w le = (
  le,
  λ h pivot.
      let pivoted : demand h ≤ d + 1 = less _ _ _ _ (no_split g (calculus.Pivot u b) h w refl pivot) le in
      let kept = step_kept g (calculus.Pivot u b) h w pivot in (
        pivoted,
        λ k delete. no_splits d k (removal_of phase b) (step_kept h (calculus.Delete u) k kept delete)
            (removal_splits_none phase b)
            (one_less _ _ _ (no_split h (calculus.Delete u) k kept refl delete) pivoted),
      ),
)

boundary_within : (g : Graph) (u b phase : ℕ) (i o : Bool) → WellFormed g → has_input g b ≡ i → has_output g b ≡ o →
    StaysWithin (demand g) g
    (((if i then calculus.SplitInput b ∷ [] else []) ++ (if o then calculus.SplitOutput b ∷ [] else []))
    ++ (calculus.Pivot u b ∷ calculus.Delete u ∷ removal_of phase b))
boundary_within g u b phase true true w e f = (
  up _ _ (omega arith),
  λ k first.
      let kept = step_kept g (calculus.SplitInput b) k w first in (
        at_most _ _ _ (split_input g b k w first),
        λ h second. pivoted_within (demand g) h u b phase (step_kept k (calculus.SplitOutput b) h kept second)
            (one_more _ _ (split_both g b k h w f first second)),
      ),
)
  where
    at_most : (a c : ℕ) (t : Bool) → a + one_if t ≡ c + 1 → a ≤ c + 1
    at_most a c t e = omega arith
boundary_within g u b phase true false w e f = (
  up _ _ (omega arith),
  λ k first. pivoted_within (demand g) k u b phase (step_kept g (calculus.SplitInput b) k w first)
      (one_more _ _ (only_input g b k w f first)),
)
boundary_within g u b phase false true w e f = (
  up _ _ (omega arith),
  λ k first. pivoted_within (demand g) k u b phase (step_kept g (calculus.SplitOutput b) k w first)
      (one_more _ _ (only_output g b k w e first)),
)
boundary_within g u b phase false false w e f = pivoted_within (demand g) g u b phase w (up _ _ (omega arith))

-- after a move the demand isn't higher, and inside it at most one higher
pub move_within : (g : Graph) (m : Move) → WellFormed g → StaysWithin (demand g) g (steps_of g m)
move_within g (moves.Delete u) w = no_splits _ g (steps_of g (moves.Delete u)) w refl (omega arith)
move_within g (moves.QuarterGadget u) w = no_splits _ g (steps_of g (moves.QuarterGadget u)) w refl (omega arith)
move_within g (moves.FromXZ u) w = no_splits _ g (steps_of g (moves.FromXZ u)) w refl (omega arith)
move_within g (moves.QuarterSpider u) w = no_splits _ g (steps_of g (moves.QuarterSpider u)) w refl (omega arith)
move_within g (moves.InnerPivot u v) w = no_splits _ g (steps_of g (moves.InnerPivot u v)) w refl (omega arith)
move_within g (moves.BoundaryPivot u b) w =
    boundary_within g u b (phase_of g b) (has_input g b) (has_output g b) w refl refl
move_within g (moves.GadgetPair u v) w = no_splits _ g (steps_of g (moves.GadgetPair u v)) w refl (omega arith)
move_within g (moves.LoneGadget u) w = no_splits _ g (steps_of g (moves.LoneGadget u)) w refl (omega arith)
move_within g (moves.SingleGadget u) w = no_splits _ g (steps_of g (moves.SingleGadget u)) w refl (omega arith)
move_within g (moves.Twins u v) w = no_splits _ g (steps_of g (moves.Twins u v)) w refl (omega arith)

pub within_now : (d : ℕ) (g : Graph) (steps : List calculus.Step) → StaysWithin d g steps → demand g ≤ d + 1
within_now d g [] stays = up _ _ stays
within_now d g (s ∷ rest) stays = stays.0

pub within_after : (d : ℕ) (g : Graph) (first rest : List calculus.Step) (k : Graph) → StaysWithin d g (first ++ rest) →
    IsRun g first k → StaysWithin d k rest
within_after d g [] rest k stays run = subst (λ x. StaysWithin d x rest) run stays
within_after d g (s ∷ first) rest k stays run = within_after d run.0 first rest k (stays.1 run.0 run.1) run.2

pub inside_move : (g : Graph) (m : Move) (first rest : List calculus.Step) (k : Graph) → WellFormed g →
    first ++ rest ≡ steps_of g m → IsRun g first k → demand k ≤ demand g + 1
inside_move g m first rest k w parts run =
    within_now (demand g) k rest
    (within_after (demand g) g first rest k (subst (StaysWithin (demand g) g) (sym parts) (move_within g m w)) run)

pub after_move : (g : Graph) (m : Move) (h : Graph) → WellFormed g → IsRun g (steps_of g m) h → demand h ≤ demand g
after_move g m h w run =
    within_after (demand g) g (steps_of g m) [] h
    (subst (StaysWithin (demand g) g) (sym (append-nil (steps_of g m))) (move_within g m w)) run

pub after_moves : (g : Graph) (n : ℕ) (steps : List calculus.Step) (h : Graph) → WellFormed g → AreMoves g n steps h →
    demand h ≤ demand g
after_moves g zero steps h w a = let same = ap demand a.1 in omega (arith, same)
after_moves g (suc n) steps h w a =
    let first = after_move g a.0 a.1 w a.3.run in
    let later = after_moves a.1 n a.2 h (run_kept g (steps_of g a.0) a.1 w a.3.run) a.5 in
    omega (arith, first, later)

-- ---- how high it is

one_if_at_most : (b : Bool) → one_if b ≤ 1
one_if_at_most true = omega arith
one_if_at_most false = omega arith

count-none : (vs : List Vertex) → count (λ p k. false) vs ≡ 0
count-none [] = refl
count-none (v ∷ vs) = count-none vs

-- of different vertices no more stand in a list than it is long
count-members : (vs : List Vertex) (xs : List ℕ) → Distinct (ids vs) → count (λ p k. member p xs) vs ≤ length xs
count-members vs [] d = let none = count-none vs in omega (arith, none)
count-members vs (x ∷ xs) d =
    let rest = count-members vs xs d in
    by_test (member x (ids vs))
    (λ there.
    let apart = count_apart (λ p k. member p (x ∷ xs)) (λ p k. member p xs) x vs d there
    (λ p m n. ap (λ b. b || member p xs) (ne_eqb p x n)) in
    let most = one_if_at_most (member x (x ∷ xs)) in
    omega (arith, apart, rest, most))
    (λ absent.
    let same = count_same (λ p k. member p (x ∷ xs)) (λ p k. member p xs) vs d
    (λ p m. ap (λ b. b || member p xs) (ne_eqb p x (apart_of_member p x (ids vs) m absent))) in
    omega (arith, same, rest))

count_fewer : (s t : Test) (vs : List Vertex) → ((p : ℕ) (k : Kind) → t p k ≡ false → s p k ≡ false) → count s vs ≤ count t vs
count_fewer s t [] less = omega arith
count_fewer s t (v ∷ vs) less =
    let rest = count_fewer s t vs less in
    let a = count-cons s v vs in
    let b = count-cons t v vs in
    let first = either (s v.id v.kind) (t v.id v.kind) (less v.id v.kind) in
    omega (arith, rest, a, b, first)
  where
    either : (x y : Bool) → (y ≡ false → x ≡ false) → one_if x ≤ one_if y
    either false y f = omega arith
    either true true f = omega arith
    either true false f = absurd (true≢false (f refl))

length-end_vertices : (es : List End) → length (end_vertices es) ≡ length es
length-end_vertices [] = refl
length-end_vertices (e ∷ es) = ap suc (length-end_vertices es)

-- a vertex for each that is there, and one more for each input at most
pub demand_at_most : (g : Graph) → WellFormed g → demand g ≤ length g.vertices + length g.inputs
demand_at_most g w =
    let fewer = count_fewer (λ p k. has_both g p) (λ p k. has_input g p) g.vertices
    (λ p k none. ap (λ b. b && has_output g p) none) in
    let most = count-members g.vertices (end_vertices g.inputs) (distinct g w) in
    let size = length-end_vertices g.inputs in
    omega (arith, fewer, most, size)
