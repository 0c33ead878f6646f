-- How many of the new phases are odd.
use Rattle.std.proofs.Common.{◌≡◌, ◌≢◌, inl, inr, refl, sym, ◌∙◌, ap, subst, ℕ, suc, ◌+◌, ◌%◌, ◌<◌, ◌≤◌, Bool, true, false, cond, not, ◌&&◌, ◌||◌, eqb, List, [], ◌∷◌, length, filter, true≢false, eqb-true, ltb, ltb-true, ltb-false, arith}
use Rattle.zx_model.specs.Phase.{turn, quarter_turn, is_odd, IsHalfTurns}
use Rattle.zx_model.specs.Bits.{member, one_if}
use Rattle.zx_model.proofs.Odd.{is_odd-opposite}
use Rattle.zx_calculus.specs.Graph.{Kind, Vertex, Graph, ids, kind_of, phase_of, without, IsVertex, WellFormed}
use Rattle.zx_calculus.specs.Counts.{odd_phases}
use Rattle.zx_calculus.specs.Steps.{Step, LocalComplement, Delete, Pivot, SplitInput, SplitOutput, DropLone, FuseInto, FuseTwin, IsStep, IsRun}
use Rattle.zx_calculus.proofs.Ids.{by_test, by_equal, Distinct, member-here, member-there, apart_of_member}
use Rattle.zx_calculus.proofs.CountLemmas.{Test, count, count_front, member-without_other}
use Rattle.zx_calculus.proofs.Splitting.{distinct, Distinct-without}
use Rattle.zx_calculus.proofs.Vertices.{kind_of-without}
use Rattle.zx_calculus.proofs.Steps.{step_kept}
use Rattle.teleport_laws.specs.Shifts.{signed}
use Rattle.teleport_laws.specs.Spots.{Holder, At, Deleted, Dropped, Spot, moved, carried, spot_at}
use Rattle.teleport_laws.specs.Groups.{is_dropped, held, first_of, teleported, odd_among, IsOfGates}
use Rattle.teleport_laws.proofs.Carrying.{AreBelow, held-below, step_apart, after_held}
use Rattle.teleport_laws.proofs.Runs.{AreEarly, early_moved, held_deleted, held_none, carried_never, moved_never, deletes}
use Rattle.teleport_laws.proofs.Resting.{step_rests, kind_of-absent}

-- ---- along a run
module _ (phase : ℕ → ℕ) (low : AreBelow phase) (gates : List ℕ) where
  next_rests : (g : Graph) (s : Step) (k : Graph) (left : ℕ) (spot : ℕ → Spot) → WellFormed g → IsStep g s k → IsOfGates g (λ v. held phase spot gates (At v)) →
      IsOfGates k (λ v. held phase (λ i. moved left g s (spot i)) gates (At v))
  next_rests g s k left spot w c of v =
      step_rests g w (λ x. held phase spot gates (At x)) (λ x. held-below phase spot gates (At x)) of s k c v
      ∙ ap (λ x. x % quarter_turn) (after_held left g s phase spot gates v low (step_apart g s k w c))

  pub run_rests : (g : Graph) (steps : List Step) (h : Graph) (run : IsRun g steps h) (spot : ℕ → Spot) → WellFormed g → IsOfGates g (λ v. held phase spot gates (At v)) →
      IsOfGates h (λ v. held phase (λ i. carried g steps h run (spot i)) gates (At v))
  run_rests g [] h run spot w of = subst (λ k. IsOfGates k (λ v. held phase spot gates (At v))) run of
  run_rests g (s ∷ steps) h run spot w of =
      run_rests run.0 steps h run.2 (λ i. moved (length steps) g s (spot i)) (step_kept g s run.0 w run.1) (next_rests g s run.0 (length steps) spot w run.1 of)

  half_turns_rest : (k : ℕ) → IsHalfTurns k → k % quarter_turn ≡ 0
  half_turns_rest k (inl e) = ap (λ x. x % quarter_turn) e
  half_turns_rest k (inr e) = ap (λ x. x % quarter_turn) e

  no_number : (x : ℕ) → x ≡ 0 → x % quarter_turn ≡ 0
  no_number x e = ap (λ y. y % quarter_turn) e

  -- a vertex that is deleted has whole half turns, so its gates have whole quarter turns together
  pub gone_even : (g : Graph) (steps : List Step) (h : Graph) (run : IsRun g steps h) (spot : ℕ → Spot) → WellFormed g → AreEarly (length steps) spot → IsOfGates g (λ v. held phase spot gates (At v)) →
      (m : ℕ) → m < length steps → held phase (λ i. carried g steps h run (spot i)) gates (Deleted m) % quarter_turn ≡ 0
  gone_even g [] h run spot w early of m lt = absurd (none m lt)
    where
      none : (m : ℕ) → m < 0 → ⊥
      none m lt = omega (arith, lt)
  gone_even g (s ∷ steps) h run spot w early of m lt =
      by_equal m (length steps)
      (λ t e. subst (λ n. held phase (λ i. carried g (s ∷ steps) h run (spot i)) gates (Deleted n) % quarter_turn ≡ 0) (sym e) (here s run.1))
      (λ t n. gone_even run.0 steps h run.2 (λ i. moved (length steps) g s (spot i)) (step_kept g s run.0 w run.1) (early_moved (length steps) g s spot early)
      (next_rests g s run.0 (length steps) spot w run.1 of) m (omega arith))
    where
      none_held : (s' : Step) → deletes s' ≡ false → held phase (λ i. carried run.0 steps h run.2 (moved (length steps) g s' (spot i))) gates (Deleted (length steps)) % quarter_turn ≡ 0
      none_held s' keeps =
          no_number _ (held_none phase (λ i. carried run.0 steps h run.2 (moved (length steps) g s' (spot i))) gates (Deleted (length steps))
          (λ i. carried_never run.0 steps h run.2 (length steps) (moved (length steps) g s' (spot i)) (omega arith)
          (moved_never (length steps) g s' (length steps) (spot i).holder (spot i).negated (ap (λ b. b && eqb (length steps) (length steps)) keeps) (early i (length steps) (omega arith)))))

      here : (s' : Step) → IsStep g s' run.0 → held phase (λ i. carried run.0 steps h run.2 (moved (length steps) g s' (spot i))) gates (Deleted (length steps)) % quarter_turn ≡ 0
      here (Delete u) c =
          ap (λ x. x % quarter_turn) (held_deleted g u run.0 steps h run.2 w phase spot gates early) ∙ sym (of u) ∙ half_turns_rest (phase_of g u) c.deletable.phase
      here (LocalComplement u) c = none_held (LocalComplement u) refl
      here (Pivot u v) c = none_held (Pivot u v) refl
      here (SplitInput u) c = none_held (SplitInput u) refl
      here (SplitOutput u) c = none_held (SplitOutput u) refl
      here (DropLone u) c = none_held (DropLone u) refl
      here (FuseInto u) c = none_held (FuseInto u) refl
      here (FuseTwin u v) c = none_held (FuseTwin u v) refl

  -- no other number stands at the end, where spots begin at vertices
  pub even_at_end : (g : Graph) (steps : List Step) (h : Graph) (run : IsRun g steps h) (vertex_of : ℕ → ℕ) → WellFormed g → IsOfGates g (λ v. held phase (λ i. spot_at (vertex_of i)) gates (At v)) →
      (m : ℕ) → held phase (λ i. carried g steps h run (spot_at (vertex_of i))) gates (Deleted m) % quarter_turn ≡ 0
  even_at_end g steps h run vertex_of w of m =
      by_test (ltb m (length steps))
      (λ t. gone_even g steps h run (λ i. spot_at (vertex_of i)) w (λ i n lt. refl) of m (ltb-true m (length steps) t))
      (λ f. no_number _ (held_none phase (λ i. carried g steps h run (spot_at (vertex_of i))) gates (Deleted m)
      (λ i. carried_never g steps h run m (spot_at (vertex_of i)) (ltb-false m (length steps) f) refl)))

-- ---- as many as vertices, at most
pub few : (P : ℕ → Bool) (f : ℕ → ℕ) (t : Test) (gates : List ℕ) (vs : List Vertex) → Distinct gates → Distinct (ids vs) →
    ((i : ℕ) → member i gates ≡ true → P i ≡ true → (member (f i) (ids vs) ≡ true) × (t (f i) (kind_of vs (f i)) ≡ true)) →
    ((i j : ℕ) → member i gates ≡ true → member j gates ≡ true → P i ≡ true → P j ≡ true → f i ≡ f j → i ≡ j) → length (filter P gates) ≤ count t vs
few P f t [] vs d e there apart = omega arith
few P f t (i ∷ is) vs d e there apart =
    by_test (P i)
    (λ p. rw p
    (let here = there i (member-here i is) p in
    one_more _ _ _ (count_front t (f i) vs e here.0 ∙ ap (λ b. one_if b + count t (without (f i) vs)) here.1)
    (few P f t is (without (f i) vs) d.1 (Distinct-without (f i) vs e)
    (λ j m q. let differ : f j ≢ f i = λ same. apart_of_member j i is m d.0 (apart j i (member-there j i is m) (member-here i is) q p same) in
    let that = there j (member-there j i is m) q in
    (member-without_other (f j) (f i) vs differ ∙ that.0, subst (λ k. t (f j) k ≡ true) (sym (kind_of-without (f j) (f i) vs differ)) that.1))
    (λ j k m n. apart j k (member-there j i is m) (member-there k i is n)))))
    (λ p. rw p (few P f t is vs d.1 e (λ j m. there j (member-there j i is m)) (λ j k m n. apart j k (member-there j i is m) (member-there k i is n))))
  where
    one_more : (a b c : ℕ) → c ≡ 1 + b → a ≤ b → suc a ≤ c
    one_more a b c e le = omega arith

-- ---- odd new phases
is_odd-signed : (b : Bool) (k : ℕ) → k < turn → is_odd (signed b k) ≡ is_odd k
is_odd-signed true k below = is_odd-opposite k below
is_odd-signed false k below = refl

abbrev vertex_in : Holder → ℕ
vertex_in (At v) = v
vertex_in (Deleted n) = 0
vertex_in Dropped = 0

record IsOddFirst (phase : ℕ → ℕ) (ends : ℕ → Spot) (gates : List ℕ) (holder : Holder) (first : Bool) : Type 0 where
  pub is_first : first ≡ true
  pub vertex : holder ≡ At (vertex_in holder)
  pub odd : is_odd (held phase ends gates (At (vertex_in holder))) ≡ true

odd_first : (phase : ℕ → ℕ) (ends : ℕ → Spot) (gates : List ℕ) → ((m : ℕ) → held phase ends gates (Deleted m) % quarter_turn ≡ 0) →
    (holder : Holder) (first n : Bool) → is_odd (cond (is_dropped holder || not first) 0 (signed n (held phase ends gates holder))) ≡ true → IsOddFirst phase ends gates holder first
odd_first phase ends gates even Dropped first n odd = absurd (true≢false (sym odd))
odd_first phase ends gates even (At v) true n odd = record {
  is_first = refl;
  vertex = refl;
  odd = sym (is_odd-signed n (held phase ends gates (At v)) (held-below phase ends gates (At v))) ∙ odd;
}
odd_first phase ends gates even (At v) false n odd = absurd (true≢false (sym odd))
odd_first phase ends gates even (Deleted m) true n odd =
    absurd (true≢false (sym odd ∙ is_odd-signed n (held phase ends gates (Deleted m)) (held-below phase ends gates (Deleted m)) ∙ ap (λ x. not (eqb x 0)) (even m)))
odd_first phase ends gates even (Deleted m) false n odd = absurd (true≢false (sym odd))

module _ (g : Graph) (steps : List Step) (h : Graph) (run : IsRun g steps h) (phase : ℕ → ℕ) (vertex_of : ℕ → ℕ) (gates : List ℕ) (w : WellFormed g) (formed : WellFormed h) (low : AreBelow phase)
    (d : Distinct gates) (of : IsOfGates g (λ v. held phase (λ i. spot_at (vertex_of i)) gates (At v))) where
  abbrev ends : ℕ → Spot
  ends i = carried g steps h run (spot_at (vertex_of i))

  abbrev is_new_odd : ℕ → Bool
  is_new_odd i = is_odd (teleported phase ends gates i)

  tells : (i : ℕ) → is_new_odd i ≡ true → IsOddFirst phase ends gates (ends i).holder (eqb i (first_of ends gates (ends i).holder))
  tells i odd = odd_first phase ends gates (even_at_end phase low gates g steps h run vertex_of w of) (ends i).holder (eqb i (first_of ends gates (ends i).holder)) (ends i).negated odd

  odd_there : (i : ℕ) → is_new_odd i ≡ true → is_odd (phase_of h (vertex_in (ends i).holder)) ≡ true
  odd_there i odd = ap (λ x. not (eqb x 0)) (run_rests phase low gates g steps h run (λ i. spot_at (vertex_of i)) w of (vertex_in (ends i).holder)) ∙ (tells i odd).odd

  live_there : (v : ℕ) → is_odd (phase_of h v) ≡ true → IsVertex h v
  live_there v odd =
      by_test (member v (ids h.vertices)) (λ t. t) (λ f. absurd (true≢false (sym odd ∙ ap (λ (k : Kind). is_odd k.phase) (kind_of-absent h.vertices v f))))

  pub odd_at_most : odd_among (teleported phase ends gates) gates ≤ odd_phases h
  odd_at_most =
      few is_new_odd (λ i. vertex_in (ends i).holder) (λ v k. is_odd k.phase) gates h.vertices d (distinct h formed)
      (λ i there odd. (live_there (vertex_in (ends i).holder) (odd_there i odd), odd_there i odd))
      (λ i j m n odd odd' same.
      let one = tells i odd in
      let other = tells j odd' in
      eqb-true i _ one.is_first ∙ ap (first_of ends gates) (one.vertex ∙ ap At same ∙ sym other.vertex) ∙ sym (eqb-true j _ other.is_first))
