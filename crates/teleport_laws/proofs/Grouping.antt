-- The new phases of the gates add up to what the old ones did, at each holder.
use Rattle.std.proofs.Common.{◌≡◌, ◌⊎◌, inl, inr, refl, sym, ◌∙◌, ap, ap₂, subst, ℕ, ◌<◌, Bool, true, false, cond, not, ◌&&◌, ◌||◌, eqb, List, [], ◌∷◌, true≢false, ne_eqb, eqb-true, arith}
use Rattle.zx_model.specs.Phase.{turn, sum_of_phases, opposite_phase}
use Rattle.zx_model.specs.Bits.{member}
use Rattle.zx_calculus.proofs.Ids.{by_test, by_equal, eqb-self, Distinct}
use Rattle.teleport_laws.specs.Shifts.{signed}
use Rattle.teleport_laws.specs.Spots.{Holder, At, Deleted, Dropped, Spot}
use Rattle.teleport_laws.specs.Groups.{same_holder, is_dropped, part, held, first_of, teleported, change, IsBalanced}
use Rattle.teleport_laws.proofs.Carrying.{AreBelow, signed-below, signed-none, signed-sum, zero_low, cond-below, part-below, held-below, none_plus}
use Rattle.teleport_laws.proofs.Shifting.{plus_none, opposite-sum, four_phases}
use Rattle.zx_calculus.proofs.Kept.{opposite_below}

pub same_holder-true : (h k : Holder) → same_holder h k ≡ true → h ≡ k
same_holder-true (At v) (At w) e = ap At (eqb-true v w e)
same_holder-true (At v) (Deleted n) e = absurd (true≢false (sym e))
same_holder-true (At v) Dropped e = absurd (true≢false (sym e))
same_holder-true (Deleted m) (At w) e = absurd (true≢false (sym e))
same_holder-true (Deleted m) (Deleted n) e = ap Deleted (eqb-true m n e)
same_holder-true (Deleted m) Dropped e = absurd (true≢false (sym e))
same_holder-true Dropped (At w) e = absurd (true≢false (sym e))
same_holder-true Dropped (Deleted n) e = absurd (true≢false (sym e))
same_holder-true Dropped Dropped e = refl

pub same_holder-self : (h : Holder) → same_holder h h ≡ true
same_holder-self (At v) = eqb-self v
same_holder-self (Deleted n) = eqb-self n
same_holder-self Dropped = refl

signed-back : (b : Bool) (k : ℕ) → k < turn → signed b (signed b k) ≡ k
signed-back true k low = omega arith
signed-back false k low = refl

-- ---- the first gate of a group
module _ (phase : ℕ → ℕ) (spot : ℕ → Spot) (gates : List ℕ) (holder : Holder) (matters : is_dropped holder ≡ false) where
  first : ℕ
  first = first_of spot gates holder

  total : ℕ
  total = held phase spot gates holder

  -- what a gate adds then
  new_part : (i : ℕ) → part holder (spot i) (teleported phase spot gates i) ≡ cond (same_holder (spot i).holder holder && eqb i (first_of spot gates holder)) (held phase spot gates holder) 0
  new_part i =
      by_test (same_holder (spot i).holder holder)
      (λ t. rw t
      (let e : (spot i).holder ≡ holder = same_holder-true (spot i).holder holder t in
      ap (λ h. signed (spot i).negated (cond (is_dropped h || not (eqb i (first_of spot gates h))) 0 (signed (spot i).negated (held phase spot gates h)))) e
      ∙ ap (λ d. signed (spot i).negated (cond (d || not (eqb i (first_of spot gates holder))) 0 (signed (spot i).negated (held phase spot gates holder)))) matters
      ∙ at (spot i).negated (eqb i (first_of spot gates holder))))
      (λ f. rw f refl)
    where
      at : (n b : Bool) → signed n (cond (not b) 0 (signed n (held phase spot gates holder))) ≡ cond b (held phase spot gates holder) 0
      at n true = signed-back n (held phase spot gates holder) (held-below phase spot gates holder)
      at n false = signed-none n

  -- the first one gets all
  all_at_first : (is : List ℕ) → Distinct is →
      held (teleported phase spot gates) spot is holder ≡ cond (member (first_of spot gates holder) is && same_holder (spot (first_of spot gates holder)).holder holder) (held phase spot gates holder) 0
  all_at_first [] d = refl
  all_at_first (i ∷ is) d =
      ap₂ sum_of_phases (new_part i) (all_at_first is d.1)
      ∙ by_equal i (first_of spot gates holder)
      (λ t e. let absent : member (first_of spot gates holder) is ≡ false = ap (λ x. member x is) (sym e) ∙ d.0 in
      let here : eqb (first_of spot gates holder) i ≡ true = ap (λ x. eqb x i) (sym e) ∙ eqb-self i in
      rw (t, absent, here) (ap (λ x. sum_of_phases (cond (same_holder (spot x).holder holder && true) (held phase spot gates holder) 0) 0) e ∙ at_first (same_holder (spot (first_of spot gates holder)).holder holder)))
      (λ t n. rw (t, ne_eqb (first_of spot gates holder) i (λ e. n (sym e)))
      (ap (λ b. sum_of_phases (cond b (held phase spot gates holder) 0) (cond (member (first_of spot gates holder) is && same_holder (spot (first_of spot gates holder)).holder holder) (held phase spot gates holder) 0)) (and_none (same_holder (spot i).holder holder))
      ∙ none_plus _ (cond-below (member (first_of spot gates holder) is && same_holder (spot (first_of spot gates holder)).holder holder) _ _ (held-below phase spot gates holder) zero_low)))
    where
      and_none : (b : Bool) → (b && false) ≡ false
      and_none true = refl
      and_none false = refl

      at_first : (b : Bool) → sum_of_phases (cond (b && true) (held phase spot gates holder) 0) 0 ≡ cond b (held phase spot gates holder) 0
      at_first true = plus_none _ (held-below phase spot gates holder)
      at_first false = refl

-- the first is one of them, or there is none
first_there : (phase : ℕ → ℕ) (spot : ℕ → Spot) (holder : Holder) (gates : List ℕ) →
    ((member (first_of spot gates holder) gates && same_holder (spot (first_of spot gates holder)).holder holder) ≡ true) ⊎ (held phase spot gates holder ≡ 0)
first_there phase spot holder [] = inr refl
first_there phase spot holder (i ∷ is) =
    by_test (same_holder (spot i).holder holder)
    (λ t. inl (rw (t, eqb-self i) t))
    (λ f. more f (first_there phase spot holder is))
  where
    or_true : (a b c : Bool) → (b && c) ≡ true → ((a || b) && c) ≡ true
    or_true true true c e = e
    or_true true false c e = absurd (true≢false (sym e))
    or_true false b c e = e

    more : same_holder (spot i).holder holder ≡ false → ((member (first_of spot is holder) is && same_holder (spot (first_of spot is holder)).holder holder) ≡ true) ⊎ (held phase spot is holder ≡ 0) →
        ((member (first_of spot (i ∷ is) holder) (i ∷ is) && same_holder (spot (first_of spot (i ∷ is) holder)).holder holder) ≡ true) ⊎ (held phase spot (i ∷ is) holder ≡ 0)
    more f (inl there) =
        let same : first_of spot (i ∷ is) holder ≡ first_of spot is holder = ap (λ b. cond b i (first_of spot is holder)) f in
        inl (subst (λ x. (member x (i ∷ is) && same_holder (spot x).holder holder) ≡ true) (sym same)
        (or_true (eqb (first_of spot is holder) i) (member (first_of spot is holder) is) _ there))
    more f (inr none) = inr (rw f (ap (sum_of_phases 0) none))

pub first_gets_all : (phase : ℕ → ℕ) (spot : ℕ → Spot) (gates : List ℕ) (holder : Holder) → is_dropped holder ≡ false → Distinct gates →
    held (teleported phase spot gates) spot gates holder ≡ held phase spot gates holder
first_gets_all phase spot gates holder matters d =
    all_at_first phase spot gates holder matters gates d ∙ at (first_there phase spot holder gates)
  where
    at : ((member (first_of spot gates holder) gates && same_holder (spot (first_of spot gates holder)).holder holder) ≡ true) ⊎ (held phase spot gates holder ≡ 0) →
        cond (member (first_of spot gates holder) gates && same_holder (spot (first_of spot gates holder)).holder holder) (held phase spot gates holder) 0 ≡ held phase spot gates holder
    at (inl there) = rw there refl
    at (inr none) = ap (λ k. cond (member (first_of spot gates holder) gates && same_holder (spot (first_of spot gates holder)).holder holder) k 0) none ∙ same (member (first_of spot gates holder) gates && same_holder (spot (first_of spot gates holder)).holder holder) ∙ sym none
      where
        same : (b : Bool) → cond {A = ℕ} b 0 0 ≡ 0
        same true = refl
        same false = refl

-- ---- the change
signed-opposite : (b : Bool) (k : ℕ) → k < turn → signed b (opposite_phase k) ≡ opposite_phase (signed b k)
signed-opposite true k low = refl
signed-opposite false k low = refl

part-change : (holder : Holder) (spot : Spot) (j k : ℕ) → j < turn → k < turn → part holder spot (sum_of_phases j (opposite_phase k)) ≡ sum_of_phases (part holder spot j) (opposite_phase (part holder spot k))
part-change holder spot j k low low' =
    by_test (same_holder spot.holder holder)
    (λ t. rw t (signed-sum spot.negated j (opposite_phase k) low (opposite_below k) ∙ ap (sum_of_phases (signed spot.negated j)) (signed-opposite spot.negated k low')))
    (λ f. rw f refl)

pub held-change : (old new : ℕ → ℕ) (spot : ℕ → Spot) (gates : List ℕ) (holder : Holder) → AreBelow old → AreBelow new →
    held (change old new) spot gates holder ≡ sum_of_phases (held new spot gates holder) (opposite_phase (held old spot gates holder))
held-change old new spot [] holder low low' = refl
held-change old new spot (i ∷ is) holder low low' =
    ap₂ sum_of_phases (part-change holder (spot i) (new i) (old i) (low' i) (low i)) (held-change old new spot is holder low low')
    ∙ four_phases (part holder (spot i) (new i)) (opposite_phase (part holder (spot i) (old i))) (held new spot is holder) (opposite_phase (held old spot is holder))
    ∙ ap (sum_of_phases (sum_of_phases (part holder (spot i) (new i)) (held new spot is holder)))
    (sym (opposite-sum (part holder (spot i) (old i)) (held old spot is holder) (part-below holder (spot i) (old i) (low i)) (held-below old spot is holder)))

pub none_of_it : (k : ℕ) → k < turn → sum_of_phases k (opposite_phase k) ≡ 0
none_of_it k low = omega arith

pub teleported-low : (phase : ℕ → ℕ) (spot : ℕ → Spot) (gates : List ℕ) → AreBelow (teleported phase spot gates)
teleported-low phase spot gates i =
    cond-below (is_dropped (spot i).holder || not (eqb i (first_of spot gates (spot i).holder))) 0 _ zero_low
    (signed-below (spot i).negated (held phase spot gates (spot i).holder) (held-below phase spot gates (spot i).holder))

pub change_balanced : (phase : ℕ → ℕ) (spot : ℕ → Spot) (gates : List ℕ) → AreBelow phase → Distinct gates → IsBalanced (change phase (teleported phase spot gates)) spot gates
change_balanced phase spot gates low d holder matters =
    held-change phase (teleported phase spot gates) spot gates holder low (teleported-low phase spot gates)
    ∙ ap (λ k. sum_of_phases k (opposite_phase (held phase spot gates holder))) (first_gets_all phase spot gates holder matters d)
    ∙ none_of_it (held phase spot gates holder) (held-below phase spot gates holder)
