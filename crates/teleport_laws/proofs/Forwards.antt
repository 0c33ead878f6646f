-- What becomes of the phases that gates get where their spots move on.
use Rattle.std.proofs.Common.{◌≡◌, refl, sym, ◌∙◌, ap, ap₂, ℕ, suc, ◌<◌, Bool, true, false, cond, not, ◌||◌, eqb, eqb-true, ltb, ltb-true, ltb-false, if◌then◌else◌, List, [], ◌∷◌, ◌++◌, length, true≢false, arith}
use Rattle.zx_model.specs.Phase.{turn, sum_of_phases}
use Rattle.zx_model.specs.Bits.{member, xor}
use Rattle.zx_calculus.proofs.Ids.{by_test, eqb-self}
use Rattle.zx_calculus.specs.Graph.{Graph}
use Rattle.zx_calculus.specs.Steps.{Step, LocalComplement, Delete, Pivot, SplitInput, SplitOutput, DropLone, FuseInto, FuseTwin}
use Rattle.teleport_laws.specs.Shifts.{signed, negates}
use Rattle.teleport_laws.specs.Spots.{Holder, At, Deleted, Dropped, Spot, holder_after, spot_after}
use Rattle.teleport_laws.specs.Groups.{same_holder, is_dropped, part, held, first_of, teleported}
use Rattle.teleport_laws.specs.Internal.Rising.{AreRising}
use Rattle.teleport_laws.proofs.Carrying.{AreBelow, signed-below, signed-none, signed-sum, signed-signed, part-below, held-below, none_plus}
use Rattle.teleport_laws.proofs.Grouping.{same_holder-self}
use Rattle.teleport_laws.proofs.Shifting.{plus_none, four_phases}

-- what is said of all of some gates is said of the others behind the first
rest_of : {P : ℕ → Type 0} (i : ℕ) (is : List ℕ) → ((j : ℕ) → member j (i ∷ is) ≡ true → P j) → (j : ℕ) → member j is ≡ true → P j
rest_of i is all j there = all j (later (eqb j i) there)
  where
    later : (b : Bool) → member j is ≡ true → (b || member j is) ≡ true
    later true t = refl
    later false t = t

head_of : {P : ℕ → Type 0} (i : ℕ) (is : List ℕ) → ((j : ℕ) → member j (i ∷ is) ≡ true → P j) → P i
head_of i is all = all i (ap (λ b. b || member i is) (eqb-self i))

-- ---- the gates of one holder
-- at these gates the holders `after` and `before` hold the same ones, with signs that are turned or not
pub record IsAlike (spot later : ℕ → Spot) (before after : Holder) (turned : Bool) (j : ℕ) : Type 0 where
  pub same : same_holder (later j).holder after ≡ same_holder (spot j).holder before
  pub negated : same_holder (spot j).holder before ≡ true → (later j).negated ≡ xor (spot j).negated turned

module _ (phase : ℕ → ℕ) (low : AreBelow phase) (spot later : ℕ → Spot) (before after : Holder) (turned : Bool) where
  part-alike : (j : ℕ) → IsAlike spot later before after turned j → part after (later j) (phase j) ≡ signed turned (part before (spot j) (phase j))
  part-alike j a =
      by_test (same_holder (spot j).holder before)
      (λ t. rw (a.same ∙ t, t, a.negated t) (sym (signed-signed (spot j).negated turned (phase j) (low j))))
      (λ f. rw (a.same ∙ f, f) (sym (signed-none turned)))

  pub held-alike : (is : List ℕ) → ((j : ℕ) → member j is ≡ true → IsAlike spot later before after turned j) →
      held phase later is after ≡ signed turned (held phase spot is before)
  held-alike [] all = sym (signed-none turned)
  held-alike (i ∷ is) all =
      ap₂ sum_of_phases (part-alike i (head_of i is all)) (held-alike is (rest_of i is all))
      ∙ sym (signed-sum turned (part before (spot i) (phase i)) (held phase spot is before) (part-below before (spot i) (phase i) (low i)) (held-below phase spot is before))

  pub first-alike : (is : List ℕ) → ((j : ℕ) → member j is ≡ true → IsAlike spot later before after turned j) → first_of later is after ≡ first_of spot is before
  first-alike [] all = refl
  first-alike (i ∷ is) all =
      ap (λ b. cond b i (first_of later is after)) (head_of i is all).same
      ∙ ap (λ k. cond (same_holder (spot i).holder before) i k) (first-alike is (rest_of i is all))

-- where a gate's holder holds the same gates as before, it gets the same phase
pub teleported-alike : (phase : ℕ → ℕ) (spot later : ℕ → Spot) (turned : Bool) (gates : List ℕ) (i : ℕ) → AreBelow phase →
    ((j : ℕ) → member j gates ≡ true → IsAlike spot later (spot i).holder (later i).holder turned j) → (later i).negated ≡ xor (spot i).negated turned →
    is_dropped (later i).holder ≡ is_dropped (spot i).holder → teleported phase later gates i ≡ teleported phase spot gates i
teleported-alike phase spot later turned gates i low all sign dropped =
    ap₂ (λ d k. cond (d || not (eqb i k)) 0 (signed (later i).negated (held phase later gates (later i).holder))) dropped
    (first-alike phase low spot later (spot i).holder (later i).holder turned gates all)
    ∙ ap (λ k. cond (is_dropped (spot i).holder || not (eqb i (first_of spot gates (spot i).holder))) 0 k) value
  where
    total : ℕ
    total = held phase spot gates (spot i).holder

    back : (n t : Bool) (k : ℕ) → k < turn → signed (xor n t) (signed t k) ≡ signed n k
    back true true k below = refl
    back true false k below = refl
    back false true k below = signed-signed true true k below
    back false false k below = refl

    value : signed (later i).negated (held phase later gates (later i).holder) ≡ signed (spot i).negated (held phase spot gates (spot i).holder)
    value =
        ap₂ (λ b k. signed b k) sign (held-alike phase low spot later (spot i).holder (later i).holder turned gates all)
        ∙ back (spot i).negated turned (held phase spot gates (spot i).holder) (held-below phase spot gates (spot i).holder)

-- a gate of a holder that is dropped gets none
pub teleported-dropped : (phase : ℕ → ℕ) (spot : ℕ → Spot) (gates : List ℕ) (i : ℕ) → is_dropped (spot i).holder ≡ true → teleported phase spot gates i ≡ 0
teleported-dropped phase spot gates i dropped = rw dropped refl

-- ---- a gate more, behind all others
sum_assoc : (a b c : ℕ) → sum_of_phases a (sum_of_phases b c) ≡ sum_of_phases (sum_of_phases a b) c
sum_assoc a b c = omega arith

module _ (phase : ℕ → ℕ) (low : AreBelow phase) (spot : ℕ → Spot) (holder : Holder) (n : ℕ) where
  pub held-longer : (is : List ℕ) → held phase spot (is ++ n ∷ []) holder ≡ sum_of_phases (held phase spot is holder) (part holder (spot n) (phase n))
  held-longer [] =
      plus_none (part holder (spot n) (phase n)) (part-below holder (spot n) (phase n) (low n))
      ∙ sym (none_plus (part holder (spot n) (phase n)) (part-below holder (spot n) (phase n) (low n)))
  held-longer (i ∷ is) =
      ap (sum_of_phases (part holder (spot i) (phase i))) (held-longer is)
      ∙ sum_assoc (part holder (spot i) (phase i)) (held phase spot is holder) (part holder (spot n) (phase n))

  -- one of the others is held as well
  pub first-stays : (is : List ℕ) (j : ℕ) → member j is ≡ true → same_holder (spot j).holder holder ≡ true → first_of spot (is ++ n ∷ []) holder ≡ first_of spot is holder
  first-stays [] j there same = absurd (true≢false (sym there))
  first-stays (i ∷ is) j there same =
      by_test (same_holder (spot i).holder holder) (λ t. rw t refl)
      (λ f. rw f (first-stays is j (behind f) same))
    where
      behind : same_holder (spot i).holder holder ≡ false → member j is ≡ true
      behind f =
          by_test (eqb j i)
          (λ t. absurd (true≢false (sym same ∙ ap (λ k. same_holder (spot k).holder holder) (eqb-true j i t) ∙ f)))
          (λ g. sym (ap (λ b. b || member j is) g) ∙ there)

  -- none of the others is held
  pub first-new : (is : List ℕ) → ((j : ℕ) → member j is ≡ true → same_holder (spot j).holder holder ≡ false) → same_holder (spot n).holder holder ≡ true →
      first_of spot (is ++ n ∷ []) holder ≡ n
  first-new [] none same = rw same refl
  first-new (i ∷ is) none same = rw (head_of i is none) (first-new is (rest_of i is none) same)

  pub held-none : (is : List ℕ) → ((j : ℕ) → member j is ≡ true → same_holder (spot j).holder holder ≡ false) → held phase spot is holder ≡ 0
  held-none [] none = refl
  held-none (i ∷ is) none = rw (head_of i is none, held-none is (rest_of i is none)) refl

module _ (phase : ℕ → ℕ) (low : AreBelow phase) (spot : ℕ → Spot) (gates : List ℕ) (n : ℕ) where
  abbrev longer : List ℕ
  longer = gates ++ n ∷ []

  -- a gate elsewhere keeps its phase
  pub teleported-elsewhere : (i : ℕ) → member i gates ≡ true → same_holder (spot n).holder (spot i).holder ≡ false →
      teleported phase spot longer i ≡ teleported phase spot gates i
  teleported-elsewhere i there apart =
      let h = (spot i).holder in
      ap₂ (λ f k. cond (is_dropped h || not (eqb i f)) 0 (signed (spot i).negated k)) (first-stays phase low spot h n gates i there (same_holder-self h))
      (held-longer phase low spot h n gates ∙ rw apart (plus_none (held phase spot gates h) (held-below phase spot gates h)))

  -- the first gate there gets the new one's as well
  pub teleported-joined : (i : ℕ) → member i gates ≡ true → (spot n).holder ≡ (spot i).holder → (spot n).negated ≡ false → is_dropped (spot i).holder ≡ false →
      i ≡ first_of spot gates (spot i).holder →
      teleported phase spot longer i ≡ sum_of_phases (teleported phase spot gates i) (signed (spot i).negated (phase n))
  teleported-joined i there same plain matters first =
      let h = (spot i).holder in
      let is_first : eqb i (first_of spot gates h) ≡ true = ap (λ k. eqb i k) (sym first) ∙ eqb-self i in
      let held_there : same_holder (spot n).holder h ≡ true = ap (λ k. same_holder k h) same ∙ same_holder-self h in
      let all_held : held phase spot longer h ≡ sum_of_phases (held phase spot gates h) (phase n) = held-longer phase low spot h n gates ∙ rw (held_there, plain) refl in
      ap₂ (λ f k. cond (is_dropped h || not (eqb i f)) 0 (signed (spot i).negated k)) (first-stays phase low spot h n gates i there (same_holder-self h)) all_held
      ∙ rw (matters, is_first) (signed-sum (spot i).negated (held phase spot gates h) (phase n) (held-below phase spot gates h) (low n))

  -- the new one keeps its own where no other gate is
  pub teleported-alone : ((j : ℕ) → member j gates ≡ true → same_holder (spot j).holder (spot n).holder ≡ false) → (spot n).negated ≡ false →
      is_dropped (spot n).holder ≡ false → teleported phase spot longer n ≡ phase n
  teleported-alone none plain matters =
      let h = (spot n).holder in
      let is_first : eqb n (first_of spot longer h) ≡ true = ap (λ k. eqb n k) (first-new phase low spot h n gates none (same_holder-self h)) ∙ eqb-self n in
      rw (matters, is_first, plain)
      (held-longer phase low spot h n gates
      ∙ ap₂ sum_of_phases (held-none phase low spot h n gates none) (rw (same_holder-self h, plain) refl)
      ∙ none_plus (phase n) (low n))

-- ---- two holders become one
-- one of the gates is held
pub record IsHeld (spot : ℕ → Spot) (gates : List ℕ) (holder : Holder) : Type 0 where
  pub gate : ℕ
  pub there : member gate gates ≡ true
  pub same : same_holder (spot gate).holder holder ≡ true

-- what `gone` held is held by `into` as well from now on, with the signs that it had
pub record IsMerged (spot later : ℕ → Spot) (gone into : Holder) (j : ℕ) : Type 0 where
  pub either : same_holder (later j).holder into ≡ (same_holder (spot j).holder gone || same_holder (spot j).holder into)
  pub apart : same_holder (spot j).holder gone ≡ true → same_holder (spot j).holder into ≡ false
  pub negated : (later j).negated ≡ (spot j).negated

module _ (phase : ℕ → ℕ) (low : AreBelow phase) (spot later : ℕ → Spot) (gone into : Holder) where
  part-merged : (j : ℕ) → IsMerged spot later gone into j → part into (later j) (phase j) ≡ sum_of_phases (part gone (spot j) (phase j)) (part into (spot j) (phase j))
  part-merged j m =
      by_test (same_holder (spot j).holder gone)
      (λ t. rw (m.either, t, m.apart t, m.negated) (sym (plus_none (signed (spot j).negated (phase j)) (signed-below (spot j).negated (phase j) (low j)))))
      (λ f. rw (m.either, f, m.negated) (sym (none_plus (part into (spot j) (phase j)) (part-below into (spot j) (phase j) (low j)))))

  pub held-merged : (is : List ℕ) → ((j : ℕ) → member j is ≡ true → IsMerged spot later gone into j) →
      held phase later is into ≡ sum_of_phases (held phase spot is gone) (held phase spot is into)
  held-merged [] all = refl
  held-merged (i ∷ is) all =
      ap₂ sum_of_phases (part-merged i (head_of i is all)) (held-merged is (rest_of i is all))
      ∙ four_phases (part gone (spot i) (phase i)) (part into (spot i) (phase i)) (held phase spot is gone) (held phase spot is into)

-- one that is held stands behind the first gate where that isn't held
held_behind : (spot : ℕ → Spot) (holder : Holder) (i : ℕ) (is : List ℕ) → IsHeld spot (i ∷ is) holder → same_holder (spot i).holder holder ≡ false → IsHeld spot is holder
held_behind spot holder i is h f = record {
  gate = h.gate;
  there = by_test (eqb h.gate i) (λ t. absurd (true≢false (sym h.same ∙ ap (λ k. same_holder (spot k).holder holder) (eqb-true h.gate i t) ∙ f)))
      (λ g. sym (ap (λ b. b || member h.gate is) g) ∙ h.there);
  same = h.same;
}

-- the first of a holder's gates is one of them
first_member : (spot : ℕ → Spot) (holder : Holder) (is : List ℕ) → IsHeld spot is holder → member (first_of spot is holder) is ≡ true
first_member spot holder [] h = absurd (true≢false (sym h.there))
first_member spot holder (i ∷ is) h =
    by_test (same_holder (spot i).holder holder)
    (λ t. there i (ap (λ b. cond b i (first_of spot is holder)) t) (ap (λ b. b || member i is) (eqb-self i)))
    (λ f. there (first_of spot is holder) (ap (λ b. cond b i (first_of spot is holder)) f)
    (later (eqb (first_of spot is holder) i) (first_member spot holder is (held_behind spot holder i is h f))))
  where
    later : (b : Bool) → member (first_of spot is holder) is ≡ true → (b || member (first_of spot is holder) is) ≡ true
    later true t = refl
    later false t = t

    there : (k : ℕ) → first_of spot (i ∷ is) holder ≡ k → member k (i ∷ is) ≡ true → member (first_of spot (i ∷ is) holder) (i ∷ is) ≡ true
    there k same t = ap (λ x. member x (i ∷ is)) same ∙ t

-- the lesser one of two numbers
abbrev pub least_of : ℕ → ℕ → ℕ
least_of i j = if ltb i j then i else j

least_left : (i j : ℕ) → i < j → i ≡ least_of i j
least_left i j less = by_test (ltb i j) (λ t. rw t refl) (λ f. let more = ltb-false i j f in absurd (omega (arith, less, more)))

least_right : (i j : ℕ) → j < i → j ≡ least_of i j
least_right i j less = by_test (ltb i j) (λ t. let fewer = ltb-true i j t in absurd (omega (arith, less, fewer))) (λ f. rw f refl)

-- of rising gates the first of both is the lesser one of their firsts
pub first-merged : (spot later : ℕ → Spot) (gone into : Holder) (is : List ℕ) → AreRising is → ((j : ℕ) → member j is ≡ true → IsMerged spot later gone into j) →
    IsHeld spot is gone → IsHeld spot is into → first_of later is into ≡ least_of (first_of spot is gone) (first_of spot is into)
first-merged spot later gone into [] rising all h k = absurd (true≢false (sym h.there))
first-merged spot later gone into (i ∷ is) rising all h k =
    let m = head_of i is all in
    by_test (same_holder (spot i).holder gone)
    (λ t. rw (m.either, t, m.apart t)
    (least_left i (first_of spot is into) (rising.0 (first_of spot is into) (first_member spot into is (held_behind spot into i is k (m.apart t))))))
    (λ f. by_test (same_holder (spot i).holder into)
    (λ t. rw (m.either, f, t) (least_right (first_of spot is gone) i (rising.0 (first_of spot is gone) (first_member spot gone is (held_behind spot gone i is h f)))))
    (λ g. rw (m.either, f, g) (first-merged spot later gone into is rising.1 (rest_of i is all) (held_behind spot gone i is h f) (held_behind spot into i is k g))))

-- ---- a step more, behind all others
-- as told with one step more to come: a vertex that went is counted from the end
abbrev pub one_later : Holder → Holder
one_later (At v) = At v
one_later (Deleted n) = Deleted (suc n)
one_later Dropped = Dropped

abbrev pub later_spot : Spot → Spot
later_spot spot = record { holder = one_later spot.holder; negated = spot.negated }

holder-later : (left : ℕ) (g : Graph) (s : Step) (v : ℕ) → holder_after (suc left) g s v ≡ one_later (holder_after left g s v)
holder-later left g (LocalComplement u) v = refl
holder-later left g (Delete u) v = by_test (eqb v u) (λ t. rw t refl) (λ f. rw f refl)
holder-later left g (Pivot u w) v = refl
holder-later left g (SplitInput u) v = refl
holder-later left g (SplitOutput u) v = refl
holder-later left g (DropLone u) v = by_test (eqb v u) (λ t. rw t refl) (λ f. rw f refl)
holder-later left g (FuseInto u) v = by_test (eqb v u) (λ t. rw t refl) (λ f. rw f refl)
holder-later left g (FuseTwin u w) v = by_test (eqb v w) (λ t. rw t refl) (λ f. rw f refl)

pub moved-later : (left : ℕ) (g : Graph) (s : Step) (holder : Holder) (negated : Bool) →
    spot_after (suc left) g s (one_later holder) negated ≡ later_spot (spot_after left g s holder negated)
moved-later left g s (At v) negated = λ i. record { holder = holder-later left g s v i; negated = xor negated (negates g s v) }
moved-later left g s (Deleted n) negated = refl
moved-later left g s Dropped negated = refl

pub length-longer : (steps : List Step) (s : Step) → length (steps ++ s ∷ []) ≡ suc (length steps)
length-longer [] s = refl
length-longer (t ∷ steps) s = ap suc (length-longer steps s)
