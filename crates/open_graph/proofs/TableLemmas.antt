-- The row of bits that tells which entries have no slot, through each change of the entries.
use Rattle.std.proofs.Common.{◌≡◌, refl, sym, ◌∙◌, ap, ap₂, ℕ, ◌+◌, ◌<◌, ◌≤◌, Bool, true, false, not, cond, eqb, ltb, List, [], ◌∷◌, ◌++◌, length, get_or, set, Option, Some, None, is_some, IsSome, slice_index_or, true≢false, eq-eqb, ne_eqb, ltb-true, ltb-false, length-set, arith}
use Rattle.std.proofs.lemmas.List.{get_or-set_same, get_or-set_other, get_or_append_left, get_or_push, length_push, get_or_past}
use Rattle.zx_model.specs.Bits.{xor, bit}
use Rattle.zx_calculus.proofs.Booleans.{xor-false}
use Rattle.zx_calculus.proofs.Ids.{by_test, by_equal}
use Rattle.zx_bits.specs.Rows.{BitRow, flipped}
use Rattle.zx_bits.proofs.Vectors.{length-flipped, bit-flipped, place_within}
use Rattle.open_graph.specs.declared.slot.Slot.{Slot}
use Rattle.open_graph.specs.Internal.Table.{IsFreeRow}
use Rattle.open_graph.specs.Internal.Slots.{told_at}
use Rattle.open_graph.specs.Internal.Room.{vacant_in}
use Rattle.open_graph.proofs.RoomLemmas.{vacant-none}
use Rattle.open_graph.proofs.SlotLemmas.{live_if_some}

-- an entry and its bit are changed
row_set : (slots : List (Option Slot)) (free new : BitRow) (v : ℕ) (slot : Option Slot) → IsFreeRow slots free → v < length slots →
    length new.bits ≡ length free.bits → ((p : ℕ) → bit new.bits p ≡ cond (eqb p v) (not (is_some slot)) (bit free.bits p)) →
    IsFreeRow (set slots v slot) new
row_set slots free new v slot row within long bits =
    record {
      covers = omega (arith, row.covers, long, length-set slots v slot);
      vacant = λ p lt. bits p ∙ by_equal p v
          (λ t e. rw t (sym (ap (λ o. not (is_some o)) (ap (λ q. get_or (set slots v slot) q None) e ∙ get_or-set_same slots v slot None within))))
          (λ f n. rw f (row.vacant p (omega (arith, lt, length-set slots v slot)) ∙ sym (ap (λ o. not (is_some o)) (get_or-set_other slots v p slot None n))));
      none_after = λ p le. let past : length slots ≤ p = omega (arith, le, length-set slots v slot) in
          bits p ∙ by_equal p v (λ t e. absurd (omega (arith, past, within, e))) (λ f n. rw f (row.none_after p past));
    }

-- a bit that is negated becomes the other one
flipped_to : (xs : List Bool) (v p : ℕ) (b : Bool) → v < length xs → bit xs v ≡ not b → bit (flipped xs v) p ≡ cond (eqb p v) b (bit xs p)
flipped_to xs v p b within was =
    bit-flipped xs v p within
    ∙ by_equal p v
    (λ t e. rw t (ap (λ c. xor c true) (ap (bit xs) e ∙ was) ∙ turned b))
    (λ f n. rw f (xor-false (bit xs p)))
  where
    turned : (b : Bool) → xor (not b) true ≡ b
    turned true = refl
    turned false = refl

module _ (slots : List (Option Slot)) (free : BitRow) (row : IsFreeRow slots free) where
  -- an id whose bit is set has an entry
  pub free_within : (v : ℕ) → bit free.bits v ≡ true → v < length slots
  free_within v is_set =
      by_test (ltb v (length slots)) (λ t. ltb-true v (length slots) t) (λ f. absurd (true≢false (sym is_set ∙ row.none_after v (ltb-false v (length slots) f))))

  -- an id whose bit is set has no slot, and where no bit is, all have one
  pub is_vacant : (v : ℕ) → bit free.bits v ≡ true → is_some (slice_index_or slots v None) ≡ false
  is_vacant v is_set = turned (is_some (slice_index_or slots v None)) (sym (row.vacant v (free_within v is_set)) ∙ is_set)
    where
      turned : (b : Bool) → not b ≡ true → b ≡ false
      turned true e = sym e
      turned false e = refl

  all_taken : ((v : ℕ) → bit free.bits v ≡ false) → (p : ℕ) → p < length slots → is_some (slice_index_or slots p None) ≡ true
  all_taken none p lt = turned (is_some (slice_index_or slots p None)) (sym (row.vacant p lt) ∙ none p)
    where
      turned : (b : Bool) → not b ≡ false → b ≡ true
      turned true e = refl
      turned false e = sym e

  pub none_vacant : ((v : ℕ) → bit free.bits v ≡ false) → vacant_in slots ≡ 0
  none_vacant none = vacant-none slots (all_taken none)

  -- a free entry takes a slot
  pub row_filled : (new : BitRow) (v : ℕ) (slot : Slot) → bit free.bits v ≡ true → new.bits ≡ flipped free.bits v →
      IsFreeRow (set slots v (Some slot)) new
  row_filled new v slot is_set turned =
      let within = place_within free.bits v is_set in
      row_set slots free new v (Some slot) row (free_within v is_set) (ap length turned ∙ length-flipped free.bits v)
      (λ p. ap (λ xs. bit xs p) turned ∙ flipped_to free.bits v p false within is_set)

  module _ (v : ℕ) (there : IsSome (slice_index_or slots v None)) where
    pub slot_within : v < length slots
    slot_within = grind (arith, get_or_past)

    bit_within : v < length free.bits
    bit_within = omega (arith, slot_within, row.covers)

    unset : bit free.bits v ≡ false
    unset = row.vacant v slot_within ∙ ap not there

    -- a slot is taken out
    pub row_emptied : (new : BitRow) → new.bits ≡ flipped free.bits v → IsFreeRow (set slots v None) new
    row_emptied new turned =
        row_set slots free new v None row slot_within (ap length turned ∙ length-flipped free.bits v)
        (λ p. ap (λ xs. bit xs p) turned ∙ flipped_to free.bits v p true bit_within unset)

  -- a slot behind all entries
  pub row_pushed : (slot : Slot) → length slots < length free.bits → IsFreeRow (slots ++ Some slot ∷ []) free
  row_pushed slot more =
      record {
        covers = omega (arith, more, length_push slots (Some slot));
        vacant = λ p lt. by_test (ltb p (length slots))
            (λ t. row.vacant p (ltb-true p (length slots) t) ∙ sym (ap (λ o. not (is_some o)) (get_or_append_left slots (Some slot ∷ []) None p (ltb-true p (length slots) t))))
            (λ f. let past : length slots ≤ p = ltb-false p (length slots) f in
            let last : length slots ≡ p = omega (arith, past, lt, length_push slots (Some slot)) in
            row.none_after p past ∙ sym (ap (λ o. not (is_some o)) (get_or_push slots (Some slot) None p last)));
        none_after = λ p le. row.none_after p (omega (arith, le, length_push slots (Some slot)));
      }

  size_more : length (slots ++ None ∷ []) ≡ length slots + 1
  size_more = length_push slots None

  -- an entry without a slot behind all
  pub row_pushed_none : (new : BitRow) → length slots < length free.bits → new.bits ≡ flipped free.bits (length slots) →
      IsFreeRow (slots ++ None ∷ []) new
  row_pushed_none new more turned =
      record {
        covers = omega (arith, more, size_more, ap length turned, length-flipped free.bits (length slots));
        vacant = λ p lt. ap (λ xs. bit xs p) turned ∙ bit-flipped free.bits (length slots) p more ∙ by_test (ltb p (length slots))
            (λ t. let lt' = ltb-true p (length slots) t in
            ap (xor (bit free.bits p)) (ne_eqb p (length slots) (omega arith)) ∙ xor-false (bit free.bits p)
            ∙ row.vacant p lt' ∙ sym (ap (λ o. not (is_some o)) (get_or_append_left slots (None ∷ []) None p lt')))
            (λ f. let past : length slots ≤ p = ltb-false p (length slots) f in
            let last : p ≡ length slots = omega (arith, past, lt, size_more) in
            ap₂ xor (row.none_after p past) (eq-eqb p (length slots) last) ∙ sym (ap (λ o. not (is_some o)) (get_or_push slots None None p (sym last))));
        none_after = λ p le. let past : length slots < p = omega (arith, le, size_more) in
            ap (λ xs. bit xs p) turned ∙ bit-flipped free.bits (length slots) p more
            ∙ ap₂ xor (row.none_after p (omega arith)) (ne_eqb p (length slots) (omega arith));
      }

-- other slots under the same ids
pub row_same : (slots new : List (Option Slot)) (free copy : BitRow) → IsFreeRow slots free → length new ≡ length slots → ((p : ℕ) → told_at new p ≡ told_at slots p) →
    copy.bits ≡ free.bits → IsFreeRow new copy
row_same slots new free copy row size same bits =
    record {
      covers = omega (arith, row.covers, size, ap length bits);
      vacant = λ p lt. ap (λ xs. bit xs p) bits ∙ row.vacant p (omega (arith, lt, size)) ∙ ap not (live_if_some _ ∙ sym (ap (λ t. t.live) (same p)) ∙ sym (live_if_some _));
      none_after = λ p le. ap (λ xs. bit xs p) bits ∙ row.none_after p (omega (arith, le, size));
    }
