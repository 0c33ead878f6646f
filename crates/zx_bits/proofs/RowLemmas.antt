-- What the kept words say of the list of bits.
use Rattle.std.proofs.Common.{◌≡◌, sym, ◌∙◌, ap, ap₂, inl, inr, ℕ, ◌+◌, ◌*◌, ◌/◌, ◌%◌, ◌<◌, ◌≤◌, max, ◌&&◌, eqb, length, Result, Ok, Err, IsOk, OnOk, arith}
use Rattle.std.proofs.lemmas.Bool.{cases_lt, false≢true, ne_eqb}
use Rattle.zx_model.specs.Bits.{xor, bit}
use Rattle.zx_bits.specs.Rows.{BitRow, flipped, xor_lists, parity_of}
use Rattle.zx_bits.specs.Internal.Words.{digit, tabulated, is_odd}
use Rattle.zx_bits.specs.Internal.Windows.{word_from, is_set, end_of, IsWithin, row_of}
use Rattle.zx_bits.specs.declared.window.Window.{Window}
use Rattle.zx_bits.proofs.Lists.{length-tabulated, tabulated-same, bit-tabulated, bit-past, flipped-tabulated, xor_lists-tabulated, parity_of-tabulated}

-- ---- a row that is seen as these bits

module _ (len : ℕ) (w : Window) (row : BitRow) (view_is : row_of len w ≡ row) where
  pub len_is : len ≡ length row.bits
  len_is = sym (length-tabulated len (is_set w)) ∙ ap (λ r. length r.bits) view_is

  pub bits_are : IsWithin len w → bit row.bits ≡ is_set w
  bits_are within = λ i k. at k i
    where
      at : (k : ℕ) → bit row.bits k ≡ is_set w k
      at k =
          ap (λ r. bit r.bits k) (sym view_is)
          ∙ elim (cases_lt k len) [
            | inl l ↦ bit-tabulated len (is_set w) k l
            | inr g ↦ bit-past (tabulated len (is_set w)) k (omega (arith, length-tabulated len (is_set w))) ∙ sym (within.unset k g)
          ]

  pub tabulated-flipped : (new : Window) (place : ℕ) → ((k : ℕ) → is_set new k ≡ xor (is_set w k) (eqb k place)) → tabulated len (is_set new) ≡ flipped row.bits place
  tabulated-flipped new place is =
      tabulated-same len _ _ (λ k lt. is k) ∙ sym (flipped-tabulated len (is_set w) place) ∙ ap (λ r. flipped r.bits place) view_is

  -- ---- with another of the same length
  module _ (other_len : ℕ) (v : Window) (other : BitRow) (other_is : row_of other_len v ≡ other) (same : length other.bits ≡ length row.bits) where
    pub same_length : other_len ≡ len
    same_length = sym (length-tabulated other_len (is_set v)) ∙ ap (λ r. length r.bits) other_is ∙ same ∙ sym len_is

    other_bits : tabulated len (is_set v) ≡ other.bits
    other_bits = ap (λ n. tabulated n (is_set v)) (sym same_length) ∙ ap (λ r. r.bits) other_is

    pub tabulated-added : (new : Window) → ((k : ℕ) → is_set new k ≡ xor (is_set w k) (is_set v k)) → tabulated len (is_set new) ≡ xor_lists row.bits other.bits
    tabulated-added new is =
        tabulated-same len _ _ (λ k lt. is k) ∙ sym (xor_lists-tabulated len (is_set w) (is_set v))
        ∙ ap₂ xor_lists (ap (λ r. r.bits) view_is) other_bits

    pub parity_is : is_odd len (λ k. is_set w k && is_set v k) ≡ parity_of row.bits other.bits
    parity_is = sym (parity_of-tabulated len (is_set w) (is_set v)) ∙ ap₂ parity_of (ap (λ r. r.bits) view_is) other_bits

-- ---- what stays so

pub same_set : (old new : Window) → new.offset ≡ old.offset → new.words.items ≡ old.words.items → is_set new ≡ is_set old
same_set old new offset items = ap₂ (λ o words place. digit (word_from o words (place / 64)) (place % 64)) offset items

-- there is room for the words up to any that holds one of its bits
pub has_capacity : (len : ℕ) (w : Window) → IsWithin len w → (stop : ℕ) → 64 * stop < len + 64 → stop ≤ w.words.capacity
has_capacity len w within stop below = omega (arith, within.room)

pub within_flipped : (len place : ℕ) (old new : Window) → IsWithin len old → place < len →
    ((k : ℕ) → is_set new k ≡ xor (is_set old k) (eqb k place)) → end_of new ≤ max (end_of old) (place / 64 + 1) →
    old.words.capacity ≤ new.words.capacity → IsWithin len new
within_flipped len place old new within lt is stop more = record {
  unset = λ k le. is k ∙ ap₂ xor (within.unset k le) (ne_eqb k place (λ e. omega arith));
  end = omega (arith, within.end, stop);
  fits = within.fits;
  room = omega (arith, within.room, more);
}

pub within_added : (len : ℕ) (old other new : Window) → IsWithin len old → IsWithin len other →
    ((k : ℕ) → is_set new k ≡ xor (is_set old k) (is_set other k)) → end_of new ≤ max (end_of old) (end_of other) →
    old.words.capacity ≤ new.words.capacity → IsWithin len new
within_added len old other new within also is stop more = record {
  unset = λ k le. is k ∙ ap₂ xor (within.unset k le) (also.unset k le);
  end = omega (arith, within.end, also.end, stop);
  fits = within.fits;
  room = omega (arith, within.room, more);
}

-- what is said of an answer that came
pub from_ok : {T E P : Type 0} (r : Result T E) → IsOk r → OnOk r P → P
from_ok (Ok x) ok p = p
from_ok (Err e) ok p = absurd (false≢true ok)
