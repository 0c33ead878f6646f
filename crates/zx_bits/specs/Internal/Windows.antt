-- The words of a row that are kept, with how many come before them.
use Rattle.std.specs.Prelude.{◌≡◌, ◌<◌, ◌≤◌, ◌+◌, ◌-◌, ◌/◌, ◌%◌, ◌*◌, ◌^◌, ◌==◌, ◌&&◌, ℕ, Bool, false, if◌then◌else◌}
use Rattle.std.specs.Prelude.{List, ltb, leb, length, get_or, max, min, filter}
use Rattle.std.specs.List.{range_with_len}
use Rattle.std.specs.Int.RustNames.{bit_xor}
use Rattle.zx_bits.specs.Rows.{BitRow}
use Rattle.zx_bits.specs.Sets.{BitSet}
use Rattle.zx_bits.specs.Internal.Words.{digit, tabulated}
use Rattle.zx_bits.specs.declared.window.Window.{Window}

-- the word with a number, where so many words come before these
abbrev pub word_from : ℕ → List ℕ → ℕ → ℕ
word_from start words number = if ltb number start then 0 else get_or words (number - start) 0

-- the word of the whole row with this number
abbrev pub word_at : Window → ℕ → ℕ
word_at w number = word_from w.offset w.words.items number

-- whether the bit of the row at a place is set
abbrev pub is_set : Window → ℕ → Bool
is_set w place = digit (word_at w (place / 64)) (place % 64)

-- the number of the first word after those that are kept
abbrev pub end_of : Window → ℕ
end_of w = w.offset + length w.words.items

-- how many words there are from the first to the last of so many from a start on and of those from first up to stop
abbrev pub span : ℕ → ℕ → ℕ → ℕ → ℕ
span start count first stop = if count == 0 then stop - first else max (start + count) stop - min start first

-- there are words from start up to stop, whose numbers are as small as those of the words that are kept
pub record CanKeep (start stop : ℕ) (w : Window) : Type 0 where
  pub some : start < stop
  pub within : stop ≤ 2 ^ 58
  pub bounded : end_of w ≤ 2 ^ 58

-- new keeps the words from start up to stop too, which were 0 where they weren't kept
pub record Covers (start stop : ℕ) (old new : Window) : Type 0 where
  pub words : (number : ℕ) → word_at new number ≡ word_at old number
  pub first : new.offset ≤ start
  pub end : stop ≤ end_of new
  pub no_further : end_of new ≤ max (end_of old) stop
  pub capacity : old.words.capacity ≤ new.words.capacity

-- one word is added to at the bits of a mask, and all else stays
pub record AddsTo (number mask : ℕ) (old new : Window) : Type 0 where
  pub words : (other : ℕ) → word_at new other ≡ bit_xor (word_at old other) (if other == number then mask else 0)
  pub offset : new.offset ≡ old.offset
  pub size : length new.words.items ≡ length old.words.items
  pub capacity : new.words.capacity ≡ old.words.capacity

-- no bit from a place on is set, the words end with that of the last place before it, and there is memory for all
-- words up to that
pub record IsWithin (len : ℕ) (w : Window) : Type 0 where
  pub unset : (place : ℕ) → len ≤ place → is_set w place ≡ false
  pub end : 64 * end_of w < len + 64
  pub fits : len < 2 ^ 64
  pub room : len ≤ 64 * w.words.capacity

-- the row of so many bits
abbrev pub row_of : ℕ → Window → BitRow
row_of len w = record { bits = tabulated len (is_set w) }

-- the places that are set, by rising number
abbrev pub places_of : Window → List ℕ
places_of w = filter (is_set w) (range_with_len 0 (64 * end_of w))

-- no place of a word from this number on is set
abbrev pub EndsBy : ℕ → Window → Type 0
EndsBy stop w = (place : ℕ) → 64 * stop ≤ place → is_set w place ≡ false

-- below which bound any place can be set without memory
abbrev pub room_of : Window → ℕ
room_of w = if leb (end_of w) w.words.capacity then min (64 * w.words.capacity) (2 ^ 64 - 64) else 0

-- the set of these numbers
abbrev pub set_of : Window → BitSet
set_of w = record { numbers = places_of w; room = room_of w }

-- whether a place is set that wasn't told yet: of these words the one with an index is read, of whose bits this rest
-- is left
abbrev pub is_left : ℕ → List ℕ → ℕ → ℕ → ℕ → Bool
is_left offset words index rest place =
    if place / 64 == offset + index then digit rest (place % 64) else
    ltb (offset + index) (place / 64) && digit (word_from offset words (place / 64)) (place % 64)

-- these places, by rising number
abbrev pub left_of : ℕ → List ℕ → ℕ → ℕ → List ℕ
left_of offset words index rest =
    filter (is_left offset words index rest) (range_with_len 0 (64 * (offset + length words)))
