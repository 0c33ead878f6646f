-- What the words that are kept say of the bits of the row.
use Rattle.std.proofs.Common.{◌⊎◌, ◌≡◌, refl, sym, ◌∙◌, ap, ap₂, inl, inr, ℕ, zero, suc, ◌+◌, ◌-◌, ◌*◌, ◌/◌, ◌%◌, ◌^◌, ◌<◌, ◌≤◌, min, max, Bool, true, false, ◌&&◌, eqb, ltb, leb, List, [], ◌++◌, take, drop, replicate, length, get_or, slice_set, Some, lt-ltb, eq-eqb, ne_eqb, if◌then◌else◌, length-drop, ◌==◌, arith}
use Rattle.std.specs.Int.{w64, trailing_zeros}
use Rattle.std.specs.Int.RustNames.{bit_xor, bit_and}
use Rattle.std.specs.Int.Bits.{xor_zero_r}
use Rattle.std.specs.List.{refill}
use Rattle.std.proofs.lemmas.Bool.{cases_lt, cases_eq, cond-true, cond-false, le-ltb, le-leb, lt-leb, leb-true, and_parts}
use Rattle.std.proofs.lemmas.Grind.{same_number_lists, get_or-set_at}
use Rattle.std.proofs.lemmas.List.{get_or-set_other, get_or_past, get_or_append_left, get_or-append_right, get_or-take, get_or-drop, length-take}
use Rattle.std.proofs.lemmas.Nat.Bits.{bit_at-trailing_zeros, ones_shl, bit_at_mask_inside, bit_at_mask_below, bit_at-pow_same, bit_at-pow_other}
use Rattle.std.proofs.Math.Seq.{take-append_seam}
use Rattle.zx_model.specs.Bits.{xor}
use Rattle.zx_bits.specs.Rows.{IsFirstFrom}
use Rattle.zx_bits.specs.Internal.Words.{digit, is_odd}
use Rattle.zx_bits.specs.Internal.Windows.{word_at, word_from, is_set, end_of, span, Covers, EndsBy}
use Rattle.zx_bits.specs.declared.window.Window.{Window}
use Rattle.zx_model.proofs.BitLemmas.{and-true, and-false}
use Rattle.zx_bits.proofs.Sums.{is_odd-same, is_odd-none, is_odd-xor, is_odd-add, is_odd-either}
use Rattle.zx_bits.proofs.Digits.{digit-xor, digit-and, digit-zero, same_from_digits}

-- The next words are the first ones, with the first i of the added words added from the start on.
pub record AddsFirst (first next : List ℕ) (start : ℕ) (added : List ℕ) (i : ℕ) : Type 0 where
  pub within : i ≤ length added
  pub size : length next ≡ length first
  pub words : (v : ℕ) → get_or next v 0 ≡ bit_xor (get_or first v 0) (if ltb v (start + i) then word_from start added v else 0)

pub word_before : (w : Window) (number : ℕ) → number < w.offset → word_at w number ≡ 0
word_before w number lt = let t = lt-ltb number w.offset lt in rw t refl

pub word_past : (w : Window) (number : ℕ) → end_of w ≤ number → word_at w number ≡ 0
word_past w number le =
    let f = le-ltb number w.offset (omega arith) in
    rw f (get_or_past w.words.items (number - w.offset) 0 (omega arith))

pub word_kept : (start : ℕ) (words : List ℕ) (i : ℕ) → word_from start words (start + i) ≡ get_or words i 0
word_kept start words i =
    let e : start + i - start ≡ i = omega arith in
    cond-false (ltb (start + i) start) 0 _ (le-ltb _ _ (omega arith)) ∙ ap (λ j. get_or words j 0) e

pub word_behind : (w : Window) (number : ℕ) → w.offset ≤ number → word_at w number ≡ get_or w.words.items (number - w.offset) 0
word_behind w number le = cond-false (ltb number w.offset) 0 _ (le-ltb number w.offset le)

pub word_in : (w : Window) (words : List ℕ) (number : ℕ) → words ≡ w.words.items → w.offset ≤ number → get_or words (number - w.offset) 0 ≡ word_at w number
word_in w words number same le = ap (λ l. get_or l (number - w.offset) 0) same ∙ sym (word_behind w number le)

pub is_set-in_word : (w : Window) (number k : ℕ) → k < 64 → is_set w (64 * number + k) ≡ digit (word_at w number) k
is_set-in_word w number k lt =
    let which : (64 * number + k) / 64 ≡ number = omega arith in
    let where_in : (64 * number + k) % 64 ≡ k = omega arith in
    ap₂ (λ n i. digit (word_at w n) i) which where_in

unset_by_word : (w : Window) (place : ℕ) → word_at w (place / 64) ≡ 0 → is_set w place ≡ false
unset_by_word w place none = ap (λ n. digit n (place % 64)) none ∙ digit-zero (place % 64)

pub unset_before : (w : Window) (place : ℕ) → place < 64 * w.offset → is_set w place ≡ false
unset_before w place lt = unset_by_word w place (word_before w (place / 64) (omega arith))

pub unset_past : (w : Window) (place : ℕ) → 64 * end_of w ≤ place → is_set w place ≡ false
unset_past w place le = unset_by_word w place (word_past w (place / 64) (omega arith))

-- ---- what both have in common

left_unset : (a b : Bool) → a ≡ false → (a && b) ≡ false
left_unset a b e = ap (λ x. x && b) e

right_unset : (a b : Bool) → b ≡ false → (a && b) ≡ false
right_unset a b e = ap (λ x. a && x) e ∙ and-false a

-- before the first word of either, none is set in both
pub apart_before : (a b : Window) (number place : ℕ) → number ≡ max a.offset b.offset → place < 64 * number → (is_set a place && is_set b place) ≡ false
apart_before a b number place e lt =
    elim (cases_lt place (64 * a.offset)) [
      | inl l ↦ left_unset _ _ (unset_before a place l)
      | inr g ↦ right_unset (is_set a place) _ (unset_before b place (omega arith))
    ]

-- nor behind the last word of either
pub apart_past : (a b : Window) (number place : ℕ) → min (end_of a) (end_of b) ≤ number → 64 * number ≤ place → (is_set a place && is_set b place) ≡ false
apart_past a b number place past le =
    elim (cases_lt place (64 * end_of a)) [
      | inl l ↦ right_unset (is_set a place) _ (unset_past b place (omega arith))
      | inr g ↦ left_unset _ _ (unset_past a place g)
    ]

pub common_at_first : (a b : Window) (number : ℕ) → number ≡ max a.offset b.offset →
    is_odd 64 (digit 0) ≡ is_odd (64 * number) (λ place. is_set a place && is_set b place)
common_at_first a b number e =
    is_odd-none 64 _ (λ k lt. digit-zero k)
    ∙ sym (is_odd-none (64 * number) _ (λ place lt. apart_before a b number place e lt))

pub common_next : (a b : Window) (common number : ℕ) →
    is_odd 64 (digit common) ≡ is_odd (64 * number) (λ place. is_set a place && is_set b place) →
    is_odd 64 (digit (bit_xor common (bit_and (word_at a number) (word_at b number)))) ≡ is_odd (64 * (number + 1)) (λ place. is_set a place && is_set b place)
common_next a b common number before =
    let more : 64 * (number + 1) ≡ 64 * number + 64 = omega arith in
    let mask = bit_and (word_at a number) (word_at b number) in
    is_odd-same 64 (digit (bit_xor common mask)) (λ k. xor (digit common k) (digit mask k)) (λ k lt. digit-xor common mask k)
    ∙ is_odd-xor 64 (digit common) (digit (bit_and (word_at a number) (word_at b number)))
    ∙ ap₂ xor before (is_odd-same 64 _ _ (λ k lt. digit-and (word_at a number) (word_at b number) k
    ∙ sym (ap₂ (λ x y. x && y) (is_set-in_word a number k lt) (is_set-in_word b number k lt))))
    ∙ sym (is_odd-add (64 * number) 64 _) ∙ ap (λ n. is_odd n (λ place. is_set a place && is_set b place)) (sym more)

pub common_at_last : (a b : Window) (number len : ℕ) → min (end_of a) (end_of b) ≤ number → ((place : ℕ) → len ≤ place → is_set a place ≡ false) →
    is_odd (64 * number) (λ place. is_set a place && is_set b place) ≡ is_odd len (λ place. is_set a place && is_set b place)
common_at_last a b number len past unset =
    is_odd-either (64 * number) len _ (λ place le. apart_past a b number place past le) (λ place le. left_unset _ _ (unset place le))

-- ---- the first set bit

pub lowest : (word : ℕ) → 0 < word → word < 2 ^ 64 →
    (trailing_zeros w64 word < 64) × (digit word (trailing_zeros w64 word) ≡ true) × ((k : ℕ) → k < trailing_zeros w64 word → digit word k ≡ false)
lowest word some fits =
    let low = bit_at-trailing_zeros w64 word some fits in
    (low.0, ap (λ d. eqb d 1) low.1, λ k lt. ap (λ d. eqb d 1) (low.2 k lt))

-- the mask of the bits from k on
digit-mask : (k i : ℕ) → k < 64 → i < 64 → digit ((2 ^ 64 - 1) * 2 ^ k % 2 ^ 64) i ≡ leb k i
digit-mask k i lt within =
    ap (λ m. digit m i) (ones_shl 64 k (omega arith))
    ∙ elim (cases_lt i k) [
      | inl l ↦ ap (λ d. eqb d 1) (bit_at_mask_below k 64 i l) ∙ sym (lt-leb k i l)
      | inr g ↦ ap (λ d. eqb d 1) (bit_at_mask_inside k 64 i g within) ∙ sym (le-leb k i g)
    ]

pub digit-rest : (word k i : ℕ) → k < 64 → i < 64 → digit (bit_and word ((2 ^ 64 - 1) * 2 ^ k % 2 ^ 64)) i ≡ (digit word i && leb k i)
digit-rest word k i lt within = digit-and word _ i ∙ ap (λ b. digit word i && b) (digit-mask k i lt within)

-- a word whose bits from that of a place on are left
abbrev pub IsRest : Window → ℕ → ℕ → Type 0
IsRest w place rest = (i : ℕ) → i < 64 → digit rest i ≡ (digit (word_at w (place / 64)) i && leb (place % 64) i)

rest_unset : (w : Window) (place rest other : ℕ) → IsRest w place rest → place ≤ other → other < 64 * (place / 64) + 64 → digit rest (other % 64) ≡ false → is_set w other ≡ false
rest_unset w place rest other is le lt unset =
    let here : other / 64 ≡ place / 64 = omega arith in
    let from : leb (place % 64) (other % 64) ≡ true = le-leb _ _ (omega arith) in
    ap (λ n. digit (word_at w n) (other % 64)) here
    ∙ sym (and-true _) ∙ ap (λ b. digit (word_at w (place / 64)) (other % 64) && b) (sym from)
    ∙ sym (is (other % 64) (omega arith)) ∙ unset

pub first_in_rest : (w : Window) (place rest : ℕ) → IsRest w place rest → 0 < rest → rest < 2 ^ 64 → IsFirstFrom (is_set w) place (Some (place / 64 * 64 + trailing_zeros w64 rest))
first_in_rest w place rest is some fits =
    let low = lowest rest some fits in
    let t = trailing_zeros w64 rest in
    let within : t < 64 = low.0 in
    let parts : (digit (word_at w (place / 64)) t ≡ true) × (leb (place % 64) t ≡ true) = and_parts _ _ (sym (is t within) ∙ low.1) in
    let from : place % 64 ≤ t = leb-true (place % 64) t parts.1 in
    let e : place / 64 * 64 + t ≡ 64 * (place / 64) + t = omega arith in (
      omega arith,
      ap (is_set w) e ∙ is_set-in_word w (place / 64) t within ∙ parts.0,
      λ other le lt. rest_unset w place rest other is le (omega arith) (low.2 (other % 64) (omega arith)),
    )

pub none_in_rest : (w : Window) (place rest : ℕ) → IsRest w place rest → rest ≡ 0 → (other : ℕ) → place ≤ other → other < 64 * max w.offset (place / 64 + 1) → is_set w other ≡ false
none_in_rest w place rest is none other le lt =
    elim (cases_lt other (64 * (place / 64) + 64)) [
      | inl l ↦ rest_unset w place rest other is le l (ap (λ n. digit n (other % 64)) none ∙ digit-zero _)
      | inr g ↦ unset_before w other (omega arith)
    ]

pub first_in_word : (w : Window) (place number : ℕ) → place < 64 * number → ((other : ℕ) → place ≤ other → other < 64 * number → is_set w other ≡ false) →
    0 < word_at w number → word_at w number < 2 ^ 64 → IsFirstFrom (is_set w) place (Some (number * 64 + trailing_zeros w64 (word_at w number)))
first_in_word w place number after none some fits =
    let low = lowest (word_at w number) some fits in
    let t = trailing_zeros w64 (word_at w number) in
    let within : t < 64 = low.0 in
    let e : number * 64 + t ≡ 64 * number + t = omega arith in (
      omega arith,
      ap (is_set w) e ∙ is_set-in_word w number t within ∙ low.1,
      λ other le lt. elim (cases_lt other (64 * number)) [
        | inl l ↦ none other le l
        | inr g ↦
            let split : other ≡ 64 * number + (other - 64 * number) = omega arith in
            ap (is_set w) split ∙ is_set-in_word w number (other - 64 * number) (omega arith) ∙ low.2 (other - 64 * number) (omega arith)
      ],
    )

pub none_in_word : (w : Window) (place number : ℕ) → ((other : ℕ) → place ≤ other → other < 64 * number → is_set w other ≡ false) →
    word_at w number ≡ 0 → (other : ℕ) → place ≤ other → other < 64 * (number + 1) → is_set w other ≡ false
none_in_word w place number none zero_word other le lt =
    elim (cases_lt other (64 * number)) [
      | inl l ↦ none other le l
      | inr g ↦
          let here : other / 64 ≡ number = omega arith in
          ap (λ n. digit (word_at w n) (other % 64)) here ∙ ap (λ n. digit n (other % 64)) zero_word ∙ digit-zero _
    ]

pub none_at_all : (w : Window) (place number : ℕ) → ((other : ℕ) → place ≤ other → other < 64 * number → is_set w other ≡ false) →
    end_of w ≤ number → (other : ℕ) → place ≤ other → is_set w other ≡ false
none_at_all w place number none past other le =
    elim (cases_lt other (64 * number)) [
      | inl l ↦ none other le l
      | inr g ↦ unset_past w other (omega arith)
    ]

-- ---- words kept anew

pub zeros_after : (xs : List ℕ) (more j : ℕ) → get_or (xs ++ replicate more 0) j 0 ≡ get_or xs j 0
zeros_after xs more j =
    elim (cases_lt j (length xs)) [
      | inl l ↦ get_or_append_left xs (replicate more 0) 0 j l
      | inr g ↦ get_or-append_right xs (replicate more 0) (length xs) j 0 refl g ∙ zero_of more (j - length xs) ∙ sym (get_or_past xs j 0 g)
    ]
  where
    zero_of : (n i : ℕ) → ◌≡◌ {A = ℕ} (get_or (replicate n 0) i 0) 0
    zero_of zero i = refl
    zero_of (suc n) zero = refl
    zero_of (suc n) (suc i) = zero_of n i

-- where words begin at a place that may be any if there are none
started : (w : Window) (start number : ℕ) → (0 < length w.words.items → start ≡ w.offset) →
    word_at w number ≡ (if ltb number start then 0 else get_or w.words.items (number - start) 0)
started w start number kept =
    elim (cases_lt 0 (length w.words.items)) [
      | inl some ↦ ap (λ o. if ltb number o then 0 else get_or w.words.items (number - o) 0) (sym (kept some))
      | inr none ↦ nothing none (ltb number w.offset) (number - w.offset) ∙ sym (nothing none (ltb number start) (number - start))
    ]
  where
    nothing : length w.words.items ≤ 0 → (b : Bool) (i : ℕ) → (if b then 0 else get_or w.words.items i 0) ≡ 0
    nothing none true i = refl
    nothing none false i = get_or_past w.words.items i 0 (omega arith)

-- how many there are then, whichever way it is told where they begin
pub span_from : (offset count start first stop : ℕ) → (0 < count → start ≡ offset) → (count ≡ 0 → start ≡ first) → first < stop →
    span offset count first stop ≡ max (start + count) stop - min start first
span_from offset count start first stop kept none lt =
    elim (cases_eq count 0) [
      | inl e ↦ let at : start ≡ first = none e in cond-true (eqb count 0) _ _ (eq-eqb count 0 e) ∙ omega arith
      | inr some ↦ let at : start ≡ offset = kept (omega arith) in cond-false (eqb count 0) _ _ (ne_eqb count 0 some) ∙ omega arith
    ]

-- words with zeros put behind and then in front of them
pub covered : (old new : Window) (xs : List ℕ) (start stop from offset more : ℕ) → (0 < length old.words.items → from ≡ old.offset) →
    (length old.words.items ≡ 0 → from ≡ start) → offset ≡ min from start → start < stop → xs ≡ old.words.items ++ replicate more 0 →
    length xs ≡ max (from + length old.words.items) stop - offset → new.offset ≡ offset → length new.words.items ≡ length xs →
    ((i : ℕ) → i < length xs → get_or new.words.items i 0 ≡ (if ltb i (from - offset) then 0 else get_or xs (i - (from - offset)) 0)) →
    old.words.capacity ≤ new.words.capacity → Covers start stop old new
covered old new xs start stop from offset more kept none lowest_is some filled size first whole moved capacity = record {
  words = words;
  first = omega arith;
  end = omega (arith, whole);
  no_further = no_further;
  capacity = capacity;
}
  where
    no_further : end_of new ≤ max (end_of old) stop
    no_further =
        elim (cases_lt 0 (length old.words.items)) [
          | inl l ↦ let e : from ≡ old.offset = kept l in omega (arith, whole)
          | inr g ↦ let e : from ≡ start = none (omega arith) in omega (arith, whole)
        ]

    behind : (number : ℕ) → offset ≤ number → get_or new.words.items (number - offset) 0 ≡ (if ltb number from then 0 else get_or old.words.items (number - from) 0)
    behind number le =
        elim (cases_lt (number - offset) (length xs)) [
          | inl l ↦ moved (number - offset) l ∙ within number le
          | inr g ↦
              get_or_past new.words.items (number - offset) 0 (omega arith)
              ∙ sym (cond-false (ltb number from) 0 _ (le-ltb _ _ (omega arith)) ∙ get_or_past old.words.items (number - from) 0 (omega arith))
        ]
      where
        within : (number : ℕ) → offset ≤ number →
            (if ltb (number - offset) (from - offset) then 0 else get_or xs (number - offset - (from - offset)) 0) ≡ (if ltb number from then 0 else get_or old.words.items (number - from) 0)
        within number le =
            elim (cases_lt number from) [
              | inl l ↦ cond-true (ltb (number - offset) (from - offset)) 0 _ (lt-ltb _ _ (omega arith)) ∙ sym (cond-true (ltb number from) 0 _ (lt-ltb _ _ l))
              | inr g ↦
                  let place : number - offset - (from - offset) ≡ number - from = omega arith in
                  cond-false (ltb (number - offset) (from - offset)) 0 _ (le-ltb _ _ (omega arith))
                  ∙ ap₂ (λ l i. get_or l i 0) filled place ∙ zeros_after old.words.items more (number - from)
                  ∙ sym (cond-false (ltb number from) 0 _ (le-ltb _ _ g))
            ]

    words : (number : ℕ) → word_at new number ≡ word_at old number
    words number =
        elim (cases_lt number new.offset) [
          | inl l ↦ cond-true (ltb number new.offset) 0 _ (lt-ltb _ _ l) ∙ sym (cond-true (ltb number from) 0 _ (lt-ltb _ _ (omega arith)))
          | inr g ↦
              cond-false (ltb number new.offset) 0 _ (le-ltb _ _ g)
              ∙ ap (λ o. get_or new.words.items (number - o) 0) first ∙ behind number (omega arith)
        ] ∙ sym (started old from number kept)

-- ---- words that are added to

-- one bit of a word is a place of the row
digit-place : (place other : ℕ) → digit (if other / 64 == place / 64 then 2 ^ (place % 64) else 0) (other % 64) ≡ eqb other place
digit-place place other =
    elim (cases_eq other place) [
      | inl e ↦
          let word : eqb (other / 64) (place / 64) ≡ true = eq-eqb _ _ (ap (λ p. p / 64) e) in
          ap (λ n. digit n (other % 64)) (cond-true (eqb (other / 64) (place / 64)) _ 0 word)
          ∙ ap (λ p. digit (2 ^ (place % 64)) (p % 64)) e ∙ ap (λ d. eqb d 1) (bit_at-pow_same (place % 64)) ∙ sym (eq-eqb other place e)
      | inr apart ↦
          elim (cases_eq (other / 64) (place / 64)) [
            | inl e ↦
                ap (λ n. digit n (other % 64)) (cond-true (eqb (other / 64) (place / 64)) _ 0 (eq-eqb _ _ e))
                ∙ ap (λ d. eqb d 1) (bit_at-pow_other (place % 64) (other % 64) (λ same. apart (omega arith)))
            | inr n ↦ ap (λ m. digit m (other % 64)) (cond-false (eqb (other / 64) (place / 64)) _ 0 (ne_eqb _ _ n)) ∙ digit-zero (other % 64)
          ] ∙ sym (ne_eqb other place apart)
    ]

pub flipped_bits : (old mid new : Window) (place mask : ℕ) → ((number : ℕ) → word_at mid number ≡ word_at old number) → mask ≡ 2 ^ (place % 64) →
    ((number : ℕ) → word_at new number ≡ bit_xor (word_at mid number) (if number == place / 64 then mask else 0)) →
    (other : ℕ) → is_set new other ≡ xor (is_set old other) (eqb other place)
flipped_bits old mid new place mask same is words other =
    ap (λ n. digit n (other % 64)) (words (other / 64))
    ∙ digit-xor (word_at mid (other / 64)) _ (other % 64)
    ∙ ap₂ xor (ap (λ n. digit n (other % 64)) (same (other / 64)))
    (ap (λ m. digit (if other / 64 == place / 64 then m else 0) (other % 64)) is ∙ digit-place place other)

-- the words so far are added, and one more is
pub words_next : (start self next added : ℕ → ℕ) (number : ℕ) →
    ((v : ℕ) → self v ≡ bit_xor (start v) (if ltb v number then added v else 0)) →
    ((v : ℕ) → next v ≡ bit_xor (self v) (if v == number then added number else 0)) →
    (v : ℕ) → next v ≡ bit_xor (start v) (if ltb v (number + 1) then added v else 0)
words_next start self next added number before last v =
    elim (cases_eq v number) [
      | inl e ↦
          last v ∙ ap₂ bit_xor (before v ∙ ap (bit_xor (start v)) (cond-false (ltb v number) _ 0 (le-ltb _ _ (omega arith))) ∙ xor_zero_r _)
          (cond-true (eqb v number) _ 0 (eq-eqb _ _ e) ∙ ap added (sym e) ∙ sym (cond-true (ltb v (number + 1)) _ 0 (lt-ltb _ _ (omega arith))))
      | inr apart ↦
          last v ∙ ap (bit_xor (self v)) (cond-false (eqb v number) _ 0 (ne_eqb _ _ apart)) ∙ xor_zero_r _ ∙ before v
          ∙ ap (λ b. bit_xor (start v) (if b then added v else 0)) (same_side apart (cases_lt v number))
    ]
  where
    same_side : ¬ (v ≡ number) → (v < number) ⊎ (number ≤ v) → ltb v number ≡ ltb v (number + 1)
    same_side apart (inl l) = lt-ltb v number l ∙ sym (lt-ltb v (number + 1) (omega arith))
    same_side apart (inr g) = le-ltb v number g ∙ sym (le-ltb v (number + 1) (omega arith))

-- nothing is left to add from the end on
pub words_whole : (start : ℕ) (added : List ℕ) (v number : ℕ) → start + length added ≤ number →
    (if ltb v number then word_from start added v else 0) ≡ word_from start added v
words_whole start added v number past =
    elim (cases_lt v number) [
      | inl l ↦ cond-true (ltb v number) _ 0 (lt-ltb _ _ l)
      | inr g ↦
          cond-false (ltb v number) _ 0 (le-ltb _ _ g)
          ∙ sym (cond-false (ltb v start) 0 _ (le-ltb _ _ (omega arith)) ∙ get_or_past added (v - start) 0 (omega arith))
    ]

-- words added to those that are kept, which reach as far
pub words_added : (mid new other : Window) (first : ℕ) → mid.offset ≤ other.offset → first ≡ other.offset - mid.offset → new.offset ≡ mid.offset →
    ((i : ℕ) → get_or new.words.items i 0 ≡ bit_xor (get_or mid.words.items i 0) (word_from first other.words.items i)) →
    (v : ℕ) → word_at new v ≡ bit_xor (word_at mid v) (word_at other v)
words_added mid new other first le from offset words v =
    elim (cases_lt v mid.offset) [
      | inl l ↦
          word_before new v (omega arith) ∙ sym (xor_zero_r 0) ∙ sym (ap₂ bit_xor (word_before mid v l) (word_before other v (omega arith)))
      | inr g ↦
          let i : v - new.offset ≡ v - mid.offset = omega arith in
          cond-false (ltb v new.offset) 0 _ (le-ltb _ _ (omega arith)) ∙ ap (λ j. get_or new.words.items j 0) i ∙ words (v - mid.offset)
          ∙ ap₂ bit_xor (sym (cond-false (ltb v mid.offset) 0 _ (le-ltb _ _ g)))
          (elim (cases_lt v other.offset) [
            | inl l ↦ cond-true (ltb (v - mid.offset) first) 0 _ (lt-ltb _ _ (omega arith)) ∙ sym (word_before other v l)
            | inr h ↦
                let same : v - mid.offset - first ≡ v - other.offset = omega arith in
                cond-false (ltb (v - mid.offset) first) 0 _ (le-ltb _ _ (omega arith)) ∙ ap (λ j. get_or other.words.items j 0) same
                ∙ sym (cond-false (ltb v other.offset) 0 _ (le-ltb _ _ h))
          ])
    ]

pub added_bits : (old mid new other : Window) → ((v : ℕ) → word_at mid v ≡ word_at old v) →
    ((v : ℕ) → word_at new v ≡ bit_xor (word_at mid v) (word_at other v)) →
    (place : ℕ) → is_set new place ≡ xor (is_set old place) (is_set other place)
added_bits old mid new other same words place =
    ap (λ n. digit n (place % 64)) (words (place / 64) ∙ ap (λ w. bit_xor w (word_at other (place / 64))) (same (place / 64)))
    ∙ digit-xor (word_at old (place / 64)) (word_at other (place / 64)) (place % 64)

pub none_without_words : (w : Window) → w.words.items ≡ [] → (place : ℕ) → is_set w place ≡ false
none_without_words w none place =
    unset_by_word w place
    (elim (cases_lt (place / 64) w.offset) [
      | inl l ↦ word_before w (place / 64) l
      | inr g ↦ word_past w (place / 64) (let size = ap length none in omega (arith, size))
    ])

-- ---- words of which only some bits are kept

-- the words so far are cut, and one more is
pub kept_next : (start self : List ℕ) (kept : ℕ → ℕ) (number word : ℕ) → number < length self → word ≡ kept number →
    ((v : ℕ) → get_or self v 0 ≡ (if ltb v number then bit_and (get_or start v 0) (kept v) else get_or start v 0)) →
    (v : ℕ) → get_or (slice_set self number (bit_and (get_or self number 0) word)) v 0
    ≡ (if ltb v (number + 1) then bit_and (get_or start v 0) (kept v) else get_or start v 0)
kept_next start self kept number word within is before v =
    elim (cases_eq v number) [
      | inl e ↦
          get_or-set_at self number v _ 0 e within
          ∙ ap₂ bit_and (before number ∙ cond-false (ltb number number) _ _ (le-ltb _ _ (omega arith)) ∙ ap (λ i. get_or start i 0) (sym e)) (is ∙ ap kept (sym e))
          ∙ sym (cond-true (ltb v (number + 1)) _ _ (lt-ltb _ _ (omega arith)))
      | inr apart ↦
          get_or-set_other self number v _ 0 apart ∙ before v
          ∙ ap (λ b. if b then bit_and (get_or start v 0) (kept v) else get_or start v 0) (same_side apart (cases_lt v number))
    ]
  where
    same_side : ¬ (v ≡ number) → (v < number) ⊎ (number ≤ v) → ltb v number ≡ ltb v (number + 1)
    same_side apart (inl l) = lt-ltb v number l ∙ sym (lt-ltb v (number + 1) (omega arith))
    same_side apart (inr g) = le-ltb v number g ∙ sym (le-ltb v (number + 1) (omega arith))

-- nothing is left to cut from the end on
pub kept_whole : (start : List ℕ) (kept : ℕ → ℕ) (number v : ℕ) → length start ≤ number →
    (if ltb v number then bit_and (get_or start v 0) (kept v) else get_or start v 0) ≡ bit_and (get_or start v 0) (kept v)
kept_whole start kept number v past =
    elim (cases_lt v number) [
      | inl l ↦ cond-true (ltb v number) _ _ (lt-ltb _ _ l)
      | inr g ↦
          let none : get_or start v 0 ≡ 0 = get_or_past start v 0 (omega arith) in
          cond-false (ltb v number) _ _ (le-ltb _ _ g) ∙ none ∙ sym (ap (λ w. bit_and w (kept v)) none)
    ]

pub kept_places : (old new other : Window) → new.offset ≡ old.offset →
    ((i : ℕ) → get_or new.words.items i 0 ≡ bit_and (get_or old.words.items i 0) (word_at other (old.offset + i))) →
    (place : ℕ) → is_set new place ≡ (is_set old place && is_set other place)
kept_places old new other at words place =
    ap (λ n. digit n (place % 64)) (word (place / 64)) ∙ digit-and (word_at old (place / 64)) (word_at other (place / 64)) (place % 64)
  where
    word : (v : ℕ) → word_at new v ≡ bit_and (word_at old v) (word_at other v)
    word v =
        elim (cases_lt v old.offset) [
          | inl l ↦ word_before new v (omega arith) ∙ sym (ap (λ w. bit_and w (word_at other v)) (word_before old v l))
          | inr g ↦
              let back : old.offset + (v - old.offset) ≡ v = omega arith in
              word_behind new v (omega arith) ∙ ap (λ o. get_or new.words.items (v - o) 0) at ∙ words (v - old.offset)
              ∙ ap₂ (λ n i. bit_and n (word_at other i)) (sym (word_behind old v g)) back
        ]

-- what a slice of the same length leaves of a list
pub refilled : (n : ℕ) (xs ws : List ℕ) → length ws ≡ n → refill n xs ws ≡ ws
refilled n xs ws e = ap (λ k. take k (ws ++ drop (length ws) xs)) (sym e) ∙ take-append_seam ws (drop (length ws) xs)

-- ---- words at both ends that are 0

-- a list that is moved to the front and cut has lost its front
pub front_lost : (xs ws : List ℕ) (k n m : ℕ) → k ≤ length xs → n ≡ length xs - k → length ws ≡ length xs → length ws ≡ m →
    ((i : ℕ) → k + i < length xs → get_or ws i 0 ≡ get_or xs (k + i) 0) → take n (refill m xs ws) ≡ drop k xs
front_lost xs ws k n m le size long same moved =
    ap (take n) (refilled m xs ws same)
    ∙ same_number_lists (take n ws) (drop k xs) (omega (arith, length-take n ws, length-drop k xs))
    (λ i lt.
    let below : i < n = omega (arith, length-take n ws) in
    get_or-take n ws i 0 below ∙ moved i (omega arith) ∙ sym (get_or-drop k xs i 0))

pub trimmed : (old new : Window) (end first : ℕ) → end ≤ length old.words.items → first ≤ end → ((i : ℕ) → end ≤ i → get_or old.words.items i 0 ≡ 0) →
    ((i : ℕ) → i < first → get_or (take end old.words.items) i 0 ≡ 0) → new.offset ≡ old.offset + first → new.words.items ≡ drop first (take end old.words.items) →
    (number : ℕ) → word_at new number ≡ word_at old number
trimmed old new end first within below after before offset items number =
    elim (cases_lt number old.offset) [
      | inl l ↦ word_before new number (omega arith) ∙ sym (word_before old number l)
      | inr g ↦
          elim (cases_lt number new.offset) [
            | inl l ↦
                word_before new number l ∙ sym (before (number - old.offset) (omega arith)) ∙ get_or-take end old.words.items (number - old.offset) 0 (omega arith)
                ∙ sym (cond-false (ltb number old.offset) 0 _ (le-ltb _ _ g))
            | inr h ↦
                let place : first + (number - new.offset) ≡ number - old.offset = omega arith in
                cond-false (ltb number new.offset) 0 _ (le-ltb _ _ h)
                ∙ ap (λ l. get_or l (number - new.offset) 0) items ∙ get_or-drop first (take end old.words.items) (number - new.offset) 0
                ∙ ap (λ i. get_or (take end old.words.items) i 0) place ∙ cut (number - old.offset) ∙ sym (cond-false (ltb number old.offset) 0 _ (le-ltb _ _ g))
          ]
    ]
  where
    cut : (i : ℕ) → get_or (take end old.words.items) i 0 ≡ get_or old.words.items i 0
    cut i =
        elim (cases_lt i end) [
          | inl l ↦ get_or-take end old.words.items i 0 l
          | inr g ↦ get_or_past (take end old.words.items) i 0 (omega (arith, length-take end old.words.items)) ∙ sym (after i g)
        ]

pub same_places : (old new : Window) → ((number : ℕ) → word_at new number ≡ word_at old number) → (place : ℕ) → is_set new place ≡ is_set old place
same_places old new same place = ap (λ n. digit n (place % 64)) (same (place / 64))

-- ---- windows with the same places

pub same_before : (a b : Window) (v : ℕ) → v < min a.offset b.offset → word_at a v ≡ word_at b v
same_before a b v lt = word_before a v (omega arith) ∙ sym (word_before b v (omega arith))

pub same_next : (a b : Window) (number : ℕ) → ((v : ℕ) → v < number → word_at a v ≡ word_at b v) → word_at a number ≡ word_at b number →
    (v : ℕ) → v < number + 1 → word_at a v ≡ word_at b v
same_next a b number before here v lt =
    elim (cases_lt v number) [
      | inl l ↦ before v l
      | inr g ↦ let e : v ≡ number = omega arith in ap (word_at a) e ∙ here ∙ sym (ap (word_at b) e)
    ]

pub same_at_last : (a b : Window) (number : ℕ) → ((v : ℕ) → v < number → word_at a v ≡ word_at b v) → max (end_of a) (end_of b) ≤ number →
    (v : ℕ) → word_at a v ≡ word_at b v
same_at_last a b number before past v =
    elim (cases_lt v number) [
      | inl l ↦ before v l
      | inr g ↦ word_past a v (omega arith) ∙ sym (word_past b v (omega arith))
    ]

pub same_words : (a b : Window) (number u v : ℕ) → u ≡ word_at a number → v ≡ word_at b number → u < 2 ^ 64 → v < 2 ^ 64 →
    ((place : ℕ) → is_set a place ≡ is_set b place) → u ≡ v
same_words a b number u v of_a of_b fits_u fits_v same =
    same_from_digits u v fits_u fits_v
    (λ k lt. ap (λ n. digit n k) of_a ∙ sym (is_set-in_word a number k lt) ∙ same (64 * number + k) ∙ is_set-in_word b number k lt ∙ ap (λ n. digit n k) (sym of_b))

-- of windows that keep words of the same numbers, the words are the same
pub same_items : (a b : Window) → a.offset ≡ b.offset → length a.words.items ≡ length b.words.items →
    ((i : ℕ) → get_or a.words.items i 0 < 2 ^ 64) → ((i : ℕ) → get_or b.words.items i 0 < 2 ^ 64) →
    ((place : ℕ) → is_set a place ≡ is_set b place) → a.words.items ≡ b.words.items
same_items a b at size fits_a fits_b same =
    same_number_lists _ _ size
    (λ k lt. same_words a b (a.offset + k) _ _ (sym (word_kept a.offset a.words.items k)) (sym (ap (λ o. word_at b (o + k)) at ∙ word_kept b.offset b.words.items k)) (fits_a k) (fits_b k) same)

pub same_by_items : (a b : Window) → a.offset ≡ b.offset → a.words.items ≡ b.words.items → (place : ℕ) → is_set a place ≡ is_set b place
same_by_items a b at items place =
    ap₂ (λ offset (l : List ℕ). digit (if ltb (place / 64) offset then 0 else get_or l (place / 64 - offset) 0) (place % 64)) at items

-- ---- words behind which all are 0

pub none_in_zeros : (w : Window) → ((i : ℕ) → 0 ≤ i → get_or w.words.items i 0 ≡ 0) → (place : ℕ) → is_set w place ≡ false
none_in_zeros w zeros place =
    unset_by_word w place
    (elim (cases_lt (place / 64) w.offset) [
      | inl l ↦ word_before w (place / 64) l
      | inr g ↦ word_behind w (place / 64) g ∙ zeros (place / 64 - w.offset) (omega arith)
    ])

-- a word with a bit set comes before where no place is set any more
pub ends_after : (w : Window) (count stop : ℕ) → 0 < count → ¬ (get_or w.words.items (count - 1) 0 ≡ 0) → get_or w.words.items (count - 1) 0 < 2 ^ 64 →
    EndsBy stop w → w.offset + count ≤ stop
ends_after w count stop some last fits unset =
    elim (cases_lt stop (w.offset + count)) [
      | inl l ↦
          absurd (last (same_from_digits _ 0 fits (omega arith)
          (λ k lt. ap (λ n. digit n k) (sym (word_kept w.offset w.words.items (count - 1)))
          ∙ sym (is_set-in_word w (w.offset + (count - 1)) k lt) ∙ unset (64 * (w.offset + (count - 1)) + k) (omega arith) ∙ sym (digit-zero k))))
      | inr g ↦ g
    ]
