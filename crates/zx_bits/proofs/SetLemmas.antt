-- What the words that are kept say of a set of numbers.
use Rattle.std.proofs.Common.{◌≡◌, sym, ◌∙◌, ap, ap₂, inl, inr, ℕ, ◌+◌, ◌-◌, ◌*◌, ◌^◌, ◌<◌, ◌≤◌, max, min, Bool, ◌&&◌, length, get_or, count_by, Result, Ok, Err, OnOk, OnErr, arith}
use Rattle.std.specs.Int.RustNames.{bit_and, count_ones}
use Rattle.std.proofs.lemmas.Bool.{cases_lt, cond-true, cond-false, le-leb, lt-leb, false_from_ne_true}
use Rattle.std.proofs.lemmas.Nat.{and_le_l}
use Rattle.zx_model.specs.Bits.{member}
use Rattle.zx_bits.specs.Sets.{BitSet, IsRising, IsBelow}
use Rattle.zx_bits.specs.Internal.Words.{digit, how_many}
use Rattle.zx_bits.specs.Internal.Windows.{word_at, is_set, end_of, places_of, EndsBy, room_of, set_of}
use Rattle.zx_bits.specs.declared.window.Window.{Window}
use Rattle.zx_bits.proofs.Counts.{many-same, many-none, many-add, many-either}
use Rattle.zx_bits.proofs.Digits.{digit-and, count_ones-many}
use Rattle.zx_bits.proofs.Places.{picked, member-picked, rising-picked, picked-either, length-picked, count-picked}
use Rattle.zx_bits.proofs.WindowLemmas.{is_set-in_word, word_kept, unset_before, unset_past, apart_before, apart_past}

-- ---- the numbers of a set

pub member_places : (w : Window) (p : ℕ) → member p (places_of w) ≡ is_set w p
member_places w p = member-picked (is_set w) (64 * end_of w) p (unset_past w)

pub members_are : (w : Window) (set : BitSet) → set_of w ≡ set → (λ number. member number set.numbers) ≡ is_set w
members_are w set view_is = λ i p. (ap (λ s. member p s.numbers) (sym view_is) ∙ member_places w p) i

pub rising_places : (w : Window) → IsRising (places_of w)
rising_places w = rising-picked (is_set w) (64 * end_of w) 0

pub places_same : (a b : Window) → ((p : ℕ) → is_set a p ≡ is_set b p) → places_of a ≡ places_of b
places_same a b same =
    picked-either (is_set a) (64 * end_of a) (64 * end_of b) (unset_past a) (λ k le. same k ∙ unset_past b k le)
    ∙ ap (λ f. picked f 0 (64 * end_of b)) (λ i p. same p i)

-- ---- how many there are

pub many_at_first : (w : Window) → 0 ≡ how_many (64 * (w.offset + 0)) (is_set w)
many_at_first w = sym (many-none (64 * (w.offset + 0)) (is_set w) (λ k lt. unset_before w k (omega arith)))

-- one word more
many-word : (f : ℕ → Bool) (number word : ℕ) → word < 2 ^ 64 → ((k : ℕ) → k < 64 → f (64 * number + k) ≡ digit word k) →
    how_many (64 * (number + 1)) f ≡ how_many (64 * number) f + count_ones word
many-word f number word fits is =
    let more : 64 * (number + 1) ≡ 64 * number + 64 = omega arith in
    ap (λ n. how_many n f) more ∙ many-add (64 * number) 64 f
    ∙ ap (λ m. how_many (64 * number) f + m) (many-same 64 _ (digit word) is ∙ sym (count_ones-many 64 word fits))

pub many_next : (w : Window) (i word : ℕ) → word < 2 ^ 64 → word ≡ get_or w.words.items i 0 →
    how_many (64 * (w.offset + (i + 1))) (is_set w) ≡ how_many (64 * (w.offset + i)) (is_set w) + count_ones word
many_next w i word fits e =
    let next : w.offset + (i + 1) ≡ w.offset + i + 1 = omega arith in
    ap (λ n. how_many (64 * n) (is_set w)) next
    ∙ many-word (is_set w) (w.offset + i) word fits (λ k lt. is_set-in_word w (w.offset + i) k lt ∙ ap (λ n. digit n k) (word_kept w.offset w.words.items i ∙ sym e))

pub many_places : (w : Window) (number : ℕ) → end_of w ≡ number → how_many (64 * number) (is_set w) ≡ length (places_of w)
many_places w number e = ap (λ n. how_many (64 * n) (is_set w)) (sym e) ∙ many-same (64 * end_of w) _ _ (λ k lt. ap (is_set w) (omega arith)) ∙ sym (length-picked (is_set w) (64 * end_of w) 0)

-- ---- how many two sets have in common

pub both_at_first : (a b : Window) (number : ℕ) → number ≡ max a.offset b.offset → 0 ≡ how_many (64 * number) (λ place. is_set a place && is_set b place)
both_at_first a b number e = sym (many-none (64 * number) _ (λ place lt. apart_before a b number place e lt))

pub both_next : (a b : Window) (number u v : ℕ) → u < 2 ^ 64 → u ≡ word_at a number → v ≡ word_at b number →
    how_many (64 * (number + 1)) (λ place. is_set a place && is_set b place)
    ≡ how_many (64 * number) (λ place. is_set a place && is_set b place) + count_ones (bit_and u v)
both_next a b number u v fits of_a of_b =
    many-word (λ place. is_set a place && is_set b place) number (bit_and u v) (omega (arith, and_le_l u v))
    (λ k lt. ap₂ (λ x y. x && y) (is_set-in_word a number k lt ∙ ap (λ n. digit n k) (sym of_a)) (is_set-in_word b number k lt ∙ ap (λ n. digit n k) (sym of_b))
    ∙ sym (digit-and u v k))

pub both_places : (a b : Window) (number : ℕ) → min (end_of a) (end_of b) ≤ number →
    how_many (64 * number) (λ place. is_set a place && is_set b place) ≡ count_by (is_set b) (places_of a)
both_places a b number past =
    many-either (64 * number) (64 * end_of a) _ (λ place le. apart_past a b number place past le) (λ place le. ap (λ x. x && is_set b place) (unset_past a place le))
    ∙ sym (count-picked (is_set a) (is_set b) (64 * end_of a))

pub bounded_xor : (old other new : Window) {E : Type 0} (r : Result (Unit {0}) E) → end_of old < 2 ^ 58 → end_of other < 2 ^ 58 →
    OnOk r (end_of new ≤ max (end_of old) (end_of other)) → OnErr r (new ≡ old) → end_of new < 2 ^ 58
bounded_xor old other new (Ok u) bounded also end err = omega arith
bounded_xor old other new (Err e) bounded also end err = let same = ap end_of err in omega (arith, same)

-- ---- room

open_room : (w : Window) → end_of w ≤ w.words.capacity → room_of w ≡ min (64 * w.words.capacity) (2 ^ 64 - 64)
open_room w le = cond-true _ _ 0 (le-leb (end_of w) w.words.capacity le)

shut_room : (w : Window) → w.words.capacity < end_of w → room_of w ≡ 0
shut_room w lt = cond-false _ _ 0 (lt-leb (end_of w) w.words.capacity lt)

-- where there is any room, the words end within the memory
some_room : (w : Window) → 0 < room_of w → (end_of w ≤ w.words.capacity) × (room_of w ≡ min (64 * w.words.capacity) (2 ^ 64 - 64))
some_room w some =
    elim (cases_lt w.words.capacity (end_of w)) [
      | inl l ↦ absurd (omega (arith, shut_room w l))
      | inr g ↦ (g, open_room w g)
    ]

-- room lasts where the words still end within the memory, which doesn't become less
pub room_lasts : (old new : Window) → (0 < room_of old → end_of new ≤ new.words.capacity) → old.words.capacity ≤ new.words.capacity → room_of old ≤ room_of new
room_lasts old new within grows =
    elim (cases_lt 0 (room_of old)) [
      | inl some ↦ let is = some_room old some in omega (arith, is.1, open_room new (within some))
      | inr none ↦ omega arith
    ]

pub room_kept : (old new : Window) (stop : ℕ) {E : Type 0} (r : Result (Unit {0}) E) → (0 < room_of old → stop ≤ old.words.capacity) →
    OnOk r (end_of new ≤ max (end_of old) stop) → OnOk r (old.words.capacity ≤ new.words.capacity) → OnErr r (new ≡ old) → room_of old ≤ room_of new
room_kept old new stop (Ok u) within end grows err =
    room_lasts old new (λ some. let is = some_room old some in let le = within some in omega (arith, is.0, le)) grows
room_kept old new stop (Err e) within end grows err = let same = ap room_of err in omega (arith, same)

-- ---- a set of numbers below a bound

pub below_ends : (v : Window) (other : BitSet) (bound stop : ℕ) → set_of v ≡ other → IsBelow bound other.numbers → bound ≤ 64 * stop → EndsBy stop v
below_ends v other bound stop view_is below le place past =
    false_from_ne_true (is_set v place)
    (λ e. let lt = below place (ap (λ f. f place) (members_are v other view_is) ∙ e) in absurd (omega (arith, lt)))

-- the room of one set serves the other's numbers: they end within the words that have memory, or there are none
pub room_ends : (w v : Window) (other : BitSet) (room : ℕ) → room_of w ≡ room → set_of v ≡ other → IsBelow room other.numbers → EndsBy w.words.capacity v
room_ends w v other room is view_is below =
    below_ends v other room w.words.capacity view_is below
    (elim (cases_lt w.words.capacity (end_of w)) [
      | inl l ↦ omega (arith, shut_room w l)
      | inr g ↦ omega (arith, open_room w g)
    ])

pub room_serves : (w v : Window) (other : BitSet) (room : ℕ) (Fits : Type 0) → room_of w ≡ room → set_of v ≡ other → IsBelow room other.numbers →
    ((stop : ℕ) → EndsBy stop v → max (end_of w) stop ≤ w.words.capacity → Fits) → (EndsBy 0 v → Fits) → Fits
room_serves w v other room Fits is view_is below some none =
    elim (cases_lt w.words.capacity (end_of w)) [
      | inl l ↦ none (below_ends v other room 0 view_is below (omega (arith, shut_room w l)))
      | inr g ↦ some w.words.capacity (room_ends w v other room is view_is below) (omega arith)
    ]
