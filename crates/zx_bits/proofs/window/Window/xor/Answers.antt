use Rattle.std.proofs.Common.{◌≡◌, refl, sym, ◌∙◌, ap, ap₂, subst, inl, inr, ℕ, ◌+◌, ◌-◌, ◌<◌, ◌≤◌, ◌^◌, List, take, drop, get_or, length, IsOk, arith}
use Rattle.std.proofs.lemmas.Bool.{false≢true, cases_lt}
use Rattle.std.proofs.lemmas.List.{length-take, length-take-le, get_or-take, drop-take}
use Rattle.std.specs.Int.RustNames.{bit_xor}
use Rattle.std.specs.List.{refill}
use Rattle.zx_model.specs.Bits.{xor}
use Rattle.zx_model.proofs.BitLemmas.{xor-false}
use Rattle.zx_bits.specs.Internal.Windows.{word_at, word_from, is_set, EndsBy}
use Rattle.zx_bits.specs.declared.window.Window.{Window}
use Rattle.zx_bits.proofs.WindowLemmas.{words_added, added_bits, same_places, refilled, trimmed, none_in_zeros, ends_after}
use Rattle.zx_bits.proofs.window.Window.xor.Goals as goal

pub returns-then-end-eq0-clause-ok : goal.returns-then-end-eq0-clause-ok
returns-then-end-eq0-clause-ok c place =
    let zeros = subst (λ (l : List ℕ). (i : ℕ) → c.used-end.result ≤ i → get_or l i 0 ≡ 0) c.as_slice-words.ensures c.used-end.ensures.zeros in
    sym (ap (xor (is_set c.args.self.now place)) (none_in_zeros c.args.other.now (λ i le. zeros i (omega (arith, c.if-end-eq0.true))) place) ∙ xor-false _)

-- the words of the other that are added end where none of its places is set any more
ends : (other : Window) (words : List ℕ) (count stop : ℕ) → words ≡ other.words.items → ¬ (count ≡ 0) →
    (0 < count → ¬ (get_or words (count - 1) 0 ≡ 0)) → (0 < count → get_or words (count - 1) 0 < 2 ^ 64) → EndsBy stop other → other.offset + count ≤ stop
ends other words count stop same some last fits unset =
    let lt : 0 < count = omega arith in
    ends_after other count stop lt (subst (λ (l : List ℕ). ¬ (get_or l (count - 1) 0 ≡ 0)) same (last lt))
    (subst (λ (l : List ℕ). get_or l (count - 1) 0 < 2 ^ 64) same (fits lt)) unset

-- those in front that have no bit set end before the last that has one
begins : (words : List ℕ) (start count : ℕ) → ¬ (count ≡ 0) → start ≤ count → (0 < count → ¬ (get_or words (count - 1) 0 ≡ 0)) →
    ((i : ℕ) → i < start → get_or (take count words) i 0 ≡ 0) → start < count
begins words start count some le last zeros =
    elim (cases_lt start count) [
      | inl l ↦ l
      | inr g ↦ absurd (last (omega arith) (sym (get_or-take count words (count - 1) 0 (omega arith)) ∙ zeros (count - 1) (omega arith)))
    ]

pub cover-requires : goal.cover-requires
cover-requires c =
    let size = length-take-le c.used-end.result c.as_slice-words.result.now c.used-end.ensures.within in
    let lt = begins c.as_slice-words.result.now c.unused_before-start.result c.used-end.result c.if-end-eq0.false
    (omega (arith, c.unused_before-start.ensures.within, size)) c.used-end.ensures.last c.unused_before-start.ensures.zeros in
    record { some = omega (arith, lt); within = omega (arith, c.used-end.ensures.within, ap length c.as_slice-words.ensures); bounded = c.requires.bounded }

pub add_words-requires : goal.add_words-requires
add_words-requires c =
    let start = c.unused_before-start.result in
    let words = c.as_slice-words.result.now in
    let ours = ap length c.as_mut_slice.ensures.value in
    let order = length-take-le c.used-end.result words c.used-end.ensures.within in
    omega (
      arith,
      ours,
      order,
      length-take (c.used-end.result - start) (drop start words),
      c.unused_before-start.ensures.within,
      c.in_ok-cover.ensures.ok.first,
      c.in_ok-cover.ensures.ok.end,
    )

pub returns-clause-ok : goal.returns-clause-ok
returns-clause-ok c place =
    let mid = c.cover.new.self in
    let other = c.args.other.now in
    let end = c.used-end.result in
    let start = c.unused_before-start.result in
    let items : List ℕ = refill (length mid.words.items) mid.words.items c.add_words.new.words in
    let added : Window = record { offset = mid.offset; words = record { items = items; capacity = mid.words.capacity } } in
    let cut : Window = record { offset = other.offset + start; words = record { items = take (end - start) (drop start other.words.items); capacity = other.words.capacity } } in
    let same = c.as_slice-words.ensures in
    let within : end ≤ length other.words.items = subst (λ (l : List ℕ). end ≤ length l) same c.used-end.ensures.within in
    let order : start ≤ end = omega (arith, c.unused_before-start.ensures.within, length-take-le end c.as_slice-words.result.now c.used-end.ensures.within) in
    let up_to : start + (end - start) ≡ end = omega arith in
    let zeros = subst (λ (l : List ℕ). (i : ℕ) → end ≤ i → get_or l i 0 ≡ 0) same c.used-end.ensures.zeros in
    let before = subst (λ (l : List ℕ). (i : ℕ) → i < start → get_or (take end l) i 0 ≡ 0) same c.unused_before-start.ensures.zeros in
    let kept = refilled (length mid.words.items) mid.words.items c.add_words.new.words (c.add_words.ensures.size ∙ ap length c.as_mut_slice.ensures.value) in
    let words = words_added mid added cut (other.offset + start - mid.offset) c.in_ok-cover.ensures.ok.first refl refl
    (λ i. ap (λ (l : List ℕ). get_or l i 0) kept ∙ c.add_words.ensures.words i
    ∙ ap₂ (λ (l m : List ℕ). bit_xor (get_or l i 0) (word_from (other.offset + start - mid.offset) (take (end - start) (drop start m)) i)) c.as_mut_slice.ensures.value same) in
    let told = trimmed other cut end start within order zeros before refl
    (sym (drop-take start (end - start) other.words.items) ∙ ap (λ n. drop start (take n other.words.items)) up_to) in
    same_places added c.trim.new.self c.trim.ensures.words place
    ∙ added_bits c.args.self.now mid added other c.in_ok-cover.ensures.ok.words (λ v. words v ∙ ap (bit_xor (word_at mid v)) (told v)) place

pub returns-clause-end : goal.returns-clause-end
returns-clause-end c stop unset =
    let le = ends c.args.other.now c.as_slice-words.result.now c.used-end.result stop c.as_slice-words.ensures c.if-end-eq0.false c.used-end.ensures.last c.used-end.ensures.fits unset in
    let size = c.add_words.ensures.size ∙ ap length c.as_mut_slice.ensures.value in
    let kept = ap length (refilled (length c.cover.new.self.words.items) c.cover.new.self.words.items c.add_words.new.words size) in
    omega (arith, c.in_ok-cover.ensures.ok.no_further, c.trim.ensures.end, kept, size)

pub returns-in_err-cover-clause-room : goal.returns-in_err-cover-clause-room
returns-in_err-cover-clause-room c stop unset has =
    let le = ends c.args.other.now c.as_slice-words.result.now c.used-end.result stop c.as_slice-words.ensures c.if-end-eq0.false c.used-end.ensures.last c.used-end.ensures.fits unset in
    let fits = c.cover.ensures.room (omega arith) in
    absurd (false≢true (subst IsOk c.in_err-cover.was fits))

pub returns-in_err-cover-clause-nothing : goal.returns-in_err-cover-clause-nothing
returns-in_err-cover-clause-nothing c unset =
    let le = ends c.args.other.now c.as_slice-words.result.now c.used-end.result 0 c.as_slice-words.ensures c.if-end-eq0.false c.used-end.ensures.last c.used-end.ensures.fits unset in
    absurd (omega (arith, c.if-end-eq0.false))
