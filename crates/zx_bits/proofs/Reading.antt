-- The places that are left where words are read one after the other, and the first of them.
use Rattle.std.proofs.Common.{◌≡◌, sym, ◌∙◌, ap, ap₂, ℕ, ◌+◌, ◌-◌, ◌*◌, ◌/◌, ◌%◌, ◌^◌, ◌<◌, ◌≤◌, false, ◌&&◌, eqb, List, [], ◌∷◌, length, get_or, inl, inr, eq-eqb, ne_eqb, lt-ltb, arith}
use Rattle.std.specs.Int.{w64, trailing_zeros}
use Rattle.std.specs.Int.RustNames.{bit_xor}
use Rattle.std.proofs.lemmas.Bool.{cases_lt, cases_eq, cond-true, cond-false, le-ltb}
use Rattle.std.proofs.lemmas.List.{get_or_past}
use Rattle.std.proofs.lemmas.Nat.Bits.{bit_at-pow_same, bit_at-pow_other}
use Rattle.zx_model.specs.Bits.{xor}
use Rattle.zx_model.proofs.BitLemmas.{xor-false}
use Rattle.zx_bits.specs.Internal.Words.{digit}
use Rattle.zx_bits.specs.Internal.Windows.{word_from, is_left, left_of}
use Rattle.zx_bits.proofs.Digits.{digit-xor, digit-zero}
use Rattle.zx_bits.proofs.Places.{picked, picked-none, picked-first}
use Rattle.zx_bits.proofs.WindowLemmas.{word_kept, lowest}

in_word : (offset : ℕ) (words : List ℕ) (index rest place : ℕ) → place / 64 ≡ offset + index → is_left offset words index rest place ≡ digit rest (place % 64)
in_word offset words index rest place e = cond-true (eqb (place / 64) (offset + index)) _ _ (eq-eqb _ _ e)

in_later : (offset : ℕ) (words : List ℕ) (index rest place : ℕ) → offset + index < place / 64 →
    is_left offset words index rest place ≡ digit (word_from offset words (place / 64)) (place % 64)
in_later offset words index rest place lt =
    cond-false (eqb (place / 64) (offset + index)) _ _ (ne_eqb _ _ (λ e. omega (arith, e, lt)))
    ∙ ap (λ b. b && digit (word_from offset words (place / 64)) (place % 64)) (lt-ltb (offset + index) (place / 64) lt)

in_earlier : (offset : ℕ) (words : List ℕ) (index rest place : ℕ) → place / 64 < offset + index → is_left offset words index rest place ≡ false
in_earlier offset words index rest place lt =
    cond-false (eqb (place / 64) (offset + index)) _ _ (ne_eqb _ _ (λ e. omega (arith, e, lt)))
    ∙ ap (λ b. b && digit (word_from offset words (place / 64)) (place % 64)) (le-ltb (offset + index) (place / 64) (omega arith))

none_of : (offset : ℕ) (words : List ℕ) (index rest place : ℕ) → rest ≡ 0 → place / 64 ≤ offset + index → is_left offset words index rest place ≡ false
none_of offset words index rest place none le =
    elim (cases_eq (place / 64) (offset + index)) [
      | inl e ↦ in_word offset words index rest place e ∙ ap (λ n. digit n (place % 64)) none ∙ digit-zero (place % 64)
      | inr apart ↦ in_earlier offset words index rest place (omega arith)
    ]

-- once no bit of a word is left, the next word with a bit set is read
moves : (offset : ℕ) (words : List ℕ) (index rest next word : ℕ) → rest ≡ 0 → index < next → word ≡ get_or words next 0 →
    ((i : ℕ) → index < i → i < next → get_or words i 0 ≡ 0) → (place : ℕ) → is_left offset words index rest place ≡ is_left offset words next word place
moves offset words index rest next word none lt is zeros place =
    elim (cases_lt (offset + index) (place / 64)) [
      | inl l ↦
          in_later offset words index rest place l
          ∙ elim (cases_lt (place / 64) (offset + next)) [
            | inl before ↦
                ap (λ n. digit n (place % 64)) (cond-false _ 0 _ (le-ltb (place / 64) offset (omega arith)) ∙ zeros (place / 64 - offset) (omega arith) (omega arith))
                ∙ digit-zero (place % 64) ∙ sym (in_earlier offset words next word place before)
            | inr past ↦
                elim (cases_eq (place / 64) (offset + next)) [
                  | inl e ↦
                      ap (λ n. digit n (place % 64)) (ap (word_from offset words) e ∙ word_kept offset words next ∙ sym is)
                      ∙ sym (in_word offset words next word place e)
                  | inr apart ↦ sym (in_later offset words next word place (omega arith))
                ]
          ]
      | inr g ↦ none_of offset words index rest place none g ∙ sym (in_earlier offset words next word place (omega arith))
    ]

pub left_skips : (offset : ℕ) (words : List ℕ) (index rest next word : ℕ) → rest ≡ 0 → index < next → word ≡ get_or words next 0 →
    ((i : ℕ) → index < i → i < next → get_or words i 0 ≡ 0) → left_of offset words index rest ≡ left_of offset words next word
left_skips offset words index rest next word none lt is zeros =
    ap (λ f. picked f 0 (64 * (offset + length words))) (λ k p. moves offset words index rest next word none lt is zeros p k)

-- where no word behind has a bit set, nothing is left
pub none_left : (offset : ℕ) (words : List ℕ) (index rest : ℕ) → rest ≡ 0 → ((i : ℕ) → index < i → i < length words → get_or words i 0 ≡ 0) →
    left_of offset words index rest ≡ []
none_left offset words index rest none zeros =
    picked-none (is_left offset words index rest) (64 * (offset + length words)) 0
    (λ place le. elim (cases_lt (offset + index) (place / 64)) [
      | inl l ↦
          in_later offset words index rest place l
          ∙ ap (λ n. digit n (place % 64)) (cond-false _ 0 _ (le-ltb (place / 64) offset (omega arith)) ∙ zero (place / 64 - offset) (omega arith))
          ∙ digit-zero (place % 64)
      | inr g ↦ none_of offset words index rest place none g
    ])
  where
    zero : (i : ℕ) → index < i → ◌≡◌ {A = ℕ} (get_or words i 0) 0
    zero i lt =
        elim (cases_lt i (length words)) [
          | inl l ↦ zeros i lt l
          | inr g ↦ get_or_past words i 0 g
        ]

-- the first that is left is the lowest bit of the rest, which is then taken out of it
pub first_left : (offset : ℕ) (words : List ℕ) (index rest one : ℕ) → 0 < rest → rest < 2 ^ 64 → index < length words → one ≡ 2 ^ trailing_zeros w64 rest →
    left_of offset words index rest ≡ ((offset + index) * 64 + trailing_zeros w64 rest) ∷ left_of offset words index (bit_xor rest one)
first_left offset words index rest one some fits within is =
    let low = lowest rest some fits in
    let t = trailing_zeros w64 rest in
    let first = (offset + index) * 64 + t in
    let lt : t < 64 = low.0 in
    let here : first / 64 ≡ offset + index = omega arith in
    let at : first % 64 ≡ t = omega arith in
    picked-first (is_left offset words index rest) (is_left offset words index (bit_xor rest one)) (64 * (offset + length words)) 0 first (omega arith) (omega arith)
    (in_word offset words index rest first here ∙ ap (digit rest) at ∙ low.1)
    (λ place le. elim (cases_eq (place / 64) (offset + index)) [
      | inl e ↦ in_word offset words index rest place e ∙ low.2 (place % 64) (omega arith)
      | inr apart ↦ in_earlier offset words index rest place (omega arith)
    ])
    (in_word offset words index (bit_xor rest one) first here ∙ ap (digit (bit_xor rest one)) at ∙ digit-xor rest one t
    ∙ ap₂ xor low.1 (ap (λ n. digit n t) is ∙ ap (λ d. eqb d 1) (bit_at-pow_same t)))
    (λ place lt. elim (cases_eq (place / 64) (offset + index)) [
      | inl e ↦
          in_word offset words index (bit_xor rest one) place e ∙ digit-xor rest one (place % 64)
          ∙ ap (λ b. xor (digit rest (place % 64)) b) (ap (λ n. digit n (place % 64)) is ∙ ap (λ d. eqb d 1) (bit_at-pow_other t (place % 64) (λ same. omega (arith, same, e, lt, here, at))))
          ∙ xor-false (digit rest (place % 64)) ∙ sym (in_word offset words index rest place e)
      | inr apart ↦
          elim (cases_lt (offset + index) (place / 64)) [
            | inl l ↦ in_later offset words index (bit_xor rest one) place l ∙ sym (in_later offset words index rest place l)
            | inr g ↦ in_earlier offset words index (bit_xor rest one) place (omega arith) ∙ sym (in_earlier offset words index rest place (omega arith))
          ]
    ])
