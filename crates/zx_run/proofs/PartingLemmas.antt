-- Where a line parts two texts.
use Rattle.std.proofs.Common.{◌≡◌, ◌<◌, ◌≤◌, ◌+◌, ◌-◌, suc, ◌⊎◌, ℕ, List, [], ◌∷◌, ◌++◌, length, take, drop, inl, inr, refl, sym, ap, subst, ◌∙◌, add-one, arith, get_or, Bool, true, false, true≢false, zero, eqb}
use Rattle.std.proofs.lemmas.Bool.{cases_lt}
use Rattle.std.proofs.Common.{length-append, length-drop}
use Rattle.std.proofs.lemmas.List.{take-append-drop, append_cancel_left, drop-drop, length-take-le}
use Rattle.std.specs.List.{starts_with}
use Rattle.std.proofs.lemmas.Bool.Decides.{Decides-eqb, eqb_tells}
use Rattle.std.proofs.lemmas.Slice.Eq.{starts_is}
use Rattle.std.proofs.Math.Seq.{take-length, take-suc, take-append_seam, drop-append_seam}
use Rattle.qasm_lexer.specs.Taken.{AreLines}
use Rattle.zx_run.specs.TwoTexts.{parting_line, IsParted, AreTexts}

last_of : (xs ys : List ℕ) (x y : ℕ) → xs ++ x ∷ [] ≡ ys ++ y ∷ [] → x ≡ y
last_of [] [] x y e = cc
last_of [] (b ∷ ys) x y e = let n = ap length e ∙ ap suc (length-append ys (y ∷ [])) in absurd (omega (arith, n))
last_of (a ∷ xs) [] x y e = let n = sym (ap length e) ∙ ap suc (length-append xs (x ∷ [])) in absurd (omega (arith, n))
last_of (a ∷ xs) (b ∷ ys) x y e = last_of xs ys x y (ap (drop 1) e)

lines_end : (before : List ℕ) (x : ℕ) → AreLines (before ++ x ∷ []) → x ≡ 10
lines_end before x (inl e) = let n = sym (length-append before (x ∷ [])) ∙ ap length e in absurd (omega (arith, n))
lines_end before x (inr (b, e)) = last_of before b x 10 e

one_more : (text : List ℕ) (at : ℕ) → at < length text → take (at + 1) text ≡ take at text ++ get_or text at 0 ∷ []
one_more text at within = ap (λ k. take k text) (add-one at) ∙ take-suc text at 0 within

-- whole lines up to the next place end with a line feed
pub lines_up_to : (text : List ℕ) (at : ℕ) → at < length text → AreLines (take (at + 1) text) → get_or text at 0 ≡ 10
lines_up_to text at within lines =
    lines_end (take at text) (get_or text at 0) (subst AreLines (one_more text at within) lines)

pub are_lines_up_to : (text : List ℕ) (at : ℕ) → at < length text → get_or text at 0 ≡ 10 → AreLines (take (at + 1) text)
are_lines_up_to text at within is = inr (take at text, one_more text at within ∙ ap (λ x. take at text ++ x ∷ []) is)

-- what is parted at a place
pub first_is : (text first second : List ℕ) → IsParted text first second → first ≡ take (length first) text
first_is text first second parted = sym (ap (take (length first)) parted.whole ∙ take-append_seam first (parting_line ++ second))

pub rest_is : (text first second : List ℕ) → IsParted text first second → drop (length first) text ≡ parting_line ++ second
rest_is text first second parted = ap (drop (length first)) parted.whole ∙ drop-append_seam first (parting_line ++ second)

pub parted_at : (text : List ℕ) (at : ℕ) → AreLines (take at text)
    → drop at text ≡ parting_line ++ drop (at + length parting_line) text
    → IsParted text (take at text) (drop (at + length parting_line) text)
parted_at text at lines begins =
    record { whole = sym (take-append-drop at text) ∙ ap (λ rest. take at text ++ rest) begins; lines = lines }

none_here : (text first second : List ℕ) (at : ℕ) → length first ≡ at → IsParted text first second
    → (AreLines (take at text) → (rest : List ℕ) → drop at text ≡ parting_line ++ rest → ⊥) → ⊥
none_here text first second at is parted none =
    none (subst (λ k. AreLines (take k text)) is (subst AreLines (first_is text first second parted) parted.lines)) second
    (subst (λ k. drop k text ≡ parting_line ++ second) is (rest_is text first second parted))

-- none begins at a place where no line begins or the line is another
pub no_earlier : (text first second : List ℕ) (at : ℕ) → at ≤ length first → IsParted text first second
    → (AreLines (take at text) → (rest : List ℕ) → drop at text ≡ parting_line ++ rest → ⊥) → at + 1 ≤ length first
no_earlier text first second at within parted none = elim (cases_lt at (length first)) [
  | inl below ↦ omega (arith, below)
  | inr above ↦ absurd (none_here text first second at (omega (arith, within, above)) parted none)
]

pub ends_inside : (text first second : List ℕ) → IsParted text first second → length text ≤ length first → ⊥
ends_inside text first second parted all =
    let n = ap length parted.whole ∙ length-append first (parting_line ++ second) in
    let m = length-append parting_line second in absurd (omega (arith, n, m, all))

-- a text is parted in one way
pub same_texts : (text first second third fourth : List ℕ) → AreTexts text first second → AreTexts text third fourth
    → (first ≡ third) × (second ≡ fourth)
same_texts text first second third fourth a b =
    let m = a.foremost third fourth b.parted in
    let n = b.foremost first second a.parted in
    let long : length first ≡ length third = omega (arith, m, n) in
    let same : first ≡ third =
    first_is text first second a.parted ∙ ap (λ k. take k text) long ∙ sym (first_is text third fourth b.parted) in (
      same,
      append_cancel_left parting_line second fourth
          (sym (rest_is text first second a.parted) ∙ ap (λ k. drop k text) long ∙ rest_is text third fourth b.parted),
    )

-- ---- whether a text is parted can be told
abbrev pub AreSomeTexts : List ℕ → Type 0
AreSomeTexts text = (first : List ℕ) × (second : List ℕ) × AreTexts text first second

abbrev IsNotBefore : List ℕ → ℕ → Type 0
IsNotBefore text at = (first second : List ℕ) → IsParted text first second → at ≤ length first

last_split : (x : ℕ) (xs : List ℕ) → (b : List ℕ) × (y : ℕ) × (x ∷ xs ≡ b ++ y ∷ [])
last_split x [] = ([], x, refl)
last_split x (y ∷ ys) = let rest = last_split y ys in (x ∷ rest.0, rest.1, ap (λ l. x ∷ l) rest.2)

lines_or_not : (bytes : List ℕ) → AreLines bytes ⊎ (AreLines bytes → ⊥)
lines_or_not [] = inl (inl refl)
lines_or_not (x ∷ xs) =
    let cut = last_split x xs in elim (eqb_tells cut.1 10) [
      | inl is ↦ inl (inr (cut.0, cut.2 ∙ ap (λ y. cut.0 ++ y ∷ []) is.1))
      | inr other ↦ inr (λ lines. other.1 (lines_end cut.0 cut.1 (subst AreLines cut.2 lines)))
    ]

abbrev StandsAt : List ℕ → ℕ → Type 0
StandsAt text at = drop at text ≡ parting_line ++ drop (at + length parting_line) text

line_or_not : (text : List ℕ) (at : ℕ) → StandsAt text at ⊎ ((rest : List ℕ) → drop at text ≡ parting_line ++ rest → ⊥)
line_or_not text at = go (starts_with eqb (drop at text) parting_line) refl
  where
    go : (r : Bool) → r ≡ starts_with eqb (drop at text) parting_line
        → StandsAt text at ⊎ ((rest : List ℕ) → drop at text ≡ parting_line ++ rest → ⊥)
    go true is =
        inl ((starts_is Decides-eqb (drop at text) parting_line true is).0 refl
        ∙ ap (λ r. parting_line ++ r) (drop-drop (length parting_line) at text))
    go false is = inr (λ rest e. true≢false (sym ((starts_is Decides-eqb (drop at text) parting_line false is).1 rest e)))

foremost_at : (text : List ℕ) (at : ℕ) → at ≤ length text → IsNotBefore text at → AreLines (take at text) → StandsAt text at
    → AreSomeTexts text
foremost_at text at within none lines stands = (
  take at text,
  drop (at + length parting_line) text,
  record {
    parted = parted_at text at lines stands;
    foremost = λ before behind is. subst (λ n. n ≤ length before) (sym (length-take-le at text within)) (none before behind is);
  },
)

next_place : (text : List ℕ) (at : ℕ) → at ≤ length text → IsNotBefore text at → AreSomeTexts text ⊎ IsNotBefore text (at + 1)
next_place text at within none = elim (lines_or_not (take at text)) [
  | inr other ↦ inr (λ first second is. no_earlier text first second at (none first second is) is (λ lines rest e. other lines))
  | inl lines ↦ elim (line_or_not text at) [
    | inl stands ↦ inl (foremost_at text at within none lines stands)
    | inr other ↦ inr (λ first second is. no_earlier text first second at (none first second is) is (λ lines. other))
  ]
]

up_to : (text : List ℕ) (at : ℕ) → at ≤ length text → AreSomeTexts text ⊎ IsNotBefore text at
up_to text zero within = inr (λ first second is. omega arith)
up_to text (suc at) within = elim (up_to text at (omega (arith, within))) [
  | inl are ↦ inl are
  | inr none ↦ elim (next_place text at (omega (arith, within)) none) [
    | inl are ↦ inl are
    | inr more ↦ inr (λ first second is. let n = more first second is in omega (arith, n))
  ]
]

pub parted_or_not : (text : List ℕ) → AreSomeTexts text ⊎ ((first second : List ℕ) → IsParted text first second → ⊥)
parted_or_not text = elim (up_to text (length text) (omega arith)) [
  | inl are ↦ inl are
  | inr none ↦ inr (λ first second parted. ends_inside text first second parted (none first second parted))
]

-- what stands from a place on
pub from_on : (text : List ℕ) (k : ℕ) → take (length text - k) (drop k text) ≡ drop k text
from_on text k = sym (ap (λ n. take n (drop k text)) (length-drop k text)) ∙ take-length (drop k text)
