-- The longest exponent, and the longest real.
use Rattle.std.proofs.Common.{◌≡◌, ℕ, zero, suc, ◌+◌, ◌<◌, ◌≤◌, Bool, true, false, ◌&&◌, ◌||◌, List, [], ◌∷◌, ◌++◌, length, take, drop, refl, sym, ap, ◌∙◌, arith, inl, inr, eqb, length-append, length-drop}
use Rattle.std.specs.List.{list_all, prefix_len}
use Rattle.std.proofs.lemmas.Bool.{false≢true, and_parts, and_from, cases_Bool, eqb-true, ne_eqb, cases_lt}
use Rattle.std.proofs.lemmas.List.Sums.{prefix_len-le-length}
use Rattle.std.proofs.Math.Seq.{take-append-add}
use Rattle.std.specs.Char.{is_ascii_digit}
use Rattle.qasm_lexer.specs.Forms.{following, begins, is_mark, is_sign_byte, after_sign, are_digits, is_exponent, is_fraction, is_real}
use Rattle.qasm_lexer.specs.Internal.FirstPiece.{sign_len, with_mark, exponent_len, fraction_len}
use Rattle.qasm_lexer.proofs.Runs.{prefix, prefix-following, take-prefix, prefix_len-prefix, prefix_passes, run_longest, begins_append, begins_some, begins_prefix, after_through}

with_mark_some : (sign digits : ℕ) → 0 < digits → with_mark sign digits ≡ suc (sign + digits)
with_mark_some sign digits h = rw (ne_eqb digits 0 (λ e. omega arith)) (omega arith)

-- digits are no longer than those at the start of what begins with them
digits_longest : (ds back : List ℕ) → are_digits ds ≡ true → (length ds ≤ prefix_len is_ascii_digit (ds ++ back)) × (0 < prefix_len is_ascii_digit (ds ++ back))
digits_longest ds back e =
    let p : (begins is_ascii_digit ds ≡ true) × (list_all is_ascii_digit ds ≡ true) = and_parts (begins is_ascii_digit ds) (list_all is_ascii_digit ds) e in
    (run_longest is_ascii_digit ds back p.1, begins_some is_ascii_digit (ds ++ back) (begins_append is_ascii_digit ds back p.0))

signed_longest : (o back : List ℕ) → are_digits (after_sign o) ≡ true
    → suc (length o) ≤ with_mark (sign_len (o ++ back)) (prefix_len is_ascii_digit (drop (sign_len (o ++ back)) (o ++ back)))
signed_longest [] back e = absurd (false≢true e)
signed_longest (c ∷ o) back e = elim (cases_Bool (is_sign_byte c)) [
  | inl s ↦
      let d : are_digits o ≡ true = rw s at e in
      let l : (length o ≤ prefix_len is_ascii_digit (o ++ back)) × (0 < prefix_len is_ascii_digit (o ++ back)) = digits_longest o back d in
      rw s (omega (arith, with_mark_some 1 (prefix_len is_ascii_digit (o ++ back)) l.1, l.0))
  | inr s ↦
      let d : are_digits (c ∷ o) ≡ true = rw s at e in
      let l : (length (c ∷ o) ≤ prefix_len is_ascii_digit ((c ∷ o) ++ back)) × (0 < prefix_len is_ascii_digit ((c ∷ o) ++ back)) = digits_longest (c ∷ o) back d in
      rw s (omega (arith, with_mark_some 0 (prefix_len is_ascii_digit ((c ∷ o) ++ back)) l.1, l.0))
]

pub exponent_longest : (other back : List ℕ) → is_exponent other ≡ true → length other ≤ exponent_len (other ++ back)
exponent_longest [] back e = omega arith
exponent_longest (b ∷ o) back e =
    let p : (is_mark b ≡ true) × (are_digits (after_sign o) ≡ true) = and_parts (is_mark b) (are_digits (after_sign o)) e in
    rw p.0 (signed_longest o back p.1)

digits_are : (t : List ℕ) → 0 < prefix_len is_ascii_digit t → are_digits (prefix is_ascii_digit t) ≡ true
digits_are [] h = absurd (omega arith)
digits_are (b ∷ rest) h = elim (cases_Bool (is_ascii_digit b)) [
  | inl e ↦ and_from (begins is_ascii_digit (prefix is_ascii_digit (b ∷ rest))) (list_all is_ascii_digit (prefix is_ascii_digit (b ∷ rest)))
      (begins_prefix is_ascii_digit (b ∷ rest) e) (prefix_passes is_ascii_digit (b ∷ rest))
  | inr e ↦ absurd (let k : 0 < 0 = rw e at h in omega arith)
]

-- a sign, if one stands there, and digits
signed_are : (rest : List ℕ) → 0 < prefix_len is_ascii_digit (drop (sign_len rest) rest)
    → are_digits (after_sign (take (sign_len rest + prefix_len is_ascii_digit (drop (sign_len rest) rest)) rest)) ≡ true
signed_are [] h = absurd (omega arith)
signed_are (c ∷ r) h = elim (cases_Bool (is_sign_byte c)) [
  | inl s ↦
      let k : 0 < prefix_len is_ascii_digit r = rw s at h in
      let n : 1 + prefix_len is_ascii_digit r ≡ suc (prefix_len is_ascii_digit r) = omega arith in
      rw s (rw n (rw s (rw (take-prefix is_ascii_digit r) (digits_are r k))))
  | inr s ↦
      let k : 0 < prefix_len is_ascii_digit (c ∷ r) = rw s at h in
      let n : 0 + prefix_len is_ascii_digit (c ∷ r) ≡ prefix_len is_ascii_digit (c ∷ r) = omega arith in
      rw s (rw n (rw (take-prefix is_ascii_digit (c ∷ r)) (unsigned c r s (digits_are (c ∷ r) k))))
] where
  unsigned : (c : ℕ) (r : List ℕ) → is_sign_byte c ≡ false → are_digits (prefix is_ascii_digit (c ∷ r)) ≡ true
      → are_digits (after_sign (prefix is_ascii_digit (c ∷ r))) ≡ true
  unsigned c r s d = elim (cases_Bool (is_ascii_digit c)) [
    | inl e ↦ rw e (rw s (rw e at d))
    | inr e ↦ rw e (rw e at d)
  ]

pub exponent_is : (t : List ℕ) → is_exponent (take (exponent_len t) t) ≡ true
exponent_is [] = refl
exponent_is (b ∷ rest) = elim (cases_Bool (is_mark b)) [
  | inl m ↦ elim (cases_lt 0 (prefix_len is_ascii_digit (drop (sign_len rest) rest))) [
    | inl some ↦
        rw m (rw (with_mark_some (sign_len rest) (prefix_len is_ascii_digit (drop (sign_len rest) rest)) some)
        (and_from (is_mark b) (are_digits (after_sign (take (sign_len rest + prefix_len is_ascii_digit (drop (sign_len rest) rest)) rest))) m (signed_are rest some)))
    | inr none ↦
        (let z : prefix_len is_ascii_digit (drop (sign_len rest) rest) ≡ 0 = omega arith in rw m (rw z refl))
  ]
  | inr m ↦ rw m refl
]

with_mark_fits : (sign digits : ℕ) → with_mark sign digits ≤ suc (sign + digits)
with_mark_fits sign digits = elim (cases_Bool (eqb digits 0)) [
  | inl e ↦ rw e (omega arith)
  | inr e ↦ rw e (omega arith)
]

sign_fits : (t : List ℕ) → sign_len t ≤ length t
sign_fits [] = omega arith
sign_fits (b ∷ rest) = elim (cases_Bool (is_sign_byte b)) [
  | inl e ↦ rw e (omega arith)
  | inr e ↦ rw e (omega arith)
]

pub exponent_fits : (t : List ℕ) → exponent_len t ≤ length t
exponent_fits [] = omega arith
exponent_fits (b ∷ rest) = elim (cases_Bool (is_mark b)) [
  | inl m ↦
      rw m (omega (
        arith,
        with_mark_fits (sign_len rest) (prefix_len is_ascii_digit (drop (sign_len rest) rest)),
        sign_fits rest,
        prefix_len-le-length is_ascii_digit (drop (sign_len rest) rest),
        length-drop (sign_len rest) rest,
      ))
  | inr m ↦ rw m (omega arith)
]

-- what belongs to a real after its point, byte by byte
fraction_digit : (b : ℕ) (rest : List ℕ) → is_ascii_digit b ≡ true → fraction_len (b ∷ rest) ≡ suc (fraction_len rest)
fraction_digit b rest e =
    rw e (let n : 1 + prefix_len is_ascii_digit rest ≡ suc (prefix_len is_ascii_digit rest) = omega arith in rw n (omega arith))

fraction_other : (b : ℕ) (rest : List ℕ) → is_ascii_digit b ≡ false → fraction_len (b ∷ rest) ≡ exponent_len (b ∷ rest)
fraction_other b rest e = rw e (omega arith)

pub fraction_longest : (other back : List ℕ) → is_exponent (following is_ascii_digit other) ≡ true → length other ≤ fraction_len (other ++ back)
fraction_longest [] back e = omega arith
fraction_longest (c ∷ o) back e = elim (cases_Bool (is_ascii_digit c)) [
  | inl d ↦ (let i : is_exponent (following is_ascii_digit o) ≡ true = rw d at e in
      omega (arith, fraction_digit c (o ++ back) d, fraction_longest o back i))
  | inr d ↦ (let i : is_exponent (c ∷ o) ≡ true = rw d at e in
      omega (arith, fraction_other c (o ++ back) d, exponent_longest (c ∷ o) back i))
]

exponent_after : (b : ℕ) (rest : List ℕ) (n : ℕ) → is_ascii_digit b ≡ false → is_exponent (take n (b ∷ rest)) ≡ true
    → is_exponent (following is_ascii_digit (take n (b ∷ rest))) ≡ true
exponent_after b rest zero d e = refl
exponent_after b rest (suc n) d e = rw d e

pub fraction_is : (t : List ℕ) → is_exponent (following is_ascii_digit (take (fraction_len t) t)) ≡ true
fraction_is [] = refl
fraction_is (b ∷ rest) = elim (cases_Bool (is_ascii_digit b)) [
  | inl d ↦ rw (fraction_digit b rest d) (rw d (fraction_is rest))
  | inr d ↦ rw (fraction_other b rest d) (exponent_after b rest (exponent_len (b ∷ rest)) d (exponent_is (b ∷ rest)))
]

pub fraction_fits : (t : List ℕ) → fraction_len t ≤ length t
fraction_fits t =
    omega (arith, prefix_len-le-length is_ascii_digit t, exponent_fits (drop (prefix_len is_ascii_digit t) t), length-drop (prefix_len is_ascii_digit t) t)

-- a real at the start has digits, the first point after these, and no more bytes than belong to that
pub real_longest : (some : Bool) (other back : List ℕ) → is_fraction some (following is_ascii_digit other) ≡ true
    → (r : List ℕ) × (following is_ascii_digit (other ++ back) ≡ 46 ∷ r) × (length other ≤ prefix_len is_ascii_digit (other ++ back) + suc (fraction_len r))
real_longest some [] back e = absurd (false≢true e)
real_longest some (c ∷ o) back e = elim (cases_Bool (is_ascii_digit c)) [
  | inl d ↦
      (let i : is_fraction some (following is_ascii_digit o) ≡ true = rw d at e in
      let h : (r : List ℕ) × (following is_ascii_digit (o ++ back) ≡ 46 ∷ r) × (length o ≤ prefix_len is_ascii_digit (o ++ back) + suc (fraction_len r)) =
      real_longest some o back i in
      (h.0, rw d h.1, rw d (omega (arith, h.2))))
  | inr d ↦
      (let i : is_fraction some (c ∷ o) ≡ true = rw d at e in
      let p : ((eqb c 46 && (some || begins is_ascii_digit o)) ≡ true) × (is_exponent (following is_ascii_digit o) ≡ true) =
      and_parts (eqb c 46 && (some || begins is_ascii_digit o)) (is_exponent (following is_ascii_digit o)) i in
      let q : (eqb c 46 ≡ true) × ((some || begins is_ascii_digit o) ≡ true) = and_parts (eqb c 46) (some || begins is_ascii_digit o) p.0 in
      (o ++ back, rw d (ap (λ x. x ∷ (o ++ back)) (eqb-true c 46 q.0)), rw d (omega (arith, fraction_longest o back p.1))))
]

-- the real after digits, of which there is one at least
pub real_is : (t r : List ℕ) → begins is_ascii_digit t ≡ true → following is_ascii_digit t ≡ 46 ∷ r
    → is_real (take (suc (prefix_len is_ascii_digit t + fraction_len r)) t) ≡ true
real_is t r some is =
    let n : suc (prefix_len is_ascii_digit t + fraction_len r) ≡ length (prefix is_ascii_digit t) + suc (fraction_len r) = omega (arith, prefix_len-prefix is_ascii_digit t) in
    let whole : take (suc (prefix_len is_ascii_digit t + fraction_len r)) t ≡ prefix is_ascii_digit t ++ 46 ∷ take (fraction_len r) r =
    ap (λ s. take (suc (prefix_len is_ascii_digit t + fraction_len r)) s) (sym (prefix-following is_ascii_digit t) ∙ ap (λ s. prefix is_ascii_digit t ++ s) is)
    ∙ ap (λ k. take k (prefix is_ascii_digit t ++ 46 ∷ r)) n ∙ take-append-add (prefix is_ascii_digit t) (46 ∷ r) (suc (fraction_len r)) in
    ap is_real whole ∙ rw (begins_append is_ascii_digit (prefix is_ascii_digit t) (46 ∷ take (fraction_len r) r) (begins_prefix is_ascii_digit t some))
    (rw (after_through is_ascii_digit (prefix is_ascii_digit t) (46 ∷ take (fraction_len r) r) (prefix_passes is_ascii_digit t)) (fraction_is r))

pub begins_fraction : (r : List ℕ) → begins is_ascii_digit r ≡ true → begins is_ascii_digit (take (fraction_len r) r) ≡ true
begins_fraction [] e = absurd (false≢true e)
begins_fraction (b ∷ rest) e = rw (fraction_digit b rest e) e

pub real_fits : (t r : List ℕ) → following is_ascii_digit t ≡ 46 ∷ r → suc (prefix_len is_ascii_digit t + fraction_len r) ≤ length t
real_fits t r is =
    omega (arith, prefix_len-prefix is_ascii_digit t, fraction_fits r, ap length (prefix-following is_ascii_digit t), length-append (prefix is_ascii_digit t) (following is_ascii_digit t), ap length is)
