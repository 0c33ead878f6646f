-- Parities are told by their values.
use Rattle.std.proofs.Common.{◌≡◌, ◌⊎◌, inl, inr, ℕ, zero, suc, ◌+◌, ◌*◌, ◌/◌, ◌%◌, ◌^◌, ◌<◌, ◌≤◌, Bool, true, false, not, ◌&&◌, List, [], ◌∷◌, length, length-set, set, get_or, refl, sym, ap, ◌∙◌, subst, arith, eqb}
use Rattle.std.specs.Prelude.{bit_xor}
use Rattle.std.proofs.Math.Nat.{pow-suc}
use Rattle.std.proofs.Math.Pow.{pow_mono}
use Rattle.std.proofs.lemmas.Bool.{cases_lt, cases_eq}
use Rattle.std.proofs.lemmas.List.{get_or-set_same, get_or-set_other, get_or_past}
use Rattle.std.proofs.lemmas.Nat.{xor_lt, pow_pos, pow_below}
use Rattle.zx_model.specs.Bits.{xor, bit}
use Rattle.zx_gates.specs.declared.gate.Gate.{Gate}
use Rattle.zx_identities.specs.BasisStates.{moved_by}
use Rattle.zx_identities.specs.declared.parities.Term.{Term}
use Rattle.zx_identities.specs.Internal.Parities.{lowest, picked, value, state, units_from, AreBelow, IsRead}
use Rattle.zx_identities.proofs.ParityLemmas.{value-unit, state-bit, units_known, unit-at, length-units}

abbrev zeros : ℕ → List Bool
zeros zero = []
zeros (suc n) = false ∷ zeros n

length-zeros : (n : ℕ) → length (zeros n) ≡ n
length-zeros zero = refl
length-zeros (suc n) = ap suc (length-zeros n)

off : (b p : Bool) → xor (b && false) p ≡ p
off true p = refl
off false p = refl

picked-zeros : (w n : ℕ) → picked w (zeros n) ≡ false
picked-zeros w zero = refl
picked-zeros w (suc n) = off (lowest w) (picked (w / 2) (zeros n)) ∙ picked-zeros (w / 2) n

-- ---- the lowest bit, and the others
on : (b : Bool) → xor (b && true) false ≡ b
on true = refl
on false = refl

lowest-told : (v w n : ℕ) → picked v (true ∷ zeros n) ≡ picked w (true ∷ zeros n) → lowest v ≡ lowest w
lowest-told v w n same = sym (at v) ∙ same ∙ at w
  where
    at : (u : ℕ) → picked u (true ∷ zeros n) ≡ lowest u
    at u = ap (xor (lowest u && true)) (picked-zeros (u / 2) n) ∙ on (lowest u)

cancelled : (a b p q : Bool) → a ≡ b → xor (a && true) p ≡ xor (b && true) q → p ≡ q
cancelled true b p q e same = not_same p q (same ∙ ap (λ c. xor (c && true) q) (sym e))
  where
    not_same : (p q : Bool) → not p ≡ not q → p ≡ q
    not_same true true e = refl
    not_same true false e = cc
    not_same false true e = cc
    not_same false false e = refl
cancelled false b p q e same = same ∙ ap (λ c. xor (c && true) q) (sym e)

digits_same : (a b : ℕ) → a < 2 → b < 2 → eqb a 1 ≡ eqb b 1 → a ≡ b
digits_same zero zero p q e = refl
digits_same (suc zero) (suc zero) p q e = refl
digits_same zero (suc zero) p q e = cc
digits_same (suc zero) zero p q e = cc
digits_same a (suc (suc b)) p q e = absurd (omega arith)
digits_same (suc (suc a)) b p q e = absurd (omega arith)

joined : (v w : ℕ) → lowest v ≡ lowest w → v / 2 ≡ w / 2 → v ≡ w
joined v w low high = whole v w (digits_same (v % 2) (w % 2) (omega arith) (omega arith) low) high
  where
    whole : (v w : ℕ) → v % 2 ≡ w % 2 → v / 2 ≡ w / 2 → v ≡ w
    whole v w e f = omega arith

halved : (n v : ℕ) → v < 2 ^ suc n → v / 2 < 2 ^ n
halved n v fits = omega (arith, pow-suc 2 n)

determined : (n v w : ℕ) → v < 2 ^ n → w < 2 ^ n → ((x : List Bool) → length x ≡ n → picked v x ≡ picked w x) → v ≡ w
determined zero v w fits_v fits_w same = omega arith
determined (suc n) v w fits_v fits_w same =
    joined v w (lowest-told v w n (same (true ∷ zeros n) (ap suc (length-zeros n))))
    (determined n (v / 2) (w / 2) (halved n v fits_v) (halved n w fits_w)
    (λ x l. sym (off (lowest v) (picked (v / 2) x)) ∙ same (false ∷ x) (ap suc l) ∙ off (lowest w) (picked (w / 2) x)))

pub values_tell : (n v w : ℕ) → v < 2 ^ (n + 1) → w < 2 ^ (n + 1) → ((x : List Bool) → length x ≡ n → value v x ≡ value w x) → v ≡ w
values_tell n v w fits_v fits_w same =
    joined v w low
    (determined n (v / 2) (w / 2) (halved n v (subst (λ k. v < 2 ^ k) (later n) fits_v)) (halved n w (subst (λ k. w < 2 ^ k) (later n) fits_w))
    (λ x l. cancelled (lowest v) (lowest w) (picked (v / 2) x) (picked (w / 2) x) low (same x l)))
  where
    later : (n : ℕ) → n + 1 ≡ suc n
    later n = omega arith

    low : lowest v ≡ lowest w
    low = lowest-told v w n (same (zeros n) (length-zeros n))

-- ---- gates keep the size of parities
pub below-set : (k : ℕ) (ps : List ℕ) (i v : ℕ) → AreBelow k ps → v < 2 ^ k → AreBelow k (set ps i v)
below-set k ps i v below fits j = at (cases_lt i (length ps)) (cases_eq j i)
  where
    at : (i < length ps) ⊎ (length ps ≤ i) → (j ≡ i) ⊎ (j ≡ i → ⊥) → get_or (set ps i v) j 0 < 2 ^ k
    at (inl within) (inl e) = subst (λ m. get_or (set ps i v) m 0 < 2 ^ k) (sym e) (subst (λ u. u < 2 ^ k) (sym (get_or-set_same ps i v 0 within)) fits)
    at (inr beyond) (inl e) = subst (λ m. get_or (set ps i v) m 0 < 2 ^ k) (sym e) (out (set ps i v) i (length-kept beyond))
      where
        length-kept : length ps ≤ i → length (set ps i v) ≤ i
        length-kept most = let e : length (set ps i v) ≡ length ps = length-set ps i v in omega arith

        out : (xs : List ℕ) (m : ℕ) → length xs ≤ m → get_or xs m 0 < 2 ^ k
        out xs m most = subst (λ u. u < 2 ^ k) (sym (get_or_past xs m 0 most)) (pow_pos k)
    at here (inr apart) = subst (λ u. u < 2 ^ k) (sym (get_or-set_other ps i j v 0 apart)) (below j)

pub below-sum : (k : ℕ) (ps : List ℕ) (i j : ℕ) → AreBelow k ps → bit_xor (get_or ps i 0) (get_or ps j 0) < 2 ^ k
below-sum k ps i j below = xor_lt k (get_or ps i 0) (get_or ps j 0) (below i) (below j)

pub below-turned : (k : ℕ) (ps : List ℕ) (i : ℕ) → 0 < k → AreBelow k ps → bit_xor (get_or ps i 0) 1 < 2 ^ k
below-turned k ps i some below = xor_lt k (get_or ps i 0) 1 (below i) (one_below k some)
  where
    one_below : (k : ℕ) → 0 < k → 1 < 2 ^ k
    one_below k some = let one : 1 ≤ k = omega arith in let h : 2 ^ 1 ≤ 2 ^ k = pow_mono {i = 1} {j = k} one in omega arith

-- ---- where no basis state is moved
unit_fits : (n k : ℕ) → k < n → 2 * 2 ^ k < 2 ^ (n + 1)
unit_fits n k below =
    let h : 2 ^ suc k < 2 ^ (n + 1) = pow_below (suc k) (n + 1) (omega arith) in
    omega (arith, h, pow-suc 2 k)

pub units_below : (n : ℕ) → AreBelow (n + 1) (units_from n 0)
units_below n j = at (cases_lt j n)
  where
    at : (j < n) ⊎ (n ≤ j) → get_or (units_from n 0) j 0 < 2 ^ (n + 1)
    at (inl within) = subst (λ u. u < 2 ^ (n + 1)) (sym (unit-at n 0 j within)) (subst (λ i. 2 * 2 ^ i < 2 ^ (n + 1)) (none j) (unit_fits n j within))
      where
        none : (k : ℕ) → k ≡ 0 + k
        none k = omega arith
    at (inr beyond) = subst (λ u. u < 2 ^ (n + 1)) (sym (get_or_past (units_from n 0) j 0 (subst (λ m. m ≤ j) (sym (length-units n 0)) beyond))) (pow_pos (n + 1))

pub kept_units : (n : ℕ) (ps : List ℕ) → length ps ≡ n → AreBelow (n + 1) ps → ((x : List Bool) → length x ≡ n → state ps x ≡ x) → ps ≡ units_from (length ps) 0
kept_units n ps len below kept =
    units_known ps 0
    (λ k within.
    values_tell n (get_or ps k 0) (2 * 2 ^ k) (below k) (unit_fits n k (subst (λ m. k < m) len within))
    (λ x l. sym (state-bit ps k x within) ∙ ap (λ y. bit y k) (kept x l) ∙ sym (value-unit k x))
    ∙ ap (λ j. 2 * 2 ^ j) (none k))
  where
    none : (k : ℕ) → k ≡ 0 + k
    none k = omega arith

pub read-kept : (n : ℕ) (all left : List Gate) (ps : List ℕ) (terms : List Term) → IsRead n all left ps terms → left ≡ [] → AreBelow (n + 1) ps
    → ((x : List Bool) → length x ≡ n → moved_by all x ≡ x) → ps ≡ units_from (length ps) 0
read-kept n all left ps terms read none below kept =
    kept_units n ps read.len below
    (λ x l. ap (λ gates. moved_by gates (state ps x)) (sym none) ∙ read.moves x l ∙ kept x l)
