-- How many rows have a pivot that went.
use Rattle.std.proofs.Common.{◌≡◌, refl, sym, ◌∙◌, ap, ap₂, subst, ⊎_elim, ℕ, suc, ◌+◌, ◌<◌, Bool, false, ◌&&◌, eqb, List, [], ◌∷◌, ◌++◌, arith}
use Rattle.std.proofs.lemmas.Bool.{true≢false}
use Rattle.zx_model.specs.Bits.{xor, member, one_if}
use Rattle.zx_calculus.proofs.Booleans.{and-false}
use Rattle.zx_calculus.proofs.Ids.{by_equal, eqb-self}
use Rattle.flow_find.specs.declared.row.Row.{Row}
use Rattle.flow_find.specs.Frontiers.{AreAll}
use Rattle.flow_find.specs.Internal.Rows.{AreEach, IsAdded, IsCleared, IsPivoted, IsSpent, IsPut, IsRowTaken, stale}
use Rattle.flow_find.proofs.Sums.{AreAll-append}
use Rattle.flow_find.proofs.Changing.{AreAll-changed, AreAll-taken, IsWithout}

stale-append : (v : ℕ) (xs ys : List Row) → stale v (xs ++ ys) ≡ stale v xs + stale v ys
stale-append v [] ys = omega arith
stale-append v (x ∷ xs) ys = let rest : stale v (xs ++ ys) ≡ stale v xs + stale v ys = stale-append v xs ys in omega arith

pub stale-same : (change : Row → Row → Type 0) (v : ℕ) (old new : List Row) → ((o n : Row) → change o n → n.pivot ≡ o.pivot) → AreEach change old new → stale v new ≡ stale v old
stale-same change v [] [] keeps each = refl
stale-same change v (o ∷ os) (n ∷ ns) keeps each = ap₂ (λ p k. one_if (eqb p v) + k) (keeps o n each.0) (stale-same change v os ns keeps each.1)
stale-same change v [] (n ∷ ns) keeps each = absurd each
stale-same change v (o ∷ os) [] keeps each = absurd each

-- a row with columns that aren't v is put: as many as before
pub stale-put : (v : ℕ) (row : Row) (old new : List Row) → member v row.columns.ids ≡ false → IsPut row old new → stale v new ≡ stale v old
stale-put v row old new none put = ⊎_elim pivoted spent put
  where
    pivoted : IsPivoted row old new → stale v new ≡ stale v old
    pivoted p =
        let apart : eqb p.pivot v ≡ false = by_equal p.pivot v (λ t e. absurd (true≢false (sym p.has_it ∙ ap (λ x. member x row.columns.ids) e ∙ none))) (λ f n. f) in
        ap (stale v) p.last ∙ stale-append v p.others (record row { pivot = p.pivot } ∷ [])
        ∙ ap₂ (λ k b. k + (one_if b + 0)) (stale-same (IsCleared p.pivot row) v old p.others (λ o n c. c.pivot) p.cleared) apart ∙ nothing (stale v old)
      where
        nothing : (k : ℕ) → k + (0 + 0) ≡ k
        nothing k = omega arith

    spent : IsSpent row old new → stale v new ≡ stale v old
    spent e = stale-same (λ o n. IsAdded (e.test o) row o n) v old new (λ o n c. c.pivot) e.added

pub stale-taken : (v : ℕ) (row : Row) (old new : List Row) → IsRowTaken v row old new → stale v old ≡ suc (stale v new)
stale-taken v row old new taken =
    let a : stale v old ≡ stale v taken.before + stale v (row ∷ taken.after) = ap (stale v) taken.was ∙ stale-append v taken.before (row ∷ taken.after) in
    let b : stale v new ≡ stale v taken.before + stale v taken.after = ap (stale v) taken.is ∙ stale-append v taken.before taken.after in
    let c : one_if (eqb row.pivot v) ≡ 1 = ap one_if (ap (λ p. eqb p v) taken.pivot ∙ eqb-self v) in
    omega (arith, a, b, c)

-- a row that was put for one that was taken out lowers the number
pub stale_less : (v : ℕ) (row : Row) (old mid new : List Row) → IsRowTaken v row old mid → AreAll (IsWithout v) old → IsPut row mid new → stale v new < stale v old
stale_less v row old mid new taken without put =
    let now : stale v new ≡ stale v mid = stale-put v row mid new (AreAll-taken (IsWithout v) v row old mid taken without).0 put in
    let was : stale v old ≡ suc (stale v mid) = stale-taken v row old mid taken in
    omega arith

-- the column that went stays away
pub put_without : (v : ℕ) (row : Row) (old new : List Row) → member v row.columns.ids ≡ false → AreAll (IsWithout v) old → IsPut row old new → AreAll (IsWithout v) new
put_without v row old new none without put = ⊎_elim pivoted spent put
  where
    kept : (test : Row → Bool) (o n : Row) → IsAdded (test o) row o n → IsWithout v o → IsWithout v n
    kept test o n added out = added.columns v ∙ ap₂ (λ a b. xor a (test o && b)) out none ∙ and-false (test o)

    pivoted : IsPivoted row old new → AreAll (IsWithout v) new
    pivoted p = subst (AreAll (IsWithout v)) (sym p.last) (AreAll-append (IsWithout v) p.others (record row { pivot = p.pivot } ∷ [])
        (AreAll-changed (IsCleared p.pivot row) (IsWithout v) (IsWithout v) old p.others (kept (λ o. member p.pivot o.columns.ids)) p.cleared without) (none, tt))

    spent : IsSpent row old new → AreAll (IsWithout v) new
    spent e = AreAll-changed (λ o n. IsAdded (e.test o) row o n) (IsWithout v) (IsWithout v) old new (kept e.test) e.added without
