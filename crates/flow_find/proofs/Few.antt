-- Rows don't become more while a vertex goes: an XY vertex is the sum of the rows whose pivot it was, so one of them is
-- left without columns.
use Rattle.std.proofs.Common.{◌≡◌, ◌≢◌, ◌⊎◌, inl, inr, refl, sym, ◌∙◌, ap, ap₂, subst, ⊎_elim, ℕ, ◌+◌, ◌<◌, ◌≤◌, Bool, true, false, ◌&&◌, ◌||◌, eqb, List, [], ◌∷◌, ◌++◌, length, length-append, take, drop, arith}
use Rattle.std.proofs.lemmas.Bool.{true≢false, eqb-true, eqb-false}
use Rattle.zx_model.specs.Bits.{xor, member, one_if}
use Rattle.zx_calculus.specs.Graph.{Plane, XY, XZ, YZ, is_XY}
use Rattle.zx_calculus.proofs.Booleans.{and-false, xor-same, or-true}
use Rattle.zx_calculus.proofs.Ids.{by_test, by_equal, eqb-self}
use Rattle.gflow_laws.specs.Seen.{Seen}
use Rattle.gflow_laws.specs.Correcting.{Simple}
use Rattle.gflow_laws.specs.Flow.{inside_in, odd_in}
use Rattle.flow_find.specs.declared.row.Row.{Row}
use Rattle.flow_find.specs.Frontiers.{AreAll, combined, target_of, usable, IsCorrectable, IsFrontierOf, with_one}
use Rattle.flow_find.specs.Internal.Rows.{AreEach, IsAdded, IsCleared, IsDropped, IsPivoted, IsSpent, IsPut, IsRowTaken, stale, IsCancelled, IsPassable}
use Rattle.flow_find.proofs.Sums.{combined_alike, combined-append, combined-front, odd-gathered}
use Rattle.flow_find.proofs.Changing.{AreAll-taken, IsWithout, combined-cleared, combined-dropped, dropped_without}
use Rattle.flow_find.proofs.Passing.{combined_outside}
use Rattle.flow_find.proofs.Finding.{sums_up}
use Rattle.flow_find.proofs.Steps.{length-each, written}
use Rattle.flow_find.proofs.Stale.{stale-same, stale-put}

none_combined : (v : ℕ) (rows : List Row) (w : ℕ) → stale v rows ≡ 0 → combined (λ p. eqb p v) rows w ≡ false
none_combined v [] w none = refl
none_combined v (r ∷ rs) w none = by_test (eqb r.pivot v)
    (λ t. let one : one_if (eqb r.pivot v) ≡ 1 = ap one_if t in absurd (omega arith))
    (λ f. let zero : one_if (eqb r.pivot v) ≡ 0 = ap one_if f in
    let rest : stale v rs ≡ 0 = omega arith in
    ap (λ b. xor (b && member w r.columns.ids) (combined (λ p. eqb p v) rs w)) f ∙ none_combined v rs w rest)

pub length-put : (row : Row) (old new : List Row) → IsPut row old new → length new ≤ length old + 1
length-put row old new put = ⊎_elim
    (λ p. let a : length new ≡ length p.others + 1 = ap (λ (l : List Row). length l) p.last ∙ length-append p.others (record row { pivot = p.pivot } ∷ []) in
    let b : length p.others ≡ length old = length-each (IsCleared p.pivot row) old p.others p.cleared in omega arith)
    (λ e. let b : length new ≡ length old = length-each (λ o n. IsAdded (e.test o) row o n) old new e.added in omega arith)
    put

pub length-taken : (v : ℕ) (row : Row) (old new : List Row) → IsRowTaken v row old new → length old ≡ length new + 1
length-taken v row old new taken =
    let a : length old ≡ length taken.before + length (row ∷ taken.after) = ap (λ (l : List Row). length l) taken.was ∙ length-append taken.before (row ∷ taken.after) in
    let b : length new ≡ length taken.before + length taken.after = ap (λ (l : List Row). length l) taken.is ∙ length-append taken.before taken.after in
    omega arith

-- one that was taken out and put again: a row less, or some are left that add up to nothing
module _ (v : ℕ) (row : Row) (old mid new : List Row) (taken : IsRowTaken v row old mid) (without : AreAll (IsWithout v) old) (put : IsPut row mid new) where
  out : member v row.columns.ids ≡ false
  out = (AreAll-taken (IsWithout v) v row old mid taken without).0

  xor_zero : (a b : Bool) → xor a b ≡ false → b ≡ a
  xor_zero true true e = refl
  xor_zero false b e = e
  xor_zero true false e = absurd (true≢false e)

  rest_is_row : IsCancelled v old → (w : ℕ) → combined (λ p. eqb p v) mid w ≡ member w row.columns.ids
  rest_is_row c w =
      ap (λ l. combined (λ p. eqb p v) l w) taken.is
      ∙ xor_zero (member w row.columns.ids) (combined (λ p. eqb p v) (taken.before ++ taken.after) w)
      (sym (ap (λ b. xor (b && member w row.columns.ids) (combined (λ p. eqb p v) (taken.before ++ taken.after) w)) (ap (λ p. eqb p v) taken.pivot ∙ eqb-self v))
      ∙ sym (combined-front (λ p. eqb p v) taken.before row taken.after w) ∙ ap (λ l. combined (λ p. eqb p v) l w) (sym taken.was) ∙ c.sum w)

  pub turned_fewer : IsCancelled v old → (length new < length old) ⊎ IsCancelled v new
  turned_fewer c = ⊎_elim pivoted spent put
    where
      spent : IsSpent row mid new → (length new < length old) ⊎ IsCancelled v new
      spent e =
          let a : length old ≡ length mid + 1 = length-taken v row old mid taken in
          let b : length new ≡ length mid = length-each (λ o n. IsAdded (e.test o) row o n) mid new e.added in
          inl (omega arith)

      pivoted : IsPivoted row mid new → (length new < length old) ⊎ IsCancelled v new
      pivoted p = inr record {
        sum = λ w.
            ap (λ l. combined (λ x. eqb x v) l w) p.last ∙ combined-append (λ x. eqb x v) p.others (record row { pivot = p.pivot } ∷ []) w
            ∙ ap₂ xor
            (combined-cleared (λ x. eqb x v) p.pivot row mid p.others w p.cleared
            ∙ ap₂ (λ a b. xor a (b && member w row.columns.ids)) (rest_is_row c w) (rest_is_row c p.pivot ∙ p.has_it) ∙ xor-same (member w row.columns.ids))
            (ap (λ b. xor (b && member w row.columns.ids) false) apart);
        some = left_over;
      }
        where
          apart : eqb p.pivot v ≡ false
          apart = by_equal p.pivot v (λ t e. absurd (true≢false (sym p.has_it ∙ ap (λ x. member x row.columns.ids) e ∙ out))) (λ f n. f)

          left_over : 1 ≤ stale v new
          left_over = by_test (eqb (stale v mid) 0)
              (λ t. absurd (true≢false (sym p.has_it ∙ sym (rest_is_row c p.pivot) ∙ none_combined v mid p.pivot (eqb-true (stale v mid) 0 t))))
              (λ f. let same : stale v new ≡ stale v mid = stale-put v row mid new out put in
              let some : stale v mid ≢ 0 = eqb-false (stale v mid) 0 f in omega arith)

-- the row of an XY vertex without its column
pub cancelled_XY : (s : Seen) (left : ℕ → Bool) (v : ℕ) (old new : List Row) → Simple s → left v ≡ true → s.plane v ≡ XY → IsFrontierOf s left old → IsCorrectable s left v →
    AreEach (IsDropped v) old new → IsCancelled v new
cancelled_XY s left v old new simple there plane frontier c each = record { sum = sum; some = some }
  where
    target : (w : ℕ) → target_of s v w ≡ eqb w v
    target w = ap₂ (λ a b. xor (a && s.adjacent v w) (b && eqb w v)) (ap inside_in plane) (ap odd_in plane)

    before : (w : ℕ) → left w ≡ true → combined (λ p. eqb p v) old w ≡ eqb w v
    before w l = sym (combined_alike (target_of s v) (λ p. eqb p v) old w target) ∙ sym (odd-gathered s left (usable s left) (target_of s v) old w frontier.each l)
        ∙ sums_up s left v old w simple frontier c l ∙ target w

    no_column : (rs : List Row) (w : ℕ) → AreAll (IsWithout w) rs → combined (λ p. eqb p v) rs w ≡ false
    no_column [] w all = refl
    no_column (r ∷ rs) w all = ap₂ (λ a b. xor (eqb r.pivot v && a) b) all.0 (no_column rs w all.1) ∙ ap (λ b. xor b false) (and-false (eqb r.pivot v))

    sum : (w : ℕ) → combined (λ p. eqb p v) new w ≡ false
    sum w = by_equal w v
        (λ t e. ap (combined (λ p. eqb p v) new) e ∙ no_column new v (dropped_without v old new each))
        (λ f n. combined-dropped (λ p. eqb p v) v old new w f each
        ∙ by_test (left w) (λ l. before w l ∙ f) (λ o. combined_outside s left (usable s left) (λ p. eqb p v) old w frontier.each o))

    some : 1 ≤ stale v new
    some = by_test (eqb (stale v old) 0)
        (λ t. absurd (true≢false (sym (before v there ∙ eqb-self v) ∙ none_combined v old v (eqb-true (stale v old) 0 t))))
        (λ f. let same : stale v new ≡ stale v old = stale-same (IsDropped v) v old new (λ o n d. d.pivot) each in
        let apart : stale v old ≢ 0 = eqb-false (stale v old) 0 f in omega arith)

-- ---- the loop over the rows whose pivot went

pub few_more : (v : ℕ) (row : Row) (first old mid new : List Row) → IsRowTaken v row old mid → IsPut row mid new → length old ≤ length first → length new ≤ length first
few_more v row first old mid new taken put few =
    let a : length old ≡ length mid + 1 = length-taken v row old mid taken in
    let b : length new ≤ length mid + 1 = length-put row mid new put in
    omega arith

pub fewer_more : (v : ℕ) (row : Row) (first old mid new : List Row) → IsRowTaken v row old mid → AreAll (IsWithout v) old → IsPut row mid new → length old ≤ length first →
    (length old < length first) ⊎ IsCancelled v old → (length new < length first) ⊎ IsCancelled v new
fewer_more v row first old mid new taken without put few so_far =
    let a : length old ≡ length mid + 1 = length-taken v row old mid taken in
    let b : length new ≤ length mid + 1 = length-put row mid new put in
    ⊎_elim (λ l. inl (omega arith)) (λ c. ⊎_elim (λ l. inl (omega arith)) inr (turned_fewer v row old mid new taken without put c)) so_far

none_stale : (v : ℕ) (rows : List Row) → AreAll (λ r. eqb r.pivot v ≡ false) rows → stale v rows ≡ 0
none_stale v [] all = refl
none_stale v (r ∷ rs) all = ap₂ (λ b k. one_if b + k) all.0 (none_stale v rs all.1)

pub fewer_at_last : (v : ℕ) (first old new : List Row) → new ≡ old → AreAll (λ r. eqb r.pivot v ≡ false) new → (length old < length first) ⊎ IsCancelled v old → length new < length first
fewer_at_last v first old new same none so_far =
    let size : length new ≡ length old = ap (λ (l : List Row). length l) same in
    let zero : stale v old ≡ 0 = ap (stale v) (sym same) ∙ none_stale v new none in
    ⊎_elim (λ l. omega arith) (λ c. let some : 1 ≤ stale v old = c.some in absurd (omega arith)) so_far

-- ---- a vertex that goes

pub written_size : (change : Row → Row → Type 0) (at old new : List Row) (k : ℕ) → at ≡ old → k ≡ length old → AreEach change at new →
    length (take k (new ++ drop (length new) old)) ≡ length old
written_size change at old new k same len each =
    ap (λ (l : List Row). length l) (written change at old new k same len each) ∙ length-each change at new each ∙ ap (λ (l : List Row). length l) same

is_XY-is : (p : Plane) → is_XY p ≡ true → p ≡ XY
is_XY-is XY e = refl
is_XY-is XZ e = absurd (true≢false (sym e))
is_XY-is YZ e = absurd (true≢false (sym e))

-- a row less, and then one more
pub still_few : (s : Seen) (left : ℕ → Bool) (v : ℕ) (old at mid turned new : List Row) (k : ℕ) → Simple s → is_XY (s.plane v) ≡ true → IsPassable s left v old →
    at ≡ old → k ≡ length old → AreEach (IsDropped v) at mid →
    (IsCancelled v (take k (mid ++ drop (length mid) old)) → length turned < length (take k (mid ++ drop (length mid) old))) →
    length new ≤ length turned + 1 → length new ≤ length old
still_few s left v old at mid turned new k simple plane before same len each fewer one_more =
    let all : take k (mid ++ drop (length mid) old) ≡ mid = written (IsDropped v) at old mid k same len each in
    let size : length (take k (mid ++ drop (length mid) old)) ≡ length old = written_size (IsDropped v) at old mid k same len each in
    let there : with_one left v v ≡ true = ap (λ b. left v || b) (eqb-self v) ∙ or-true (left v) in
    let cancelled : IsCancelled v mid =
    cancelled_XY s (with_one left v) v at mid simple there (is_XY-is (s.plane v) plane) (subst (λ (rows : List Row). IsFrontierOf s (with_one left v) rows) (sym same) before.0) before.1 each in
    let less : length turned < length (take k (mid ++ drop (length mid) old)) = fewer (subst (IsCancelled v) (sym all) cancelled) in
    omega arith
