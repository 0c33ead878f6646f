-- Loops over rows, step by step.
use Rattle.std.proofs.Common.{◌≡◌, refl, sym, ◌∙◌, ap, subst, inr, ℕ, zero, suc, ◌<◌, ◌≤◌, Bool, false, ◌&&◌, List, [], ◌∷◌, ◌+◌, cond, eqb, ltb, ◌++◌, length, get_or, take, take_all, drop, drop-cons, set, remove, eqb-true, ltb-false, true, true≢false, append-nil, arith}
use Rattle.std.specs.Prelude.{Some, None, position}
use Rattle.std.specs.List.{position_or_len}
use Rattle.std.proofs.lemmas.List.Quantifiers.{position-Some}
use Rattle.std.proofs.lemmas.List.Recursion.{is_position_or_len}
use Rattle.std.proofs.lemmas.List.{drop_all, take-append-drop}
use Rattle.zx_model.specs.Bits.{xor, member}
use Rattle.zx_calculus.proofs.Booleans.{parities, xor-false}
use Rattle.flow_find.specs.declared.row.Row.{Row}
use Rattle.flow_find.specs.Frontiers.{AreAll, combined, gathered}
use Rattle.flow_find.specs.Internal.Rows.{AreEach, IsAdded, IsSum, IsRowTaken, IsSpent, IsPut}
use Rattle.zx_calculus.proofs.Ids.{by_test, member-here}

-- the rows that are left add up, with what is there, to all of them
pub record IsSumSoFar (picked : ℕ → Bool) (rows rest : List Row) (start now : Row) : Type 0 where
  pub columns : (w : ℕ) → xor (member w now.columns.ids) (combined picked rest w) ≡ xor (member w start.columns.ids) (combined picked rows w)
  pub members : (w : ℕ) → xor (member w now.members.ids) (gathered picked rest w) ≡ xor (member w start.members.ids) (gathered picked rows w)

one_bit : (a p m r : Bool) → xor (xor a (p && m)) r ≡ xor a (xor (p && m) r)
one_bit a p m r = simp parities

pub sum_more : (t : ℕ → Bool) (rows : List Row) (i : ℕ) (r : Row) (start now new : Row) → i < length rows → r ≡ get_or rows i r →
    IsSumSoFar t rows (drop i rows) start now → IsAdded (t r.pivot) r now new → IsSumSoFar t rows (drop (suc i) rows) start new
sum_more t rows i r start now new within is so_far added = record {
  columns = λ w. ap (λ b. xor b (combined t (drop (suc i) rows) w)) (added.columns w) ∙ one_bit (member w now.columns.ids) (t r.pivot) (member w r.columns.ids) (combined t (drop (suc i) rows) w)
      ∙ ap (λ l. xor (member w now.columns.ids) (combined t l w)) (sym split) ∙ so_far.columns w;
  members = λ w. ap (λ b. xor b (gathered t (drop (suc i) rows) w)) (added.members w) ∙ one_bit (member w now.members.ids) (t r.pivot) (member w r.members.ids) (gathered t (drop (suc i) rows) w)
      ∙ ap (λ l. xor (member w now.members.ids) (gathered t l w)) (sym split) ∙ so_far.members w;
}
  where
    split : drop i rows ≡ r ∷ drop (suc i) rows
    split = drop-cons rows i r within ∙ ap (λ x. x ∷ drop (suc i) rows) (sym is)

pub sum_all : (t : ℕ → Bool) (rows : List Row) (i : ℕ) (start now : Row) → length rows ≤ i → IsSumSoFar t rows (drop i rows) start now → IsSum t rows start now
sum_all t rows i start now over so_far = record {
  columns = λ w. sym (xor-false (member w now.columns.ids)) ∙ ap (λ l. xor (member w now.columns.ids) (combined t l w)) (sym none) ∙ so_far.columns w;
  members = λ w. sym (xor-false (member w now.members.ids)) ∙ ap (λ l. xor (member w now.members.ids) (gathered t l w)) (sym none) ∙ so_far.members w;
}
  where
    none : drop i rows ≡ []
    none = drop_all i rows over

-- with its members counted
pub counted : (t : ℕ → Bool) (rows : List Row) (start sum now : Row) → now.columns.ids ≡ sum.columns.ids → now.members.ids ≡ sum.members.ids →
    IsSum t rows start sum → IsSum t rows start now
counted t rows start sum now columns members s = record {
  columns = λ w. ap (member w) columns ∙ s.columns w;
  members = λ w. ap (member w) members ∙ s.members w;
}

-- the first i rows have changed, and the others haven't
abbrev pub AreChanged : (Row → Row → Type 0) → ℕ → List Row → List Row → Type 0
AreChanged change zero old new = old ≡ new
AreChanged change (suc i) [] [] = Unit {0}
AreChanged change (suc i) (o ∷ os) (n ∷ ns) = change o n × AreChanged change i os ns
AreChanged change (suc i) [] (n ∷ ns) = ⊥
AreChanged change (suc i) (o ∷ os) [] = ⊥

pub changed_more : (change : Row → Row → Type 0) (i : ℕ) (old new : List Row) (r d : Row) → i < length new → AreChanged change i old new →
    change (get_or new i d) r → AreChanged change (suc i) old (set new i r)
changed_more change zero old [] r d within so_far step = absurd (omega arith)
changed_more change zero old (n ∷ ns) r d within so_far step = subst (λ l. AreChanged change 1 l (r ∷ ns)) (sym so_far) (step, refl)
changed_more change (suc i) [] [] r d within so_far step = absurd (omega arith)
changed_more change (suc i) (o ∷ os) (n ∷ ns) r d within so_far step = (so_far.0, changed_more change i os ns r d (omega arith) so_far.1 step)
changed_more change (suc i) [] (n ∷ ns) r d within so_far step = absurd so_far
changed_more change (suc i) (o ∷ os) [] r d within so_far step = absurd so_far

pub changed_all : (change : Row → Row → Type 0) (i : ℕ) (old new : List Row) → length new ≤ i → AreChanged change i old new → AreEach change old new
changed_all change zero old [] over so_far = subst (λ l. AreEach change l []) (sym so_far) tt
changed_all change zero old (n ∷ ns) over so_far = absurd (omega arith)
changed_all change (suc i) [] [] over so_far = tt
changed_all change (suc i) (o ∷ os) (n ∷ ns) over so_far = (so_far.0, changed_all change i os ns (omega arith) so_far.1)
changed_all change (suc i) [] (n ∷ ns) over so_far = absurd so_far
changed_all change (suc i) (o ∷ os) [] over so_far = absurd so_far

-- nothing is added
pub unchanged : (row : Row) (rows : List Row) → AreEach (λ o n. IsAdded false row o n) rows rows
unchanged row [] = tt
unchanged row (r ∷ rs) = (record { pivot = refl; columns = λ w. sym (xor-false (member w r.columns.ids)); members = λ w. sym (xor-false (member w r.members.ids)) }, unchanged row rs)

-- what stands in a `Vec` after a change of its elements
pub length-each : (change : Row → Row → Type 0) (old new : List Row) → AreEach change old new → length new ≡ length old
length-each change [] [] each = refl
length-each change (o ∷ os) (n ∷ ns) each = ap suc (length-each change os ns each.1)
length-each change [] (n ∷ ns) each = absurd each
length-each change (o ∷ os) [] each = absurd each

pub written : (change : Row → Row → Type 0) (at old new : List Row) (k : ℕ) → at ≡ old → k ≡ length old → AreEach change at new → take k (new ++ drop (length new) old) ≡ new
written change at old new k same len each =
    let size : length new ≡ length old = length-each change at new each ∙ ap (λ (l : List Row). length l) same in
    ap (λ l. take k (new ++ l)) (drop_all (length new) old (omega arith)) ∙ ap (take k) (append-nil new) ∙ take_all k new (omega arith)

-- a row that is taken out by its place
split_at : (rows : List Row) (i : ℕ) (row : Row) → i < length rows → row ≡ get_or rows i row → rows ≡ take i rows ++ row ∷ drop (suc i) rows
split_at rows i row within is = sym (take-append-drop i rows) ∙ ap (λ l. take i rows ++ l) (drop-cons rows i row within ∙ ap (λ x. x ∷ drop (suc i) rows) (sym is))

remove-parts : (rows : List Row) (i : ℕ) → i < length rows → remove rows i ≡ take i rows ++ drop (suc i) rows
remove-parts [] i within = absurd (omega arith)
remove-parts (r ∷ rs) zero within = refl
remove-parts (r ∷ rs) (suc i) within = ap (λ l. r ∷ l) (remove-parts rs i (omega arith))

pub taken : (rows : List Row) (v i : ℕ) (row : Row) (new : List Row) → position (λ (r : Row). eqb r.pivot v) rows ≡ Some i → row ≡ get_or rows i row → new ≡ remove rows i → IsRowTaken v row rows new
taken rows v i row new found is without =
    let facts = position-Some (λ (r : Row). eqb r.pivot v) rows i row found in
    record {
      before = take i rows;
      after = drop (suc i) rows;
      pivot = eqb-true row.pivot v (ap (λ (r : Row). eqb r.pivot v) is ∙ facts.1);
      was = split_at rows i row facts.0 is;
      is = without ∙ remove-parts rows i facts.0;
    }

-- no row has the pivot
abbrev first_place : ℕ → List Row → ℕ
first_place v [] = 0
first_place v (r ∷ rs) = cond (eqb r.pivot v) 0 (1 + first_place v rs)

past_all : (v : ℕ) (rows : List Row) → length rows ≤ first_place v rows → AreAll (λ r. eqb r.pivot v ≡ false) rows
past_all v [] over = tt
past_all v (r ∷ rs) over = by_test (eqb r.pivot v)
    (λ t. let over : suc (length rs) ≤ cond true 0 (1 + first_place v rs) = subst (λ (b : Bool). suc (length rs) ≤ cond b 0 (1 + first_place v rs)) t over in absurd (omega arith))
    (λ f. let over : suc (length rs) ≤ cond false 0 (1 + first_place v rs) = subst (λ (b : Bool). suc (length rs) ≤ cond b 0 (1 + first_place v rs)) f over in (f, past_all v rs (omega arith)))

pub none_left : (v : ℕ) (rows : List Row) → position (λ (r : Row). eqb r.pivot v) rows ≡ None → AreAll (λ r. eqb r.pivot v ≡ false) rows
none_left v rows none =
    past_all v rows (subst (λ (k : ℕ). length rows ≤ k) (sym same) (ltb-false _ _ (by_test (ltb (position_or_len (λ (r : Row). eqb r.pivot v) rows) (length rows))
    (λ t. absurd (some_none (sym (ap (λ b. cond b (Some (position_or_len (λ (r : Row). eqb r.pivot v) rows)) None) t) ∙ none))) (λ f. f))))
  where
    same : first_place v rows ≡ position_or_len (λ (r : Row). eqb r.pivot v) rows
    same = is_position_or_len (first_place v) (λ (r : Row). eqb r.pivot v) refl (λ x xs. refl) rows

    some_none : {k : ℕ} → Some k ≡ None → ⊥
    some_none e = cc

-- a row without columns, in a `Vec`
pub put_spent : (row : Row) (at old new : List Row) (k : ℕ) → at ≡ old → k ≡ length old → IsSpent row at new → IsPut row old (take k (new ++ drop (length new) old))
put_spent row at old new k same len spent =
    subst (IsPut row old) (sym (written (λ o n. IsAdded (spent.test o) row o n) at old new k same len spent.added))
    (inr (subst (λ (l : List Row). IsSpent row l new) same spent))

-- a list in which nothing is found has nothing
pub nothing_from_first : (vs : List ℕ) → ((w : ℕ) → 0 ≤ w → member w vs ≡ false) → vs ≡ []
nothing_from_first [] none = refl
nothing_from_first (v ∷ vs) none = absurd (true≢false (sym (member-here v vs) ∙ none v (omega arith)))
