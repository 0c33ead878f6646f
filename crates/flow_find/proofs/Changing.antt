-- Rows that go through the moves of an elimination stay a frontier.
use Rattle.std.proofs.Common.{◌≡◌, refl, sym, ◌∙◌, ap, ap₂, subst, ⊎_elim, ℕ, Bool, true, false, not, ◌&&◌, ◌||◌, eqb, List, [], ◌∷◌, ◌++◌}
use Rattle.std.proofs.lemmas.Bool.{false_from_ne_true, true≢false, eqb-true}
use Rattle.zx_model.specs.Bits.{xor, member}
use Rattle.zx_calculus.proofs.Booleans.{parities, and-false, and-true, xor-false, or-false}
use Rattle.zx_calculus.proofs.Ids.{by_equal, eqb-self, and-left, and-right}
use Rattle.gflow_laws.specs.Seen.{Seen, in_odd_neighbourhood}
use Rattle.gflow_laws.specs.Flow.{is_in}
use Rattle.gflow_laws.proofs.Linear.{masked-same, masked-of-xor, masked-of-and}
use Rattle.gflow_laws.proofs.Corrects.{xor_true}
use Rattle.flow_find.specs.declared.row.Row.{Row}
use Rattle.flow_find.specs.Frontiers.{AreAll, combined, IsRow, IsFrontier, with_one}
use Rattle.flow_find.specs.Internal.Lacking.{IsShort}
use Rattle.flow_find.specs.Internal.Rows.{AreEach, IsAdded, IsCleared, IsDropped, IsPivoted, IsSpent, IsPut, IsRowTaken}
use Rattle.flow_find.proofs.Sums.{AreAll-weaker, AreAll-append, AreAll-front, AreAll-back, combined-append, combined-front}

-- a property that each change keeps
pub AreAll-changed : (change : Row → Row → Type 0) (P Q : Row → Type 0) (old new : List Row) → ((o n : Row) → change o n → P o → Q n) →
    AreEach change old new → AreAll P old → AreAll Q new
AreAll-changed change P Q [] [] keeps each all = tt
AreAll-changed change P Q (o ∷ os) (n ∷ ns) keeps each all = (keeps o n each.0 all.0, AreAll-changed change P Q os ns keeps each.1 all.1)
AreAll-changed change P Q [] (n ∷ ns) keeps each all = absurd each
AreAll-changed change P Q (o ∷ os) [] keeps each all = absurd each

-- a row that is added to a row
added_bits : (l o b r : Bool) → xor (l && o) (b && (l && r)) ≡ (l && xor o (b && r))
added_bits l o b r = simp parities

pub IsRow-added : (s : Seen) (left may : ℕ → Bool) (b : Bool) (row o n : Row) → IsRow s left may row → IsAdded b row o n → IsRow s left may o → IsRow s left may n
IsRow-added s left may b row o n is_row added old = record {
  columns = λ w. added.columns w ∙ ap₂ (λ x y. xor x (b && y)) (old.columns w) (is_row.columns w)
      ∙ added_bits (left w) (in_odd_neighbourhood s (is_in o.members.ids) w) b (in_odd_neighbourhood s (is_in row.members.ids) w)
      ∙ ap (λ x. left w && x) (sym (sums w));
  members = λ w e. ⊎_elim (old.members w) (λ h. is_row.members w (and-right b _ h)) (xor_true (member w o.members.ids) (b && member w row.members.ids) (sym (added.members w) ∙ e));
}
  where
    sums : (w : ℕ) → in_odd_neighbourhood s (is_in n.members.ids) w ≡ xor (in_odd_neighbourhood s (is_in o.members.ids) w) (b && in_odd_neighbourhood s (is_in row.members.ids) w)
    sums w =
        masked-same (s.adjacent w) (s.adjacent w) s.ids (is_in n.members.ids) (λ x. xor (is_in o.members.ids x) (b && is_in row.members.ids x)) (λ x _. ap (λ m. s.adjacent w x && m) (added.members x))
        ∙ masked-of-xor (s.adjacent w) s.ids (is_in o.members.ids) (λ x. b && is_in row.members.ids x)
        ∙ ap (xor (in_odd_neighbourhood s (is_in o.members.ids) w)) (masked-of-and b (s.adjacent w) s.ids (is_in row.members.ids))

held_on : (held : ℕ → Bool) (o n : Row) → n.pivot ≡ o.pivot → held o.pivot ≡ true → held n.pivot ≡ true
held_on held o n same h = ap held same ∙ h

-- a cleared column goes from what is combined, with the row once for each that had it
cleared_bits : (a c d m x y : Bool) → xor (a && xor c (d && m)) (xor x (y && m)) ≡ xor (xor (a && c) x) (xor (a && d) y && m)
cleared_bits a c d m x y = simp parities

pub combined-cleared : (t : ℕ → Bool) (p : ℕ) (row : Row) (old new : List Row) (w : ℕ) → AreEach (IsCleared p row) old new →
    combined t new w ≡ xor (combined t old w) (combined t old p && member w row.columns.ids)
combined-cleared t p row [] [] w each = refl
combined-cleared t p row (o ∷ os) (n ∷ ns) w each =
    ap₂ (λ a c. xor (t a && c) (combined t ns w)) each.0.pivot (each.0.columns w)
    ∙ ap (xor (t o.pivot && xor (member w o.columns.ids) (member p o.columns.ids && member w row.columns.ids))) (combined-cleared t p row os ns w each.1)
    ∙ cleared_bits (t o.pivot) (member w o.columns.ids) (member p o.columns.ids) (member w row.columns.ids) (combined t os w) (combined t os p)
combined-cleared t p row [] (n ∷ ns) w each = absurd each
combined-cleared t p row (o ∷ os) [] w each = absurd each

-- a row without columns changes nothing
pub combined-spent : (t : ℕ → Bool) (test : Row → Bool) (row : Row) (old new : List Row) (w : ℕ) → row.columns.ids ≡ [] → AreEach (λ o n. IsAdded (test o) row o n) old new →
    combined t new w ≡ combined t old w
combined-spent t test row [] [] w empty each = refl
combined-spent t test row (o ∷ os) (n ∷ ns) w empty each =
    ap₂ (λ a c. xor (t a && c) (combined t ns w)) each.0.pivot
    (each.0.columns w ∙ ap (λ l. xor (member w o.columns.ids) (test o && member w l)) empty ∙ ap (xor (member w o.columns.ids)) (and-false (test o)) ∙ xor-false (member w o.columns.ids))
    ∙ ap (xor (t o.pivot && member w o.columns.ids)) (combined-spent t test row os ns w empty each.1)
combined-spent t test row [] (n ∷ ns) w empty each = absurd each
combined-spent t test row (o ∷ os) [] w empty each = absurd each

-- a and b : a vertex's neighbour at w and at p; c and d : what is combined there
regrouped : (b c d m : Bool) → xor (xor c (d && m)) (b && m) ≡ xor c (xor b d && m)
regrouped b c d m = simp parities

cancels : (a c : Bool) → xor c (xor a c) ≡ a
cancels a c = simp parities

closes : (a b c d k m : Bool) → xor b d ≡ (k && true) → xor a c ≡ (k && m) → a ≡ xor (xor c (d && m)) (b && m)
closes a b c d k m at_pivot at_w =
    sym (regrouped b c d m ∙ ap (λ x. xor c (x && m)) (at_pivot ∙ and-true k) ∙ ap (xor c) (sym at_w) ∙ cancels a c)

-- a row is put among rows that lack a multiple of it
pub put_keeps : (s : Seen) (left held may : ℕ → Bool) (row : Row) (old new : List Row) → ((w : ℕ) → left w ≡ true → held w ≡ true) →
    IsRow s left may row → AreAll (IsRow s left may) old → AreAll (λ r. held r.pivot ≡ true) old → IsShort s left may old row.columns.ids →
    IsPut row old new → IsFrontier s left held may new
put_keeps s left held may row old new holds is_row each pivots short put = ⊎_elim pivoted spent put
  where
    pivoted : IsPivoted row old new → IsFrontier s left held may new
    pivoted p = subst (IsFrontier s left held may) (sym p.last) record {
      each = AreAll-append (IsRow s left may) p.others (record row { pivot = p.pivot } ∷ [])
          (AreAll-changed (IsCleared p.pivot row) (IsRow s left may) (IsRow s left may) old p.others (λ o n c. IsRow-added s left may (member p.pivot o.columns.ids) row o n is_row c) p.cleared each)
          (record { columns = is_row.columns; members = is_row.members }, tt);
      pivots = AreAll-append (λ r. held r.pivot ≡ true) p.others (record row { pivot = p.pivot } ∷ [])
          (AreAll-changed (IsCleared p.pivot row) (λ r. held r.pivot ≡ true) (λ r. held r.pivot ≡ true) old p.others (λ o n c. held_on held o n c.pivot) p.cleared pivots)
          (holds p.pivot is_left, tt);
      spans = λ u w usable l.
          closes (s.adjacent u w) (s.adjacent u p.pivot) (combined (s.adjacent u) old w) (combined (s.adjacent u) old p.pivot) (short.times u) (member w row.columns.ids)
          (short.lacks u p.pivot usable is_left ∙ ap (λ b. short.times u && b) p.has_it) (short.lacks u w usable l)
          ∙ sym (combined-append (s.adjacent u) p.others (record row { pivot = p.pivot } ∷ []) w
          ∙ ap₂ xor (combined-cleared (s.adjacent u) p.pivot row old p.others w p.cleared) (xor-false (s.adjacent u p.pivot && member w row.columns.ids)));
    }
      where
        is_left : left p.pivot ≡ true
        is_left = and-left _ _ (sym (is_row.columns p.pivot) ∙ p.has_it)

    spent : IsSpent row old new → IsFrontier s left held may new
    spent e = record {
      each = AreAll-changed (λ o n. IsAdded (e.test o) row o n) (IsRow s left may) (IsRow s left may) old new (λ o n c. IsRow-added s left may (e.test o) row o n is_row c) e.added each;
      pivots = AreAll-changed (λ o n. IsAdded (e.test o) row o n) (λ r. held r.pivot ≡ true) (λ r. held r.pivot ≡ true) old new (λ o n c. held_on held o n c.pivot) e.added pivots;
      spans = λ u w usable l.
          sym (xor_none (s.adjacent u w) (combined (s.adjacent u) old w) (short.lacks u w usable l ∙ ap (λ c. short.times u && member w c) e.empty ∙ and-false (short.times u)))
          ∙ sym (combined-spent (s.adjacent u) e.test row old new w e.empty e.added);
    }
      where
        xor_none : (a c : Bool) → xor a c ≡ false → c ≡ a
        xor_none true true h = refl
        xor_none false c h = h
        xor_none true false h = absurd (true≢false h)

-- a row is taken out: the others lack a multiple of it
pub taken_short : (s : Seen) (left held may : ℕ → Bool) (v : ℕ) (row : Row) (old new : List Row) → IsRowTaken v row old new → IsFrontier s left held may old →
    IsShort s left may new row.columns.ids
taken_short s left held may v row old new taken frontier = record {
  times = λ u. s.adjacent u row.pivot;
  lacks = λ u w usable l.
      ap₂ xor (frontier.spans u w usable l ∙ ap (λ rs. combined (s.adjacent u) rs w) taken.was ∙ combined-front (s.adjacent u) taken.before row taken.after w) (ap (λ rs. combined (s.adjacent u) rs w) taken.is)
      ∙ last_cancels (s.adjacent u row.pivot && member w row.columns.ids) (combined (s.adjacent u) (taken.before ++ taken.after) w);
}
  where
    last_cancels : (a b : Bool) → xor (xor a b) b ≡ a
    last_cancels a b = simp parities

pub AreAll-taken : (P : Row → Type 0) (v : ℕ) (row : Row) (old new : List Row) → IsRowTaken v row old new → AreAll P old → P row × AreAll P new
AreAll-taken P v row old new taken all =
    let parts : AreAll P (taken.before ++ row ∷ taken.after) = subst (AreAll P) taken.was all in
    let back : AreAll P (row ∷ taken.after) = AreAll-back P taken.before (row ∷ taken.after) parts in
    (back.0, subst (AreAll P) (sym taken.is) (AreAll-append P taken.before taken.after (AreAll-front P taken.before (row ∷ taken.after) parts) back.1))

-- taken out and put again
pub turned_once : (s : Seen) (left held may : ℕ → Bool) (v : ℕ) (row : Row) (old mid new : List Row) → ((w : ℕ) → left w ≡ true → held w ≡ true) →
    IsRowTaken v row old mid → IsPut row mid new → IsFrontier s left held may old → IsFrontier s left held may new
turned_once s left held may v row old mid new holds taken put frontier =
    let rows = AreAll-taken (IsRow s left may) v row old mid taken frontier.each in
    let pivots = AreAll-taken (λ r. held r.pivot ≡ true) v row old mid taken frontier.pivots in
    put_keeps s left held may row mid new holds rows.0 rows.1 pivots.1 (taken_short s left held may v row old mid taken frontier) put

-- a vertex that goes
abbrev pub IsWithout : ℕ → Row → Type 0
IsWithout v r = member v r.columns.ids ≡ false

pub dropped_without : (v : ℕ) (old new : List Row) → AreEach (IsDropped v) old new → AreAll (IsWithout v) new
dropped_without v [] [] each = tt
dropped_without v (o ∷ os) (n ∷ ns) each = (each.0.columns v ∙ ap (λ b. not b && member v o.columns.ids) (eqb-self v), dropped_without v os ns each.1)
dropped_without v [] (n ∷ ns) each = absurd each
dropped_without v (o ∷ os) [] each = absurd each

pub combined-dropped : (t : ℕ → Bool) (v : ℕ) (old new : List Row) (w : ℕ) → eqb w v ≡ false → AreEach (IsDropped v) old new → combined t new w ≡ combined t old w
combined-dropped t v [] [] w n each = refl
combined-dropped t v (o ∷ os) (m ∷ ms) w n each =
    ap₂ (λ a c. xor (t a && c) (combined t ms w)) each.0.pivot (each.0.columns w ∙ ap (λ b. not b && member w o.columns.ids) n)
    ∙ ap (xor (t o.pivot && member w o.columns.ids)) (combined-dropped t v os ms w n each.1)
combined-dropped t v [] (m ∷ ms) w n each = absurd each
combined-dropped t v (o ∷ os) [] w n each = absurd each

-- what is left without v, where v isn't left
without_it : (left : ℕ → Bool) (v w : ℕ) → left v ≡ false → (b : Bool) → (not (eqb w v) && (with_one left v w && b)) ≡ (left w && b)
without_it left v w gone b = by_equal w v
    (λ t e. ap (λ c. not c && (with_one left v w && b)) t ∙ sym (ap (λ c. c && b) (ap left e ∙ gone)))
    (λ f n. ap₂ (λ c d. not c && ((left w || d) && b)) f f ∙ ap (λ c. c && b) (or-false (left w)))

apart : (left : ℕ → Bool) (v w : ℕ) → left v ≡ false → left w ≡ true → eqb w v ≡ false
apart left v w gone l = false_from_ne_true (eqb w v) (λ t. true≢false (sym l ∙ ap left (eqb-true w v t) ∙ gone))

pub dropped : (s : Seen) (left held may : ℕ → Bool) (v : ℕ) (old new : List Row) → left v ≡ false → AreEach (IsDropped v) old new →
    IsFrontier s (with_one left v) held may old → IsFrontier s left held may new
dropped s left held may v old new gone each frontier = record {
  each = AreAll-changed (IsDropped v) (IsRow s (with_one left v) may) (IsRow s left may) old new (λ o n d r. record {
    columns = λ w. d.columns w ∙ ap (λ b. not (eqb w v) && b) (r.columns w) ∙ without_it left v w gone (in_odd_neighbourhood s (is_in o.members.ids) w) ∙ ap (λ ms. left w && in_odd_neighbourhood s (is_in ms) w) (sym d.members);
    members = λ w e. r.members w (ap (member w) (sym d.members) ∙ e);
  }) each frontier.each;
  pivots = AreAll-changed (IsDropped v) (λ r. held r.pivot ≡ true) (λ r. held r.pivot ≡ true) old new (λ o n d. held_on held o n d.pivot) each frontier.pivots;
  spans = λ u w usable l. frontier.spans u w usable (ap (λ b. b || eqb w v) l) ∙ sym (combined-dropped (s.adjacent u) v old new w (apart left v w gone l) each);
}

-- no pivot is v any more
pub no_stale : (s : Seen) (left may : ℕ → Bool) (v : ℕ) (rows : List Row) → AreAll (λ r. eqb r.pivot v ≡ false) rows →
    IsFrontier s left (with_one left v) may rows → IsFrontier s left left may rows
no_stale s left may v rows none frontier = record { each = frontier.each; pivots = held rows none frontier.pivots; spans = frontier.spans }
  where
    held : (rs : List Row) → AreAll (λ r. eqb r.pivot v ≡ false) rs → AreAll (λ r. with_one left v r.pivot ≡ true) rs → AreAll (λ r. left r.pivot ≡ true) rs
    held [] out all = tt
    held (r ∷ rs) out all = (sym (or-false (left r.pivot)) ∙ ap (λ b. left r.pivot || b) (sym out.0) ∙ all.0, held rs out.1 all.1)

-- one more that may be a member
pub with_may : (s : Seen) (left may : ℕ → Bool) (u : ℕ) (rows : List Row) → AreAll (IsRow s left may) rows → AreAll (IsRow s left (with_one may u)) rows
with_may s left may u rows each =
    AreAll-weaker (IsRow s left may) (IsRow s left (with_one may u)) rows
    (λ r is. record { columns = is.columns; members = λ w e. ap (λ b. b || eqb w u) (is.members w e) }) each

-- rows with another function that says the same
pub frontier_alike : (s : Seen) (left may may' : ℕ → Bool) (rows : List Row) → ((w : ℕ) → may w ≡ may' w) → IsFrontier s left left may rows → IsFrontier s left left may' rows
frontier_alike s left may may' rows same frontier = subst (λ m. IsFrontier s left left m rows) (λ i w. same w i) frontier
