-- Sums of rows are linear in what is picked, and sum up to the odd neighbourhood of any set that may be used.
use Rattle.std.proofs.Common.{◌≡◌, refl, sym, ◌∙◌, ap, ap₂, ℕ, Bool, true, false, ◌&&◌, List, [], ◌∷◌, ◌++◌}
use Rattle.std.proofs.lemmas.Bool.{false_from_ne_true, true≢false}
use Rattle.zx_model.specs.Bits.{xor, member}
use Rattle.zx_calculus.specs.Parity.{masked}
use Rattle.zx_calculus.proofs.Booleans.{parities, and_comm, and-false}
use Rattle.zx_calculus.proofs.Ids.{by_test}
use Rattle.gflow_laws.specs.Seen.{Seen, in_odd_neighbourhood}
use Rattle.gflow_laws.specs.Flow.{is_in}
use Rattle.gflow_laws.specs.Correcting.{Simple}
use Rattle.gflow_laws.proofs.Linear.{masked-same, masked-none, masked-of-xor, masked-of-and}
use Rattle.flow_find.specs.declared.row.Row.{Row}
use Rattle.flow_find.specs.Frontiers.{AreAll, combined, gathered, IsRow, IsFrontier}

pub AreAll-weaker : (P Q : Row → Type 0) (rows : List Row) → ((r : Row) → P r → Q r) → AreAll P rows → AreAll Q rows
AreAll-weaker P Q [] f all = tt
AreAll-weaker P Q (r ∷ rs) f all = (f r all.0, AreAll-weaker P Q rs f all.1)

pub AreAll-append : (P : Row → Type 0) (xs ys : List Row) → AreAll P xs → AreAll P ys → AreAll P (xs ++ ys)
AreAll-append P [] ys a b = b
AreAll-append P (x ∷ xs) ys a b = (a.0, AreAll-append P xs ys a.1 b)

pub AreAll-front : (P : Row → Type 0) (xs ys : List Row) → AreAll P (xs ++ ys) → AreAll P xs
AreAll-front P [] ys a = tt
AreAll-front P (x ∷ xs) ys a = (a.0, AreAll-front P xs ys a.1)

pub AreAll-back : (P : Row → Type 0) (xs ys : List Row) → AreAll P (xs ++ ys) → AreAll P ys
AreAll-back P [] ys a = a
AreAll-back P (x ∷ xs) ys a = AreAll-back P xs ys a.1

-- what is picked at the pivots decides
pub combined-same : (t u : ℕ → Bool) (rows : List Row) (w : ℕ) → AreAll (λ r. t r.pivot ≡ u r.pivot) rows → combined t rows w ≡ combined u rows w
combined-same t u [] w same = refl
combined-same t u (r ∷ rs) w same = ap₂ (λ a b. xor (a && member w r.columns.ids) b) same.0 (combined-same t u rs w same.1)

pub combined_alike : (t u : ℕ → Bool) (rows : List Row) (w : ℕ) → ((p : ℕ) → t p ≡ u p) → combined t rows w ≡ combined u rows w
combined_alike t u [] w same = refl
combined_alike t u (r ∷ rs) w same = ap₂ (λ a b. xor (a && member w r.columns.ids) b) (same r.pivot) (combined_alike t u rs w same)

both_picked : (a b m x y : Bool) → xor (xor a b && m) (xor x y) ≡ xor (xor (a && m) x) (xor (b && m) y)
both_picked a b m x y = simp parities

pub combined-xor : (a b : ℕ → Bool) (rows : List Row) (w : ℕ) → combined (λ p. xor (a p) (b p)) rows w ≡ xor (combined a rows w) (combined b rows w)
combined-xor a b [] w = refl
combined-xor a b (r ∷ rs) w =
    ap (xor (xor (a r.pivot) (b r.pivot) && member w r.columns.ids)) (combined-xor a b rs w)
    ∙ both_picked (a r.pivot) (b r.pivot) (member w r.columns.ids) (combined a rs w) (combined b rs w)

common_factor : (c a m x : Bool) → xor ((c && a) && m) (c && x) ≡ (c && xor (a && m) x)
common_factor c a m x = simp parities

pub combined-and : (c : Bool) (t : ℕ → Bool) (rows : List Row) (w : ℕ) → combined (λ p. c && t p) rows w ≡ (c && combined t rows w)
combined-and c t [] w = sym (and-false c)
combined-and c t (r ∷ rs) w =
    ap (xor ((c && t r.pivot) && member w r.columns.ids)) (combined-and c t rs w) ∙ common_factor c (t r.pivot) (member w r.columns.ids) (combined t rs w)

pub combined-false : (rows : List Row) (w : ℕ) → combined (λ p. false) rows w ≡ false
combined-false [] w = refl
combined-false (r ∷ rs) w = combined-false rs w

-- rows one after the other
moved : (a x y : Bool) → xor a (xor x y) ≡ xor x (xor a y)
moved a x y = simp parities

grouped : (a x y : Bool) → xor a (xor x y) ≡ xor (xor a x) y
grouped a x y = simp parities

pub combined-append : (t : ℕ → Bool) (xs ys : List Row) (w : ℕ) → combined t (xs ++ ys) w ≡ xor (combined t xs w) (combined t ys w)
combined-append t [] ys w = refl
combined-append t (x ∷ xs) ys w =
    ap (xor (t x.pivot && member w x.columns.ids)) (combined-append t xs ys w) ∙ grouped (t x.pivot && member w x.columns.ids) (combined t xs w) (combined t ys w)

pub combined-front : (t : ℕ → Bool) (xs : List Row) (r : Row) (ys : List Row) (w : ℕ) →
    combined t (xs ++ r ∷ ys) w ≡ xor (t r.pivot && member w r.columns.ids) (combined t (xs ++ ys) w)
combined-front t xs r ys w =
    combined-append t xs (r ∷ ys) w ∙ moved (combined t xs w) (t r.pivot && member w r.columns.ids) (combined t ys w)
    ∙ ap (xor (t r.pivot && member w r.columns.ids)) (sym (combined-append t xs ys w))

-- the parity over a set goes into the sum
pub combined-masked : (s : Seen) (A : ℕ → Bool) (rows : List Row) (w : ℕ) (vs : List ℕ) → Simple s →
    combined (λ p. masked (s.adjacent p) vs A) rows w ≡ masked (λ u. combined (s.adjacent u) rows w) vs A
combined-masked s A rows w [] simple = combined-false rows w
combined-masked s A rows w (u ∷ vs) simple =
    combined-xor (λ p. s.adjacent p u && A u) (λ p. masked (s.adjacent p) vs A) rows w
    ∙ ap₂ xor
    (combined_alike (λ p. s.adjacent p u && A u) (λ p. A u && s.adjacent u p) rows w (λ p. ap (λ b. b && A u) (simple.symmetric p u) ∙ and_comm (s.adjacent u p) (A u))
    ∙ combined-and (A u) (s.adjacent u) rows w ∙ and_comm (A u) (combined (s.adjacent u) rows w))
    (combined-masked s A rows w vs simple)

-- the odd neighbourhood of a set that may be used is a sum of rows
pub spans_sets : (s : Seen) (left held may : ℕ → Bool) (rows : List Row) (A : ℕ → Bool) (w : ℕ) → Simple s → IsFrontier s left held may rows →
    ((u : ℕ) → A u ≡ true → may u ≡ true) → left w ≡ true → in_odd_neighbourhood s A w ≡ combined (in_odd_neighbourhood s A) rows w
spans_sets s left held may rows A w simple frontier used there =
    masked-same (s.adjacent w) (λ u. combined (s.adjacent u) rows w) s.ids A A
    (λ u _. by_test (A u)
    (λ t. ap (λ b. b && A u) (simple.symmetric w u ∙ frontier.spans u w (used u t) there))
    (λ f. ap (λ b. s.adjacent w u && b) f ∙ and-false (s.adjacent w u) ∙ sym (ap (λ b. combined (s.adjacent u) rows w && b) f ∙ and-false (combined (s.adjacent u) rows w))))
    ∙ sym (combined-masked s A rows w s.ids simple)

-- what is gathered has the sum of the rows as its odd neighbourhood
pub odd-gathered : (s : Seen) (left may t : ℕ → Bool) (rows : List Row) (w : ℕ) → AreAll (IsRow s left may) rows → left w ≡ true →
    in_odd_neighbourhood s (gathered t rows) w ≡ combined t rows w
odd-gathered s left may t [] w each there = masked-none (s.adjacent w) s.ids (gathered t []) (λ x _. and-false (s.adjacent w x))
odd-gathered s left may t (r ∷ rs) w each there =
    masked-of-xor (s.adjacent w) s.ids (λ x. t r.pivot && is_in r.members.ids x) (gathered t rs)
    ∙ ap₂ xor
    (masked-of-and (t r.pivot) (s.adjacent w) s.ids (is_in r.members.ids)
    ∙ ap (λ b. t r.pivot && b) (sym (each.0.columns w ∙ ap (λ b. b && in_odd_neighbourhood s (is_in r.members.ids) w) there)))
    (odd-gathered s left may t rs w each.1 there)

-- what is gathered may be used
pub gathered_may : (s : Seen) (left may t : ℕ → Bool) (rows : List Row) (w : ℕ) → AreAll (IsRow s left may) rows → may w ≡ false → gathered t rows w ≡ false
gathered_may s left may t [] w each none = refl
gathered_may s left may t (r ∷ rs) w each none =
    let out : member w r.members.ids ≡ false = false_from_ne_true (member w r.members.ids) (λ m. true≢false (sym (each.0.members w m) ∙ none)) in
    ap₂ (λ a b. xor (t r.pivot && a) b) out (gathered_may s left may t rs w each.1 none) ∙ ap (λ b. xor b false) (and-false (t r.pivot))
