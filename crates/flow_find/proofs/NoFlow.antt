-- Where no set of vertices but the empty one is stuck, a graph can't be without a flow.
use Rattle.std.proofs.Common.{◌≡◌, refl, sym, ◌∙◌, ap, ap₂, subst, ℕ, zero, suc, ◌<◌, ◌≤◌, Bool, true, false, cond, not, ◌&&◌, ◌||◌, eqb, List, [], ◌∷◌, length, filter, arith}
use Rattle.std.proofs.lemmas.Bool.{true≢false}
use Rattle.zx_model.specs.Bits.{member}
use Rattle.zx_calculus.specs.Graph.{Graph}
use Rattle.zx_calculus.proofs.Booleans.{and-false}
use Rattle.zx_calculus.proofs.Ids.{by_test, by_equal, member-filter}
use Rattle.gflow_laws.specs.Seen.{Seen, seen}
use Rattle.gflow_laws.specs.Flow.{Correction, order_of, set_of, is_in, IsFlow}
use Rattle.gflow_laws.specs.Tables.{with_sets}
use Rattle.flow_find.specs.Stuck.{HasSet, HasFlow, IsStuck, IsLargestStuck}
use Rattle.flow_find.specs.Internal.Next.{HasSetsOf}
use Rattle.flow_find.specs.Internal.Searching.{IsSearch}
use Rattle.flow_find.proofs.Searching.{begun, measured_left, lives, taken, all_taken, one_less_left}
use Rattle.flow_find.proofs.Leaving.{none_listed}

-- a table in another order
abbrev sets_along : List Correction → List ℕ → List Correction
sets_along table [] = []
sets_along table (v ∷ vs) = record { vertex = v; members = set_of table v } ∷ sets_along table vs

order_of-along : (table : List Correction) (vs : List ℕ) → order_of (sets_along table vs) ≡ vs
order_of-along table [] = refl
order_of-along table (v ∷ vs) = ap (λ l. v ∷ l) (order_of-along table vs)

has_sets : (table : List Correction) (vs : List ℕ) → HasSetsOf table vs (sets_along table vs)
has_sets table [] v w there = absurd (true≢false (sym there))
has_sets table (x ∷ xs) v w there = by_equal v x
    (λ t e. ap (λ b. is_in (cond b (set_of table x) (set_of (sets_along table xs) v)) w) t ∙ ap (λ y. is_in (set_of table y) w) (sym e))
    (λ f n. ap (λ b. is_in (cond b (set_of table x) (set_of (sets_along table xs) v)) w) f
    ∙ has_sets table xs v w (sym (ap (λ b. b || member v xs) f) ∙ there))

-- a set of vertices as a list
listed_set : (s : Seen) (set : ℕ → Bool) → ((w : ℕ) → set w ≡ true → member w s.ids ≡ true) → (w : ℕ) → set w ≡ member w (filter set s.ids)
listed_set s set within w = by_test (set w)
    (λ t. t ∙ sym (member-filter set s.ids w ∙ ap₂ (λ a b. a && b) (within w t) t))
    (λ f. f ∙ sym (member-filter set s.ids w ∙ ap (λ b. member w s.ids && b) f ∙ and-false (member w s.ids)))

no_members : (left : ℕ → Bool) (vs : List ℕ) → ((w : ℕ) → left w ≡ member w vs) → vs ≡ [] → (w : ℕ) → left w ≡ false
no_members left vs marks none w = marks w ∙ ap (member w) none

-- it comes to its end where nothing more can be taken
ended : (g : Graph) (order : List ℕ) (left : ℕ → Bool) (table : List Correction) → IsSearch g order left table → ((other : List ℕ) → IsStuck g other → other ≡ []) →
    ((t : List Correction) → IsFlow g t → ⊥) → ((v : ℕ) → left v ≡ true → HasSet (seen g) left v → ⊥) → ⊥
ended g order left table search nothing no_flow no_more =
    no_flow (sets_along table order)
    (all_taken g order left table (sets_along table order) search
    (no_members left (filter left (seen g).ids) marks (nothing (filter left (seen g).ids) stuck)) (order_of-along table order) (has_sets table order))
  where
    marks : (w : ℕ) → left w ≡ member w (filter left (seen g).ids)
    marks = listed_set (seen g) left (lives g order left table search)

    stuck : IsStuck g (filter left (seen g).ids)
    stuck = record {
      non_outputs = λ v there. measured_left g order left table search v (marks v ∙ there);
      uncorrectable = λ v there has. no_more v (marks v ∙ there) (subst (λ l. HasSet (seen g) l v) (λ i w. sym (marks w) i) has);
    }

goes_on : (n : ℕ) (g : Graph) (order : List ℕ) (left : ℕ → Bool) (table : List Correction) → IsSearch g order left table → length (filter left (seen g).ids) ≤ n →
    ((other : List ℕ) → IsStuck g other → other ≡ []) → ((t : List Correction) → IsFlow g t → ⊥) → ⊥
goes_on zero g order left table search few nothing no_flow = ended g order left table search nothing no_flow
    (λ v there has. let now : ℕ → Bool = λ w. not (eqb w v) && left w in
    let less : length (filter now (seen g).ids) < length (filter left (seen g).ids) = one_less_left v left now there (λ w. refl) (seen g).ids (lives g order left table search v there) in
    absurd (omega (arith, less, few)))
goes_on (suc n) g order left table search few nothing no_flow = ended g order left table search nothing no_flow
    (λ v there has. let now : ℕ → Bool = λ w. not (eqb w v) && left w in
    let less : length (filter now (seen g).ids) < length (filter left (seen g).ids) = one_less_left v left now there (λ w. refl) (seen g).ids (lives g order left table search v there) in
    let members : List ℕ = filter has.set (seen g).ids in
    goes_on n g (v ∷ order) now (with_sets (λ y set. cond (eqb y v) members set) table)
    (taken g order left table search v members there has (listed_set (seen g) has.set has.corrects.members) now (λ w. refl))
    (omega (arith, less, few)) nothing no_flow)

abbrev blank : List ℕ → List Correction
blank [] = []
blank (v ∷ vs) = record { vertex = v; members = [] } ∷ blank vs

order_of-blank : (vs : List ℕ) → order_of (blank vs) ≡ vs
order_of-blank [] = refl
order_of-blank (v ∷ vs) = ap (λ l. v ∷ l) (order_of-blank vs)

pub no_flow_leaves_some : (g : Graph) (stuck : List ℕ) → IsLargestStuck g stuck → (HasFlow g → ⊥) → stuck ≡ [] → ⊥
no_flow_leaves_some g stuck largest no_flow none =
    goes_on (length (filter (λ w. member w all) (seen g).ids)) g [] (λ w. member w all) (blank all)
    (begun g all (λ w. member w all) (blank all) (λ w. member-filter (λ v. not ((seen g).output v)) (seen g).ids w) (λ w. refl) (order_of-blank all))
    (omega arith) nothing (λ t flow. no_flow record { table = t; flow = flow })
  where
    all : List ℕ
    all = filter (λ v. not ((seen g).output v)) (seen g).ids

    nothing : (other : List ℕ) → IsStuck g other → other ≡ []
    nothing other is_stuck = none_listed other (λ v. by_test (member v other)
        (λ m. absurd (true≢false (sym (largest.holds other is_stuck v m) ∙ ap (member v) none)))
        (λ f. f))
