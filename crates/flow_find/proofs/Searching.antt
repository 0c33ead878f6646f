-- A search as it goes on: the vertices taken so far have their sets, and all stuck vertices are left.
use Rattle.std.proofs.Common.{◌≡◌, refl, sym, ◌∙◌, ap, ap₂, subst, ℕ, Bool, true, false, cond, not, ◌&&◌, ◌||◌, eqb, ltb, List, [], ◌∷◌, ◌<◌, ◌≤◌, length, filter, arith}
use Rattle.std.proofs.lemmas.Bool.{true≢false}
use Rattle.zx_model.specs.Bits.{member}
use Rattle.zx_calculus.specs.Graph.{Graph, WellFormed, Distinct, in_order}
use Rattle.zx_calculus.proofs.Booleans.{and-false, or-true}
use Rattle.zx_calculus.proofs.Ids.{by_test, by_equal, eqb-self, and-left, and-right, not-true, member-filter}
use Rattle.gflow_laws.specs.Seen.{seen}
use Rattle.gflow_laws.specs.Flow.{Correction, order_of, set_of, is_in, is_later, IsFlow, Corrects}
use Rattle.gflow_laws.specs.Tables.{with_sets}
use Rattle.gflow_laws.specs.Correcting.{Simple}
use Rattle.gflow_laws.proofs.Flows.{IsFlowOf-from}
use Rattle.gflow_laws.proofs.Tables.{order_of-with_sets, set_of-with_sets, Corrects-same, Corrects-later}
use Rattle.gflow_laws.proofs.Views.{Simple-seen}
use Rattle.flow_find.specs.declared.row.Row.{Row}
use Rattle.flow_find.specs.Frontiers.{IsLeft, IsCorrectable, IsFrontierOf}
use Rattle.flow_find.specs.Stuck.{after_those, HasSet, IsStuck, IsLargestStuck}
use Rattle.flow_find.specs.Internal.Next.{HasSetsOf}
use Rattle.flow_find.specs.Internal.Rows.{IsPassable}
use Rattle.flow_find.specs.Internal.Searching.{goes_after, IsSearch}
use Rattle.flow_find.specs.Internal.Solving.{IsNext, AreMissed}
use Rattle.flow_find.specs.declared.search.Correctable.{Correctable}
use Rattle.flow_find.proofs.Orders.{still_left}
use Rattle.flow_find.proofs.Solving.{missed, solved, is_left, correctable_with, set_of_rows}

or_none : (b : Bool) → (b || false) ≡ b
or_none true = refl
or_none false = refl

Distinct-filter : (t : ℕ → Bool) (vs : List ℕ) → Distinct vs → Distinct (filter t vs)
Distinct-filter t [] d = d
Distinct-filter t (v ∷ vs) d =
    by_test (t v) (λ y. rw y (member-filter t vs v ∙ ap (λ b. b && t v) d.0, Distinct-filter t vs d.1))
    (λ n. rw n (Distinct-filter t vs d.1))

-- the vertices without outputs, each once
pub measured_once : (g : Graph) → WellFormed g → Distinct (filter (λ v. not ((seen g).output v)) (seen g).ids)
measured_once g formed = Distinct-filter (λ v. not ((seen g).output v)) (seen g).ids (Simple-seen g formed).distinct

pub begun : (g : Graph) (all : List ℕ) (left : ℕ → Bool) (table : List Correction) →
    ((w : ℕ) → member w all ≡ (member w (seen g).ids && not ((seen g).output w))) → ((w : ℕ) → left w ≡ member w all) → order_of table ≡ all →
    IsSearch g [] left table
begun g all left table measured marks along = record {
  each_once = tt;
  parts = λ w. or_none (left w) ∙ marks w ∙ measured w;
  apart = λ w there. absurd (true≢false (sym there));
  listed = λ w. ap (member w) along ∙ measured w;
  corrected = λ u there. absurd (true≢false (sym there));
  kept = λ other stuck v there. marks v ∙ measured v ∙ stuck.non_outputs v there;
}

module _ (g : Graph) (order : List ℕ) (left : ℕ → Bool) (table : List Correction) (search : IsSearch g order left table) where
  pub measured_left : (w : ℕ) → left w ≡ true → (member w (seen g).ids && not ((seen g).output w)) ≡ true
  measured_left w l = sym (search.parts w) ∙ ap (λ b. b || member w order) l

  pub lives : (w : ℕ) → left w ≡ true → member w (seen g).ids ≡ true
  lives w l = and-left _ _ (measured_left w l)

  pub listed_left : (v : ℕ) → left v ≡ true → member v (order_of table) ≡ true
  listed_left v there = search.listed v ∙ measured_left v there

  -- one more is taken
  module _ (v : ℕ) (members : List ℕ) (there : left v ≡ true) (has : HasSet (seen g) left v) (own : (w : ℕ) → has.set w ≡ member w members)
      (now : ℕ → Bool) (cleared : (w : ℕ) → now w ≡ (not (eqb w v) && left w)) where
    apart_from : (w : ℕ) → left w ≡ false → eqb w v ≡ false
    apart_from w out = by_equal w v (λ t e. absurd (true≢false (sym there ∙ ap left (sym e) ∙ out))) (λ f n. f)

    gone : (w : ℕ) → left w ≡ false → now w ≡ false
    gone w out = cleared w ∙ ap (λ b. not (eqb w v) && b) out ∙ and-false (not (eqb w v))

    -- what came after comes after now, and after the new one too
    after_new : (w : ℕ) → after_those left v w ≡ true → goes_after now (v ∷ order) v w ≡ true
    after_new w e =
        let out : left w ≡ false = not-true (left w) e in
        ap₂ (λ a b. not a && (not b && (eqb v v || is_later order v w))) (gone w out) (apart_from w out) ∙ ap (λ b. b || is_later order v w) (eqb-self v)

    after_old : (u w : ℕ) → goes_after left order u w ≡ true → goes_after now (v ∷ order) u w ≡ true
    after_old u w e =
        let out : left w ≡ false = not-true (left w) (and-left _ _ e) in
        ap₂ (λ a b. not a && (not b && (eqb u v || is_later order u w))) (gone w out) (apart_from w out)
        ∙ ap (λ b. eqb u v || b) (and-right (not (left w)) _ e) ∙ or-true (eqb u v)

    abbrev changed : List Correction
    changed = with_sets (λ y set. cond (eqb y v) members set) table

    own_set : (w : ℕ) → has.set w ≡ is_in (set_of changed v) w
    own_set w = own w ∙ sym (ap (λ l. is_in l w) (set_of-with_sets (λ y set. cond (eqb y v) members set) table v (listed_left v there) ∙ ap (λ b. cond b members (set_of table v)) (eqb-self v)))

    old_set : (u w : ℕ) → eqb u v ≡ false → member u (order_of table) ≡ true → is_in (set_of table u) w ≡ is_in (set_of changed u) w
    old_set u w f listed = sym (ap (λ l. is_in l w) (set_of-with_sets (λ y set. cond (eqb y v) members set) table u listed ∙ ap (λ b. cond b members (set_of table u)) f))

    -- a stuck set of which all vertices are left doesn't have it
    not_there : (other : List ℕ) → IsStuck g other → (w : ℕ) → after_those left v w ≡ true → after_those (λ x. member x other) v w ≡ true
    not_there other stuck w e = by_test (member w other)
        (λ m. absurd (true≢false (sym (search.kept other stuck w m) ∙ not-true (left w) e)))
        (λ f. ap not f)

    pub taken : IsSearch g (v ∷ order) now changed
    taken = record {
      each_once = (by_test (member v order) (λ m. absurd (true≢false (sym there ∙ search.apart v m))) (λ f. f), search.each_once);
      parts = λ w. by_equal w v
          (λ t e. ap (λ b. now w || (b || member w order)) t ∙ or-true (now w) ∙ sym (measured_left w (ap left e ∙ there)))
          (λ f n. ap₂ (λ a b. a || (b || member w order)) (cleared w ∙ ap (λ b. not b && left w) f) f ∙ search.parts w);
      apart = λ w m. by_equal w v
          (λ t e. cleared w ∙ ap (λ b. not b && left w) t)
          (λ f n. gone w (search.apart w (sym (ap (λ b. b || member w order) f) ∙ m)));
      listed = λ w. ap (member w) (order_of-with_sets (λ y set. cond (eqb y v) members set) table) ∙ search.listed w;
      corrected = λ u m. by_equal u v
          (λ t e. subst (λ x. Corrects (seen g) (goes_after now (v ∷ order)) x (is_in (set_of changed x))) (sym e)
          (Corrects-same (seen g) (goes_after now (v ∷ order)) v has.set (is_in (set_of changed v)) own_set
          (Corrects-later (seen g) (after_those left) (goes_after now (v ∷ order)) v has.set after_new has.corrects)))
          (λ f n. let before : member u order ≡ true = sym (ap (λ b. b || member u order) f) ∙ m in
          let listed : member u (order_of table) ≡ true = search.listed u ∙ sym (search.parts u) ∙ ap (λ b. left u || b) before ∙ or-true (left u) in
          Corrects-same (seen g) (goes_after now (v ∷ order)) u (is_in (set_of table u)) (is_in (set_of changed u)) (λ w. old_set u w f listed)
          (Corrects-later (seen g) (goes_after left order) (goes_after now (v ∷ order)) u (is_in (set_of table u)) (after_old u) (search.corrected u before)));
      kept = λ other stuck u m. by_equal u v
          (λ t e. absurd (stuck.uncorrectable v (sym (ap (λ x. member x other) e) ∙ m) record {
            set = has.set;
            corrects = Corrects-later (seen g) (after_those left) (after_those (λ w. member w other)) v has.set (not_there other stuck) has.corrects;
          }))
          (λ f n. cleared u ∙ ap (λ b. not b && left u) f ∙ search.kept other stuck u m);
    }

-- the rows of those that are left
module _ (g : Graph) (formed : WellFormed g) (order : List ℕ) (left : ℕ → Bool) (rows : List Row) (table : List Correction)
    (search : IsSearch g order left table) (frontier : IsFrontierOf (seen g) left rows) where
  simple : Simple (seen g)
  simple = Simple-seen g formed

  is_among : (v : ℕ) → left v ≡ true → IsLeft (seen g) left v
  is_among v there = is_left g left v formed (lives g order left table search) there

  -- where no vertex that is left is correctable
  pub all_stuck : (stuck : List ℕ) → ((w : ℕ) → left w ≡ member w stuck) → AreMissed (seen g) left rows → in_order ltb stuck ≡ true → IsLargestStuck g stuck
  all_stuck stuck marks none rising = record {
    stuck = record {
      non_outputs = λ v there. measured_left g order left table search v (marks v ∙ there);
      uncorrectable = λ v there has.
          let here : left v ≡ true = marks v ∙ there in
          missed (seen g) left rows v simple frontier (none v here)
          (correctable_with (seen g) left v simple (is_among v here) (subst (λ l. HasSet (seen g) l v) (λ i w. sym (marks w) i) has));
    };
    holds = λ other is_one v there. sym (marks v) ∙ search.kept other is_one v there;
    rising = rising;
  }

  -- the vertex that comes next
  module _ (found : Correctable) (next : IsNext (seen g) left rows found) (now : ℕ → Bool) (cleared : (w : ℕ) → now w ≡ (not (eqb w found.vertex) && left w)) where
    can : IsCorrectable (seen g) left found.vertex
    can = solved (seen g) left rows found.vertex found.members.ids frontier next.solution

    pub next_passable : IsPassable (seen g) now found.vertex rows
    next_passable = still_left (seen g) left now found.vertex rows next.there cleared frontier can

    pub next_taken : IsSearch g (found.vertex ∷ order) now (with_sets (λ y set. cond (eqb y found.vertex) found.members.ids set) table)
    next_taken = taken g order left table search found.vertex found.members.ids next.there
        (set_of_rows (seen g) left found.vertex rows simple (is_among found.vertex next.there) frontier can)
        (λ w. sym (next.solution.members w)) now cleared

-- all are taken
pub all_taken : (g : Graph) (order : List ℕ) (left : ℕ → Bool) (table new : List Correction) → IsSearch g order left table → ((w : ℕ) → left w ≡ false) →
    order_of new ≡ order → HasSetsOf table order new → IsFlow g new
all_taken g order left table new search none along sets = IsFlowOf-from (seen g) new record {
  each_once = subst Distinct (sym along) search.each_once;
  non_outputs = λ v. ap (member v) along ∙ in_order v;
  corrects = λ v there.
      let listed : member v order ≡ true = sym (ap (member v) along) ∙ there in
      subst (λ l. Corrects (seen g) (is_later l) v (is_in (set_of new v))) (sym along)
      (Corrects-same (seen g) (is_later order) v (is_in (set_of table v)) (is_in (set_of new v)) (λ w. sym (sets v w listed))
      (Corrects-later (seen g) (goes_after left order) (is_later order) v (is_in (set_of table v)) (λ w e. and-right (not (left w)) _ e) (search.corrected v listed)));
}
  where
    in_order : (v : ℕ) → member v order ≡ (member v (seen g).ids && not ((seen g).output v))
    in_order v = sym (ap (λ b. b || member v order) (none v)) ∙ search.parts v

-- those listed are the vertices without outputs
pub in_table : (g : Graph) (order : List ℕ) (left : ℕ → Bool) (table : List Correction) → IsSearch g order left table →
    (v : ℕ) → member v order ≡ true → member v (order_of table) ≡ true
in_table g order left table search v there = search.listed v ∙ sym (search.parts v) ∙ ap (λ b. left v || b) there ∙ or-true (left v)

-- a vertex less is left
module _ (v : ℕ) (left now : ℕ → Bool) (there : left v ≡ true) (cleared : (w : ℕ) → now w ≡ (not (eqb w v) && left w)) where
  still_less : (x : ℕ) → now x ≡ true → left x ≡ true
  still_less x n = and-right (not (eqb x v)) _ (sym (cleared x) ∙ n)

  no_more : (vs : List ℕ) → length (filter now vs) ≤ length (filter left vs)
  no_more [] = omega arith
  no_more (x ∷ xs) = let rest : length (filter now xs) ≤ length (filter left xs) = no_more xs in by_test (now x)
      (λ n. let l : left x ≡ true = still_less x n in rw (n, l) (omega arith))
      (λ n. by_test (left x) (λ l. rw (n, l) (omega arith)) (λ l. rw (n, l) rest))

  pub one_less_left : (vs : List ℕ) → member v vs ≡ true → length (filter now vs) < length (filter left vs)
  one_less_left [] m = absurd (true≢false (sym m))
  one_less_left (x ∷ xs) m = by_equal v x
      (λ t e. let n : now x ≡ false = cleared x ∙ ap (λ b. not b && left x) (ap (λ y. eqb x y) e ∙ eqb-self x) in
      let l : left x ≡ true = ap left (sym e) ∙ there in
      let rest : length (filter now xs) ≤ length (filter left xs) = no_more xs in
      rw (n, l) (omega arith))
      (λ f e. let rest : length (filter now xs) < length (filter left xs) = one_less_left xs (sym (ap (λ b. b || member v xs) f) ∙ m) in
      by_test (now x)
      (λ n. let l : left x ≡ true = still_less x n in rw (n, l) (omega arith))
      (λ n. by_test (left x) (λ l. rw (n, l) (omega arith)) (λ l. rw (n, l) rest)))
