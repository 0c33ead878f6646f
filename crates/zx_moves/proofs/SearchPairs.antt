-- Moves of two vertices: what is found beside a vertex, and where nothing is.
use Rattle.std.proofs.Common.{Option, Some, None, IfSome, IfNone, Bool, ltb, ◌≡◌, refl, sym, ◌∙◌, ap, ap₂, subst, ℕ, ◌+◌, ◌-◌, ◌*◌, ◌/◌, ◌%◌, ◌^◌, ◌<◌, min, arith, eqb-true, true, false, not, ◌&&◌, eqb, List, [], ◌∷◌, nat_eq, slice_get, true≢false, ne_eqb}
use Rattle.std.specs.List.{find}
use Rattle.std.specs.Int.{bit_at}
use Rattle.std.specs.Int.RustNames.{bit_and}
use Rattle.std.proofs.lemmas.Nat.Bits.{bit_at_and, bit_at_ones}
use Rattle.std.specs.Cmp.Lexicographic.{pointwise}
use Rattle.std.proofs.lemmas.Bool.{eqb-false}
use Rattle.zx_model.specs.Bits.{member}
use Rattle.std.specs.Prelude.{◌↔◌}
use Rattle.zx_calculus.proofs.Extensionality.{neighbours_ext}
use Rattle.zx_calculus.specs.Graph.{in_order, YZ, Graph, ids, plane_of, joined, neighbours, IsVertex, Interior, WellFormed, is_YZ, is_interior}
use Rattle.zx_calculus.specs.Complements.{may_complement}
use Rattle.zx_calculus.specs.Gadgets.{is_gadget}
use Rattle.zx_calculus.specs.Moves.{IsHalfSpider, IsInnerPivot, IsBoundaryPivot, IsGadgetPair, IsGadgetOf, AreTwins}
use Rattle.zx_calculus.proofs.Edges.{joined_comm}
use Rattle.zx_calculus.proofs.Ids.{and-left, and-right, by_test, not-true, member-here}
use Rattle.zx_calculus.proofs.Kept.{both}
use Rattle.zx_calculus.proofs.Splitting.{plane_YZ}
use Rattle.zx_calculus.proofs.Results.{interior_from, interior_true}
use Rattle.zx_calculus.proofs.TwinTests.{equal_lists, lists_equal}
use Rattle.zx_moves.specs.declared.moves.Kind.{Kind}
use Rattle.zx_moves.specs.declared.moves.Kind.TheVariants as kinds
use Rattle.zx_moves.specs.Internal.Searching.{is_twin, MayBegin, NoneAt, TellsTwins}
use Rattle.zx_moves.proofs.SearchTests.{live_near, joined_near, near_joined, find-some, find-none}

first-member : (xs : List ℕ) (v : ℕ) → slice_get xs 0 ≡ Some v → member v xs ≡ true
first-member [] v e = cc
first-member (x ∷ xs) v e = let same : x ≡ v = cc in subst (λ (y : ℕ). member v (y ∷ xs) ≡ true) (sym same) (member-here v xs)

first-none : (xs : List ℕ) → slice_get xs 0 ≡ None → xs ≡ []
first-none [] e = refl
first-none (x ∷ xs) e = cc

module _ (g : Graph) (w : WellFormed g) (u : ℕ) where
  pub near_live : (v : ℕ) → slice_get (neighbours g u) 0 ≡ Some v → IsVertex g v
  near_live v e = live_near g u v (first-member (neighbours g u) v e)

  -- a neighbour without ends passes the test
  inner_to : (v : ℕ) → joined g.edges u v ≡ true → Interior g v → may_complement g v ≡ true
  inner_to v near i = both (member v (ids g.vertices)) (is_interior g v) (live_near g u v (near_joined g w u v near)) (interior_true g v i)

  inner_from : (v : ℕ) → may_complement g v ≡ true → Interior g v
  inner_from v h = interior_from g v (and-right (member v (ids g.vertices)) (is_interior g v) h)

  gadget_to : (v : ℕ) → IsVertex g v → plane_of g v ≡ YZ → is_gadget g v ≡ true
  gadget_to v there plane = both (member v (ids g.vertices)) (is_YZ (plane_of g v)) there (ap is_YZ plane)

  pub gadget_live : (v : ℕ) → is_gadget g v ≡ true → IsVertex g v
  gadget_live v h = and-left (member v (ids g.vertices)) (is_YZ (plane_of g v)) h

  gadget_YZ : (v : ℕ) → is_gadget g v ≡ true → plane_of g v ≡ YZ
  gadget_YZ v h = plane_YZ (plane_of g v) (and-right (member v (ids g.vertices)) (is_YZ (plane_of g v)) h)

  -- ---- pivots
  pub inner_found : (v : ℕ) → IsHalfSpider g u → member v (neighbours g u) ≡ true → may_complement g v ≡ true → IsInnerPivot g u v
  inner_found v half near inner = record { spider = half; adjacent = joined_near g w u v near; interior = inner_from v inner }

  pub inner_none : ((v : ℕ) → member v (neighbours g u) ≡ true → may_complement g v ≡ false) → (v : ℕ) → ¬ IsInnerPivot g u v
  inner_none none v a = true≢false (sym (inner_to v a.adjacent a.interior) ∙ none v (near_joined g w u v a.adjacent))

  pub boundary_found : (v : ℕ) → IsHalfSpider g u → ((v : ℕ) → member v (neighbours g u) ≡ true → may_complement g v ≡ false)
      → slice_get (neighbours g u) 0 ≡ Some v → IsBoundaryPivot g u v
  boundary_found v half none first = record {
    spider = half;
    adjacent = joined_near g w u v (first-member (neighbours g u) v first);
    boundary = λ p e i. true≢false (sym (inner_to p e i) ∙ none p (near_joined g w u p e));
  }

  pub boundary_inner : (p : ℕ) → member p (neighbours g u) ≡ true → may_complement g p ≡ true → (v : ℕ) → ¬ IsBoundaryPivot g u v
  boundary_inner p near inner v a = a.boundary p (joined_near g w u p near) (inner_from p inner)

  pub boundary_alone : slice_get (neighbours g u) 0 ≡ None → (v : ℕ) → ¬ IsBoundaryPivot g u v
  boundary_alone none v a = true≢false (sym (near_joined g w u v a.adjacent) ∙ ap (member v) (first-none (neighbours g u) none))

  -- the first neighbour, where all have ends
  pub boundary_where : (r : Option ℕ) → ((v : ℕ) → member v (neighbours g u) ≡ true → may_complement g v ≡ false) → IsHalfSpider g u →
      r ≡ slice_get (neighbours g u) 0 → IfSome r (IsBoundaryPivot g u)
  boundary_where None none half e = tt
  boundary_where (Some v) none half e = boundary_found v half none (sym e)

  pub boundary_nowhere : (r : Option ℕ) → r ≡ slice_get (neighbours g u) 0 → IfNone r ((v : ℕ) → ¬ IsBoundaryPivot g u v)
  boundary_nowhere None e = boundary_alone (sym e)
  boundary_nowhere (Some v) e = tt

  -- ---- gadgets
  pub pair_found : (v : ℕ) → is_gadget g u ≡ true → find (is_gadget g) (neighbours g u) ≡ Some v → IsGadgetPair g u v
  pair_found v h e =
      let at = find-some (is_gadget g) (neighbours g u) v e in
      record {
        there = gadget_live u h;
        there_too = gadget_live v at.1;
        plane = gadget_YZ u h;
        plane_too = gadget_YZ v at.1;
        adjacent = joined_near g w u v at.0;
      }

  pub pair_none : find (is_gadget g) (neighbours g u) ≡ None → (v : ℕ) → ¬ IsGadgetPair g u v
  pair_none e v a = true≢false (sym (gadget_to v a.there_too a.plane_too) ∙ find-none (is_gadget g) (neighbours g u) e v (near_joined g w u v a.adjacent))

  pub twins_found : (near v : ℕ) → is_gadget g u ≡ true → find (is_twin g u) (neighbours g near) ≡ Some v → AreTwins g u v
  twins_found near v h e =
      let rest = (find-some (is_twin g u) (neighbours g near) v e).1 in
      let alike = and-right (not (eqb v u)) (is_gadget g v && pointwise nat_eq (neighbours g v) (neighbours g u)) rest in
      let gadget = and-left (is_gadget g v) (pointwise nat_eq (neighbours g v) (neighbours g u)) alike in
      record {
        there = gadget_live u h;
        there_too = gadget_live v gadget;
        different = λ same. eqb-false v u (not-true (eqb v u) (and-left (not (eqb v u)) (is_gadget g v && pointwise nat_eq (neighbours g v) (neighbours g u)) rest)) (sym same);
        plane = gadget_YZ u h;
        plane_too = gadget_YZ v gadget;
        equal_neighbours = sym (equal_lists (neighbours g v) (neighbours g u) (and-right (is_gadget g v) (pointwise nat_eq (neighbours g v) (neighbours g u)) alike));
      }

  twin_to : (v : ℕ) → AreTwins g u v → is_twin g u v ≡ true
  twin_to v a =
      both (not (eqb v u)) (is_gadget g v && pointwise nat_eq (neighbours g v) (neighbours g u)) (ap not (ne_eqb v u (λ e. a.different (sym e))))
      (both (is_gadget g v) (pointwise nat_eq (neighbours g v) (neighbours g u)) (gadget_to v a.there_too a.plane_too) (lists_equal (neighbours g v) (neighbours g u) (sym a.equal_neighbours)))

  -- a twin of u is a neighbour of each neighbour of u
  pub twins_none : (near : ℕ) → slice_get (neighbours g u) 0 ≡ Some near → find (is_twin g u) (neighbours g near) ≡ None → (v : ℕ) → ¬ IsGadgetOf g u 0 → ¬ AreTwins g u v
  twins_none near first e v lone a =
      let beside : member near (neighbours g v) ≡ true = subst (λ (xs : List ℕ). member near xs ≡ true) a.equal_neighbours (first-member (neighbours g u) near first) in
      let back : joined g.edges near v ≡ true = joined_comm g.edges near v ∙ joined_near g w v near beside in
      true≢false (sym (twin_to v a) ∙ find-none (is_twin g u) (neighbours g near) e v (near_joined g w near v back))

  -- what is found beside the first neighbour
  pub twins_where : (near : ℕ) (r : Option ℕ) → is_gadget g u ≡ true → r ≡ find (is_twin g u) (neighbours g near) → IfSome r (AreTwins g u)
  twins_where near None h e = tt
  twins_where near (Some v) h e = twins_found near v h (sym e)

  pub twins_nowhere : (near : ℕ) (r : Option ℕ) → slice_get (neighbours g u) 0 ≡ Some near → r ≡ find (is_twin g u) (neighbours g near) →
      IfNone r ((v : ℕ) → ¬ IsGadgetOf g u 0 → ¬ AreTwins g u v)
  twins_nowhere near None first e = twins_none near first (sym e)
  twins_nowhere near (Some v) first e = tt

  -- ---- where no move of a kind may begin
  pub begins_none : (k : Kind) → ¬ MayBegin g k u → NoneAt g k u
  begins_none kinds.Delete never = never
  begins_none kinds.QuarterGadget never = never
  begins_none kinds.FromXZ never = never
  begins_none kinds.QuarterSpider never = never
  begins_none kinds.InnerPivot never = λ v a. never a.spider
  begins_none kinds.BoundaryPivot never = λ v a. never a.spider
  begins_none kinds.GadgetPair never = λ v a. never (gadget_to u a.there a.plane)
  begins_none kinds.LoneGadget never = never
  begins_none kinds.SingleGadget never = never
  begins_none kinds.Twins never = λ v lone a. never (gadget_to u a.there a.plane)

  -- what isn't beside each neighbour has others
  pub not_beside : (near v : ℕ) → member near (neighbours g u) ≡ true → joined g.edges near v ≡ false → pointwise nat_eq (neighbours g v) (neighbours g u) ≡ false
  not_beside near v there apart =
      by_test (pointwise nat_eq (neighbours g v) (neighbours g u))
      (λ alike.
      let beside : member near (neighbours g v) ≡ true = subst (λ (xs : List ℕ). member near xs ≡ true) (sym (equal_lists (neighbours g v) (neighbours g u) alike)) there in
      absurd (true≢false (sym (joined_comm g.edges near v ∙ joined_near g w v near beside) ∙ apart)))
      (λ other. other)

  -- but a twin is beside each neighbour
  pub beside_twin : (near v : ℕ) → member near (neighbours g u) ≡ true → is_twin g u v ≡ true → joined g.edges near v ≡ true
  beside_twin near v there twin =
      by_test (joined g.edges near v) (λ t. t)
      (λ apart.
      let rest = and-right (not (eqb v u)) (is_gadget g v && pointwise nat_eq (neighbours g v) (neighbours g u)) twin in
      let alike = and-right (is_gadget g v) (pointwise nat_eq (neighbours g v) (neighbours g u)) rest in
      absurd (true≢false (sym alike ∙ not_beside near v there apart)))

  -- the vertices beside one neighbour more
  pub twins_beside : (near index word row : ℕ) → member near (neighbours g u) ≡ true → TellsTwins g u index word →
      ((k : ℕ) → k < 64 → eqb (bit_at row k) 1 ≡ joined g.edges near (64 * index + k)) → TellsTwins g u index (bit_and word row)
  twins_beside near index word row there tells is k lt twin =
      let old : bit_at word k ≡ 1 = tells k lt twin in
      let new : bit_at row k ≡ 1 = eqb-true (bit_at row k) 1 (is k lt ∙ beside_twin near (64 * index + k) there twin) in
      bit_at_and word row k ∙ ap₂ min old new

-- before any neighbour was looked at
pub twins_anywhere : (g : Graph) (u index : ℕ) → TellsTwins g u index (2 ^ 64 - 1)
twins_anywhere g u index k lt twin = bit_at_ones 64 k lt

-- what has its bit unset is no twin
pub untold : (g : Graph) (u v word : ℕ) → TellsTwins g u (v / 64) word → eqb (bit_at word (v % 64)) 1 ≡ false → is_twin g u v ≡ false
untold g u v word tells unset =
    by_test (is_twin g u v)
    (λ twin.
    let split : 64 * (v / 64) + v % 64 ≡ v = omega arith in
    let bit : bit_at word (v % 64) ≡ 1 = tells (v % 64) (omega arith) (ap (is_twin g u) split ∙ twin) in
    absurd (true≢false (sym (ap (λ d. eqb d 1) bit) ∙ unset)))
    (λ f. f)

-- ---- rows as sets
-- the test of equal sets is that of equal lists
pub rows_alike : (g : Graph) (u v : ℕ) (own its : List ℕ) (same : Bool) → WellFormed g → in_order ltb own ≡ true → in_order ltb its ≡ true
    → ((p : ℕ) → member p own ≡ joined g.edges u p) → ((p : ℕ) → member p its ≡ joined g.edges v p)
    → ((same ≡ true) ↔ (its ≡ own)) → same ≡ pointwise nat_eq (neighbours g v) (neighbours g u)
rows_alike g u v own its same w own_rises its_rises own_tells its_tells tells =
    alike same (pointwise nat_eq (neighbours g v) (neighbours g u))
    (λ e. lists_equal (neighbours g v) (neighbours g u) (sym is_its ∙ tells.0 e ∙ is_own))
    (λ e. tells.1 (is_its ∙ equal_lists (neighbours g v) (neighbours g u) e ∙ sym is_own))
  where
    is_own : own ≡ neighbours g u
    is_own = neighbours_ext g u own w own_rises own_tells

    is_its : its ≡ neighbours g v
    is_its = neighbours_ext g v its w its_rises its_tells

    alike : (a b : Bool) → (a ≡ true → b ≡ true) → (b ≡ true → a ≡ true) → a ≡ b
    alike true b f h = sym (f refl)
    alike false true f h = h refl
    alike false false f h = refl
