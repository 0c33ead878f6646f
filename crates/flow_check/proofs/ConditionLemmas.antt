-- The conditions at a vertex as the code tests them, by sets that have no vertex in common.
use Rattle.std.proofs.Common.{◌≡◌, refl, sym, ◌∙◌, ap, ap₂, subst, ℕ, Bool, true, false, not, ◌&&◌, ◌||◌, eqb, List, [], ◌∷◌, ◌++◌, true≢false}
use Rattle.std.specs.List.{list_all}
use Rattle.zx_model.specs.Bits.{member}
use Rattle.zx_calculus.specs.Graph.{Graph, Plane, XY, XZ, YZ, is_XY, is_XZ, is_YZ, ids, WellFormed}
use Rattle.zx_calculus.proofs.Ids.{by_equal, by_test, eqb-self, or-left, or-right, and-left}
use Rattle.zx_calculus.proofs.Kept.{all_by}
use Rattle.zx_calculus.proofs.Splitting.{all_at}
use Rattle.gflow_laws.specs.Seen.{Seen, seen, in_odd_neighbourhood}
use Rattle.gflow_laws.specs.Flow.{Correction, order_of, set_of, is_in, is_later, input_holds, order_holds, odd_holds, IsTableOf}
use Rattle.zx_flow.proofs.MemberLemmas.{parity-absent}
use Rattle.flow_check.specs.declared.verdict.Condition.{Condition}
use Rattle.flow_check.specs.declared.verdict.Condition.TheVariants as condition
use Rattle.flow_check.specs.Failures.{condition_holds, conditions, IsFirstToFail}
use Rattle.flow_check.specs.Internal.Conditions.{holds_in_plane, plane_test}

same_test : (p q : ℕ → Bool) (xs : List ℕ) → ((x : ℕ) → p x ≡ q x) → list_all p xs ≡ list_all q xs
same_test p q xs same = ap (λ t. list_all t xs) (λ i x. same x i)

same_truth : (a b : Bool) → (a ≡ true → b ≡ true) → (b ≡ true → a ≡ true) → a ≡ b
same_truth true b f g = sym (f refl)
same_truth false true f g = g refl
same_truth false false f g = refl

-- all of a part of a list pass
all_of_part : (q : ℕ → Bool) (xs ys : List ℕ) → ((w : ℕ) → member w xs ≡ true → member w ys ≡ true) →
    list_all q xs ≡ list_all (λ w. not (member w xs) || q w) ys
all_of_part q xs ys within =
    same_truth _ _
    (λ all. all_by (λ w. not (member w xs) || q w) ys (λ w there. by_test (member w xs) (λ t. ap (λ b. not b || q w) t ∙ all_at q xs w all t) (λ f. ap (λ b. not b || q w) f)))
    (λ all. all_by q xs (λ w there. sym (ap (λ b. not b || q w) there) ∙ all_at (λ u. not (member u xs) || q u) ys w all (within w there)))

-- a vertex comes after v, or is v, where it doesn't stand before v
pub not_passed : (before after : List ℕ) (v w : ℕ) → member v before ≡ false → (eqb w v || is_later (before ++ v ∷ after) v w) ≡ not (member w before)
not_passed [] after v w out =
    ap (λ b. eqb w v || (not (eqb w v) && (b || is_later after v w))) (eqb-self v) ∙ one_of (eqb w v)
  where
    one_of : (b : Bool) → (b || (not b && true)) ≡ true
    one_of true = refl
    one_of false = refl
not_passed (x ∷ before) after v w out =
    ap (λ b. eqb w v || (not (eqb w x) && (b || is_later (before ++ v ∷ after) v w))) (or-left _ _ out)
    ∙ by_equal w x
    (λ t e. rw t (ap (λ b. b || false) (other w e)))
    (λ f n. rw f (not_passed before after v w (or-right _ _ out)))
  where
    other : (u : ℕ) → u ≡ x → eqb u v ≡ false
    other u e = by_equal u v (λ t d. absurd (true≢false (sym (eqb-self x) ∙ ap (λ y. eqb y x) (sym e ∙ d) ∙ or-left _ _ out))) (λ f n. f)

-- a test of two sets tells whether a condition holds
module _ (s : Seen) (table : List Correction) (v : ℕ) (members : List ℕ) (is_set : members ≡ set_of table v) where
  pub input_told : {apart told : Bool} (inputs : List ℕ) → ((w : ℕ) → member w inputs ≡ s.input w) →
      apart ≡ list_all (λ w. not (member w inputs)) members → apart ≡ told → condition_holds s table v condition.Input ≡ told
  input_told inputs tells tested is =
      ap (input_holds s) (sym is_set) ∙ same_test (λ w. not (s.input w)) _ members (λ w. ap not (sym (tells w))) ∙ sym tested ∙ is

  module _ (passed : List ℕ) (stands : (w : ℕ) → (eqb w v || is_later (order_of table) v w) ≡ not (member w passed)) where
    pub order_told : {apart told : Bool} → apart ≡ list_all (λ w. not (member w passed)) members → apart ≡ told →
        condition_holds s table v condition.Order ≡ told
    order_told tested is =
        ap (order_holds (order_of table) v) (sym is_set)
        ∙ same_test (λ w. eqb w v || is_later (order_of table) v w) _ members stands ∙ sym tested ∙ is

    pub odd_told : {apart told : Bool} (neighbours : List ℕ) → ((w : ℕ) → member w neighbours ≡ in_odd_neighbourhood s (is_in members) w) →
        ((w : ℕ) → in_odd_neighbourhood s (is_in members) w ≡ true → member w s.ids ≡ true) →
        apart ≡ list_all (λ w. not (member w passed)) neighbours → apart ≡ told → condition_holds s table v condition.Odd ≡ told
    odd_told neighbours tells within tested is =
        ap (odd_holds s (order_of table) v) (sym is_set)
        ∙ same_test (λ w. not (in_odd_neighbourhood s (is_in members) w) || (eqb w v || is_later (order_of table) v w)) _ s.ids
        (λ w. ap₂ (λ a b. not a || b) (sym (tells w)) (stands w))
        ∙ sym (all_of_part (λ w. not (member w passed)) neighbours s.ids (λ w there. within w (sym (tells w) ∙ there)))
        ∙ sym tested ∙ is

-- what has neighbours in a set is a vertex
pub odd_there : (g : Graph) (set : ℕ → Bool) (w : ℕ) → WellFormed g → in_odd_neighbourhood (seen g) set w ≡ true → member w (ids g.vertices) ≡ true
odd_there g set w formed e =
    by_test (member w (ids g.vertices)) (λ t. t) (λ f. absurd (true≢false (sym e ∙ parity-absent g w set formed f)))

-- of the conditions of planes that of the vertex's own decides
pub plane_passes : (p : Plane) (inside is_odd : Bool) → plane_test p inside is_odd ≡ true → list_all (holds_in_plane p inside is_odd) conditions ≡ true
plane_passes XY inside is_odd e = ap (λ b. b && true) e
plane_passes XZ inside is_odd e = ap (λ b. b && true) e
plane_passes YZ inside is_odd e = ap (λ b. b && true) e

abbrev pub condition_of : Plane → Condition
condition_of XY = condition.XY
condition_of XZ = condition.XZ
condition_of YZ = condition.YZ

own_fails : (p : Plane) (inside is_odd : Bool) → plane_test p inside is_odd ≡ false →
    IsFirstToFail (holds_in_plane p inside is_odd) conditions (condition_of p)
own_fails XY inside is_odd e = record {
  before = condition.Input ∷ condition.Order ∷ condition.Odd ∷ [];
  after = condition.XZ ∷ condition.YZ ∷ [];
  place = refl;
  all_pass = refl;
  fails = e;
}
own_fails XZ inside is_odd e = record {
  before = condition.Input ∷ condition.Order ∷ condition.Odd ∷ condition.XY ∷ [];
  after = condition.YZ ∷ [];
  place = refl;
  all_pass = refl;
  fails = e;
}
own_fails YZ inside is_odd e = record {
  before = condition.Input ∷ condition.Order ∷ condition.Odd ∷ condition.XY ∷ condition.XZ ∷ [];
  after = [];
  place = refl;
  all_pass = refl;
  fails = e;
}

pub plane_fails : (p q : Plane) (inside is_odd : Bool) → p ≡ q → plane_test p inside is_odd ≡ false →
    IsFirstToFail (holds_in_plane p inside is_odd) conditions (condition_of q)
plane_fails p q inside is_odd same e =
    subst (λ (r : Plane). IsFirstToFail (holds_in_plane p inside is_odd) conditions (condition_of r)) same (own_fails p inside is_odd e)

-- the first three conditions
module _ (s : Seen) (table : List Correction) (v : ℕ) where
  pub input_fails : condition_holds s table v condition.Input ≡ false → IsFirstToFail (condition_holds s table v) conditions condition.Input
  input_fails fails = record {
    before = [];
    after = condition.Order ∷ condition.Odd ∷ condition.XY ∷ condition.XZ ∷ condition.YZ ∷ [];
    place = refl;
    all_pass = refl;
    fails = fails;
  }

  pub order_fails : condition_holds s table v condition.Input ≡ true → condition_holds s table v condition.Order ≡ false →
      IsFirstToFail (condition_holds s table v) conditions condition.Order
  order_fails input fails = record {
    before = condition.Input ∷ [];
    after = condition.Odd ∷ condition.XY ∷ condition.XZ ∷ condition.YZ ∷ [];
    place = refl;
    all_pass = ap (λ b. b && true) input;
    fails = fails;
  }

  pub odd_fails : condition_holds s table v condition.Input ≡ true → condition_holds s table v condition.Order ≡ true → condition_holds s table v condition.Odd ≡ false →
      IsFirstToFail (condition_holds s table v) conditions condition.Odd
  odd_fails input order fails = record {
    before = condition.Input ∷ condition.Order ∷ [];
    after = condition.XY ∷ condition.XZ ∷ condition.YZ ∷ [];
    place = refl;
    all_pass = ap₂ (λ a b. a && (b && true)) input order;
    fails = fails;
  }

-- where these hold, those of the planes decide
pub planes_tested : (s : Seen) (table : List Correction) (v : ℕ) (plane : Plane) (members : List ℕ) (inside is_odd : Bool) →
    members ≡ set_of table v → plane ≡ s.plane v → inside ≡ is_in members v → is_odd ≡ in_odd_neighbourhood s (is_in members) v →
    condition_holds s table v condition.Input ≡ true → condition_holds s table v condition.Order ≡ true → condition_holds s table v condition.Odd ≡ true →
    holds_in_plane plane inside is_odd ≡ condition_holds s table v
planes_tested s table v plane members inside is_odd is_set at within parity input order odd_there = λ i c. each c i
  where
    inside_set : inside ≡ is_in (set_of table v) v
    inside_set = within ∙ ap (λ l. is_in l v) is_set

    odd_in_set : is_odd ≡ in_odd_neighbourhood s (is_in (set_of table v)) v
    odd_in_set = parity ∙ ap (λ l. in_odd_neighbourhood s (is_in l) v) is_set

    each : (c : Condition) → holds_in_plane plane inside is_odd c ≡ condition_holds s table v c
    each condition.Input = sym input
    each condition.Order = sym order
    each condition.Odd = sym odd_there
    each condition.XY = ap (λ p. not (is_XY p) || (not inside && is_odd)) at ∙ ap₂ (λ a b. not (is_XY (s.plane v)) || (not a && b)) inside_set odd_in_set
    each condition.XZ = ap (λ p. not (is_XZ p) || (inside && is_odd)) at ∙ ap₂ (λ a b. not (is_XZ (s.plane v)) || (a && b)) inside_set odd_in_set
    each condition.YZ = ap (λ p. not (is_YZ p) || (inside && not is_odd)) at ∙ ap₂ (λ a b. not (is_YZ (s.plane v)) || (a && not b)) inside_set odd_in_set

-- what the table says of a vertex of the order
pub is_live : (s : Seen) (table : List Correction) (v : ℕ) → IsTableOf s table → member v (order_of table) ≡ true → member v s.ids ≡ true
is_live s table v t there =
    and-left (member v s.ids) (not (s.output v)) (all_at (λ u. member u s.ids && not (s.output u)) (order_of table) v t.no_others there)

pub members_live : (s : Seen) (table : List Correction) (v : ℕ) (members : List ℕ) → members ≡ set_of table v → IsTableOf s table →
    member v (order_of table) ≡ true → (w : ℕ) → member w members ≡ true → member w s.ids ≡ true
members_live s table v members is_set t there w h =
    all_at (λ u. member u s.ids) (set_of table v) w
    (all_at (λ u. list_all (λ x. member x s.ids) (set_of table u)) (order_of table) v t.vertices there)
    (ap (member w) (sym is_set) ∙ h)
