-- The first that fails: there is one at most, and none where all pass. So there is one verdict.
use Rattle.std.proofs.Common.{◌≡◌, refl, sym, ◌∙◌, ap, ap₂, subst, ℕ, Bool, true, false, cond, not, ◌&&◌, ◌||◌, List, [], ◌∷◌, ◌++◌, Option, Some, None, true≢false}
use Rattle.std.specs.Prelude.{◌↔◌}
use Rattle.std.specs.List.{list_all}
use Rattle.zx_model.specs.Bits.{member}
use Rattle.zx_calculus.specs.Graph.{Plane, XY, XZ, YZ, is_XY, is_XZ, is_YZ}
use Rattle.zx_calculus.proofs.Booleans.{and-true}
use Rattle.zx_calculus.proofs.Ids.{and-left, and-right}
use Rattle.zx_calculus.proofs.Kept.{all_by}
use Rattle.zx_calculus.proofs.Splitting.{all_at}
use Rattle.gflow_laws.specs.Seen.{Seen}
use Rattle.gflow_laws.specs.Flow.{Correction, order_of, set_of, input_holds, order_holds, odd_holds, plane_holds, IsTableOf, IsFlowOf}
use Rattle.gflow_laws.specs.Flow.{XY_holds, XZ_holds, YZ_holds}
use Rattle.flow_check.specs.declared.verdict.Condition.{Condition}
use Rattle.flow_check.specs.declared.verdict.Verdict.{Verdict}
use Rattle.flow_check.specs.declared.verdict.Verdict.TheVariants.{Flow, Fails}
use Rattle.flow_check.specs.Failures.{condition_holds, conditions, all_hold, IsFirstToFail, IsFirstFailure}

-- the first that doesn't pass
abbrev first_of : {A : Type 0} → (A → Bool) → List A → Option A
first_of passes [] = None
first_of passes (x ∷ xs) = cond (passes x) (first_of passes xs) (Some x)

first_at : {A : Type 0} (passes : A → Bool) (before after : List A) (x : A) → list_all passes before ≡ true → passes x ≡ false →
    first_of passes (before ++ x ∷ after) ≡ Some x
first_at passes [] after x all fails = ap (λ b. cond b (first_of passes after) (Some x)) fails
first_at passes (y ∷ before) after x all fails =
    ap (λ b. cond b (first_of passes (before ++ x ∷ after)) (Some y)) (and-left (passes y) (list_all passes before) all)
    ∙ first_at passes before after x (and-right (passes y) (list_all passes before) all) fails

first_is : {A : Type 0} (passes : A → Bool) (xs : List A) (x : A) → IsFirstToFail passes xs x → first_of passes xs ≡ Some x
first_is passes xs x f = ap (first_of passes) f.place ∙ first_at passes f.before f.after x f.all_pass f.fails

first_none : {A : Type 0} (passes : A → Bool) (xs : List A) → list_all passes xs ≡ true → first_of passes xs ≡ None
first_none passes [] all = refl
first_none passes (x ∷ xs) all =
    ap (λ b. cond b (first_of passes xs) (Some x)) (and-left (passes x) (list_all passes xs) all)
    ∙ first_none passes xs (and-right (passes x) (list_all passes xs) all)

some_same : {A : Type 0} (x y : A) (r : Option A) → r ≡ Some x → r ≡ Some y → x ≡ y
some_same x y r e f = cc

not_both : {A : Type 0} (x : A) (r : Option A) → r ≡ Some x → r ≡ None → ⊥
not_both x r e f = cc

pub first_alone : {A : Type 0} (passes : A → Bool) (xs : List A) (x y : A) → IsFirstToFail passes xs x → IsFirstToFail passes xs y → x ≡ y
first_alone passes xs x y f g = some_same x y (first_of passes xs) (first_is passes xs x f) (first_is passes xs y g)

pub none_fails : {A : Type 0} (passes : A → Bool) (xs : List A) (x : A) → IsFirstToFail passes xs x → list_all passes xs ≡ true → ⊥
none_fails passes xs x f all = not_both x (first_of passes xs) (first_is passes xs x f) (first_none passes xs all)

-- of the conditions of planes that of the vertex's own decides
three_planes : (s : Seen) (p : Plane) (v : ℕ) (members : List ℕ) →
    ((not (is_XY p) || XY_holds s v members) && ((not (is_XZ p) || XZ_holds s v members) && ((not (is_YZ p) || YZ_holds s v members) && true)))
    ≡ plane_holds s p v members
three_planes s XY v members = and-true (XY_holds s v members)
three_planes s XZ v members = and-true (XZ_holds s v members)
three_planes s YZ v members = and-true (YZ_holds s v members)

pub four_conditions : (s : Seen) (table : List Correction) (v : ℕ) → all_hold s table v ≡
    (input_holds s (set_of table v) && (order_holds (order_of table) v (set_of table v)
    && (odd_holds s (order_of table) v (set_of table v) && plane_holds s (s.plane v) v (set_of table v))))
four_conditions s table v =
    ap (λ b. input_holds s (set_of table v) && (order_holds (order_of table) v (set_of table v)
    && (odd_holds s (order_of table) v (set_of table v) && b))) (three_planes s (s.plane v) v (set_of table v))

all_four : (p a b c d : Bool) → p ≡ (a && (b && (c && d))) → a ≡ true → b ≡ true → c ≡ true → d ≡ true → p ≡ true
all_four p a b c d same f g h k =
    same ∙ ap (λ x. x && (b && (c && d))) f ∙ ap (λ x. x && (c && d)) g ∙ ap (λ x. x && d) h ∙ k

four_parts : (a b c d : Bool) → (a && (b && (c && d))) ≡ true → (a ≡ true) × (b ≡ true) × (c ≡ true) × (d ≡ true)
four_parts true true true d e = (refl, refl, refl, e)
four_parts true true false d e = absurd (true≢false (sym e))
four_parts true false c d e = absurd (true≢false (sym e))
four_parts false b c d e = absurd (true≢false (sym e))

module _ (s : Seen) (table : List Correction) where
  pub flow_passes : IsFlowOf s table → list_all (all_hold s table) (order_of table) ≡ true
  flow_passes f =
      all_by (all_hold s table) (order_of table)
      (λ v there. all_four (all_hold s table v) (input_holds s (set_of table v)) (order_holds (order_of table) v (set_of table v))
      (odd_holds s (order_of table) v (set_of table v)) (plane_holds s (s.plane v) v (set_of table v)) (four_conditions s table v)
      (all_at (λ u. input_holds s (set_of table u)) (order_of table) v f.input there)
      (all_at (λ u. order_holds (order_of table) u (set_of table u)) (order_of table) v f.order there)
      (all_at (λ u. odd_holds s (order_of table) u (set_of table u)) (order_of table) v f.odd there)
      (all_at (λ u. plane_holds s (s.plane u) u (set_of table u)) (order_of table) v f.plane there))

  pub flow_from : IsTableOf s table → list_all (all_hold s table) (order_of table) ≡ true → IsFlowOf s table
  flow_from is_table all = record {
    is_table = is_table;
    input = all_by (λ v. input_holds s (set_of table v)) (order_of table) (λ v there. (parts v there).0);
    order = all_by (λ v. order_holds (order_of table) v (set_of table v)) (order_of table) (λ v there. (parts v there).1);
    odd = all_by (λ v. odd_holds s (order_of table) v (set_of table v)) (order_of table) (λ v there. (parts v there).2);
    plane = all_by (λ v. plane_holds s (s.plane v) v (set_of table v)) (order_of table) (λ v there. (parts v there).3);
  }
    where
      parts : (v : ℕ) → member v (order_of table) ≡ true → (input_holds s (set_of table v) ≡ true)
          × (order_holds (order_of table) v (set_of table v) ≡ true) × (odd_holds s (order_of table) v (set_of table v) ≡ true)
          × (plane_holds s (s.plane v) v (set_of table v) ≡ true)
      parts v there = four_parts (input_holds s (set_of table v)) (order_holds (order_of table) v (set_of table v))
          (odd_holds s (order_of table) v (set_of table v)) (plane_holds s (s.plane v) v (set_of table v))
          (sym (four_conditions s table v) ∙ all_at (all_hold s table) (order_of table) v all there)

  pub no_flow : (v : ℕ) (condition : Condition) → IsFirstFailure s table v condition → IsFlowOf s table → ⊥
  no_flow v condition first flow = none_fails (all_hold s table) (order_of table) v first.vertex (flow_passes flow)

  pub alone : (v w : ℕ) (first other : Condition) → IsFirstFailure s table v first → IsFirstFailure s table w other → (v ≡ w) × (first ≡ other)
  alone v w first other f g =
      let same : v ≡ w = first_alone (all_hold s table) (order_of table) v w f.vertex g.vertex in
      let there : IsFirstToFail (condition_holds s table v) conditions other =
      subst (λ u. IsFirstToFail (condition_holds s table u) conditions other) (sym same) g.condition in
      (same, first_alone (condition_holds s table v) conditions first other f.condition there)

  -- what a verdict says
  pub is_flow : IsFlowOf s table → (verdict : Verdict) → verdict ≡ Flow → (verdict ≡ Flow) ↔ IsFlowOf s table
  is_flow flow verdict e = (λ _. flow, λ _. e)

  other_kind : (v : ℕ) (condition : Condition) → Flow ≡ Fails v condition → ⊥
  other_kind v condition e = cc

  same_failure : (v w : ℕ) (first other : Condition) → Fails v first ≡ Fails w other → (v ≡ w) × (first ≡ other)
  same_failure v w first other e = (cc, cc)

  pub flow_fails_nowhere : IsFlowOf s table → (v : ℕ) (condition : Condition) → (Flow ≡ Fails v condition) ↔ IsFirstFailure s table v condition
  flow_fails_nowhere flow v condition = (λ e. absurd (other_kind v condition e), λ f. absurd (no_flow v condition f flow))

  pub fails_no_flow : (v : ℕ) (condition : Condition) → IsFirstFailure s table v condition → (Fails v condition ≡ Flow) ↔ IsFlowOf s table
  fails_no_flow v condition first = (λ e. absurd (other_kind v condition (sym e)), λ flow. absurd (no_flow v condition first flow))

  pub fails_there : (v : ℕ) (condition : Condition) → IsFirstFailure s table v condition → (w : ℕ) (other : Condition) →
      (Fails v condition ≡ Fails w other) ↔ IsFirstFailure s table w other
  fails_there v condition first w other = (
    λ e. let (same, cause) = same_failure v w condition other e in
        subst (λ u. IsFirstFailure s table u other) same (subst (λ d. IsFirstFailure s table v d) cause first),
    λ f. let (same, cause) = alone v w condition other first f in ap₂ (λ u d. Fails u d) same cause,
  )
