-- The walk along the order, as far as it has come.
use Rattle.std.proofs.Common.{◌≡◌, refl, sym, ◌∙◌, ap, ap₂, subst, ℕ, suc, ◌<◌, Bool, true, false, not, ◌&&◌, ◌||◌, eqb, List, [], ◌∷◌, ◌++◌, length, take, drop, drop-cons, get_or, true≢false}
use Rattle.std.specs.List.{list_all}
use Rattle.std.proofs.Math.Seq.{take-suc}
use Rattle.std.proofs.lemmas.List.{take-append-drop}
use Rattle.std.proofs.lemmas.List.Folds.{list_all-append}
use Rattle.zx_model.specs.Bits.{xor, member}
use Rattle.zx_calculus.specs.Graph.{Distinct}
use Rattle.zx_calculus.proofs.Ids.{by_test, by_equal}
use Rattle.gflow_laws.specs.Seen.{Seen}
use Rattle.gflow_laws.specs.Flow.{Correction, order_of, is_later}
use Rattle.open_graph.proofs.Walks.{member-middle, member-toggled}
use Rattle.flow_check.specs.declared.verdict.Condition.{Condition}
use Rattle.flow_check.specs.Failures.{condition_holds, conditions, all_hold, IsFirstToFail, IsFirstFailure}
use Rattle.flow_check.proofs.FirstFailures.{none_fails}
use Rattle.flow_check.proofs.ConditionLemmas.{not_passed}

absent_before : (before after : List ℕ) (v : ℕ) → Distinct (before ++ v ∷ after) → member v before ≡ false
absent_before [] after v d = refl
absent_before (x ∷ before) after v d =
    by_equal v x
    (λ t e. absurd (true≢false (sym (member-middle before after v) ∙ ap (λ w. member w (before ++ v ∷ after)) e ∙ d.0)))
    (λ f n. ap₂ (λ a b. a || b) f (absent_before before after v d.1))

-- one more passes a test
pub one_more : (passes : ℕ → Bool) (before : List ℕ) (x : ℕ) → list_all passes before ≡ true → passes x ≡ true →
    list_all passes (before ++ x ∷ []) ≡ true
one_more passes before x all here = list_all-append passes before (x ∷ []) ∙ ap₂ (λ a b. a && (b && true)) all here

pub one_more_taken : (passes : ℕ → Bool) (xs : List ℕ) (i x : ℕ) → i < length xs → x ≡ get_or xs i x → list_all passes (take i xs) ≡ true →
    passes x ≡ true → list_all passes (take (suc i) xs) ≡ true
one_more_taken passes xs i x within is all here =
    ap (list_all passes) (take-suc xs i x within ∙ ap (λ y. take i xs ++ y ∷ []) (sym is)) ∙ one_more passes (take i xs) x all here

module _ (s : Seen) (table : List Correction) (items : List ℕ) (i v : ℕ) (lists : items ≡ order_of table) (differ : Distinct (order_of table))
    (within : i < length items) (is : v ≡ get_or items i v) where
  back : drop i items ≡ v ∷ drop (suc i) items
  back = drop-cons items i v within ∙ ap (λ x. x ∷ drop (suc i) items) (sym is)

  up_to : take (suc i) items ≡ take i items ++ v ∷ []
  up_to = take-suc items i v within ∙ ap (λ x. take i items ++ x ∷ []) (sym is)

  whole : order_of table ≡ take i items ++ v ∷ drop (suc i) items
  whole = sym lists ∙ sym (take-append-drop i items) ∙ ap (λ l. take i items ++ l) back

  pub listed : member v (order_of table) ≡ true
  listed = ap (member v) whole ∙ member-middle (take i items) (drop (suc i) items) v

  pub stands : (passed : List ℕ) → ((w : ℕ) → member w passed ≡ member w (take i items)) → (w : ℕ) →
      (eqb w v || is_later (order_of table) v w) ≡ not (member w passed)
  stands passed marks w =
      ap (λ l. eqb w v || is_later l v w) whole
      ∙ not_passed (take i items) (drop (suc i) items) v w (absent_before (take i items) (drop (suc i) items) v (subst Distinct whole differ))
      ∙ ap not (sym (marks w))

  pub marked : (passed new : List ℕ) → ((w : ℕ) → member w passed ≡ member w (take i items)) →
      ((w : ℕ) → member w new ≡ xor (member w passed) (eqb w v)) → (w : ℕ) → member w new ≡ member w (take (suc i) items)
  marked passed new marks step w =
      step w ∙ ap (λ b. xor b (eqb w v)) (marks w)
      ∙ sym (member-toggled (take i items) (drop i items) (drop (suc i) items) items v w (subst Distinct (sym lists) differ)
      (take-append-drop i items) back)
      ∙ ap (member w) (sym up_to)

  pub first_there : list_all (all_hold s table) (take i items) ≡ true → (c : Condition) → IsFirstToFail (condition_holds s table v) conditions c →
      IsFirstFailure s table v c
  first_there all c first = record {
    vertex = record { before = take i items; after = drop (suc i) items; place = whole; all_pass = all; fails = one_fails };
    condition = first;
  }
    where
      one_fails : all_hold s table v ≡ false
      one_fails = by_test (all_hold s table v) (λ t. absurd (none_fails (condition_holds s table v) conditions c first t)) (λ f. f)
