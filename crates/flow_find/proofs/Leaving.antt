-- Where a graph has a flow, no set of vertices but the empty one is stuck.
use Rattle.std.proofs.Common.{◌≡◌, refl, sym, ◌∙◌, ap, subst, ℕ, true, false, not, ◌||◌, List, [], ◌∷◌, ◌++◌, append_assoc}
use Rattle.std.proofs.lemmas.Bool.{true≢false}
use Rattle.zx_model.specs.Bits.{member}
use Rattle.zx_calculus.specs.Graph.{Graph, Distinct}
use Rattle.zx_calculus.proofs.Ids.{by_test, by_equal, member-here, member-append, not-true}
use Rattle.gflow_laws.specs.Seen.{seen}
use Rattle.gflow_laws.specs.Flow.{Correction, order_of, set_of, is_in, is_later, IsFlow}
use Rattle.gflow_laws.specs.Correcting.{FlowAsFunctions}
use Rattle.gflow_laws.proofs.Flows.{Flows-from}
use Rattle.gflow_laws.proofs.Tables.{Corrects-later}
use Rattle.flow_find.specs.Stuck.{after_those, IsStuck}
use Rattle.flow_find.proofs.Orders.{later_than, Distinct-take}

pub none_listed : (vs : List ℕ) → ((v : ℕ) → member v vs ≡ false) → vs ≡ []
none_listed [] none = refl
none_listed (v ∷ vs) none = absurd (true≢false (sym (member-here v vs) ∙ none v))

module _ (g : Graph) (table : List Correction) (stuck : List ℕ) (f : FlowAsFunctions (seen g) table) (is_stuck : IsStuck g stuck) where
  in_order : (v : ℕ) → member v stuck ≡ true → member v (order_of table) ≡ true
  in_order v m = f.non_outputs v ∙ is_stuck.non_outputs v m

  -- a vertex isn't stuck where none that stands behind it is
  not_stuck : (xs : List ℕ) (v : ℕ) (ys : List ℕ) → order_of table ≡ xs ++ v ∷ ys → ((w : ℕ) → member w ys ≡ true → member w stuck ≡ false) → member v stuck ≡ false
  not_stuck xs v ys parts behind = by_test (member v stuck)
      (λ m. absurd (is_stuck.uncorrectable v m record {
        set = is_in (set_of table v);
        corrects = Corrects-later (seen g) (is_later (order_of table)) (after_those (λ w. member w stuck)) v (is_in (set_of table v)) later (f.corrects v (in_order v m));
      }))
      (λ none. none)
    where
      fresh : member v xs ≡ false
      fresh = Distinct-take xs v ys (subst Distinct parts f.each_once)

      not_before : (w : ℕ) → is_later (order_of table) v w ≡ true → member w (xs ++ v ∷ []) ≡ false
      not_before w l = not-true _ (sym (later_than xs v ys w fresh) ∙ ap (λ o. is_later o v w) (sym parts) ∙ l)

      split : (w : ℕ) → member w (order_of table) ≡ (member w (xs ++ v ∷ []) || member w ys)
      split w = ap (member w) (parts ∙ sym (append_assoc xs (v ∷ []) ys)) ∙ member-append w (xs ++ v ∷ []) ys

      later : (w : ℕ) → is_later (order_of table) v w ≡ true → not (member w stuck) ≡ true
      later w l = by_test (member w stuck)
          (λ m. let there : member w ys ≡ true = ap (λ b. b || member w ys) (sym (not_before w l)) ∙ sym (split w) ∙ in_order w m in
          ap not (behind w there))
          (λ none. ap not none)

  none_stuck : (xs ys : List ℕ) → order_of table ≡ xs ++ ys → (v : ℕ) → member v ys ≡ true → member v stuck ≡ false
  none_stuck xs [] parts v there = absurd (true≢false (sym there))
  none_stuck xs (y ∷ ys) parts v there =
      let rest : (w : ℕ) → member w ys ≡ true → member w stuck ≡ false = none_stuck (xs ++ y ∷ []) ys (parts ∙ sym (append_assoc xs (y ∷ []) ys)) in
      by_equal v y
      (λ t e. ap (λ x. member x stuck) e ∙ not_stuck xs y ys parts rest)
      (λ n e. rest v (ap (λ b. b || member v ys) (sym n) ∙ there))

  nothing_stuck : stuck ≡ []
  nothing_stuck = none_listed stuck (λ v. by_test (member v stuck)
      (λ m. none_stuck [] (order_of table) refl v (in_order v m))
      (λ none. none))

pub a_flow_leaves_none : (g : Graph) (table : List Correction) (stuck : List ℕ) → IsFlow g table → IsStuck g stuck → stuck ≡ []
a_flow_leaves_none g table stuck flow is_stuck = nothing_stuck g table stuck (Flows-from (seen g) table flow) is_stuck
