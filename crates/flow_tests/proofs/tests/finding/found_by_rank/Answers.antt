-- The ranks of 0 and 1 rise.
use Rattle.std.proofs.Common.{◌≡◌, sym, ◌∙◌, ap, ap₂, subst, ℕ, ◌<◌, ◌≤◌, true, false, ◌||◌, eqb, [], ◌∷◌, arith, true≢false}
use Rattle.zx_calculus.specs.Graph.{Graph}
use Rattle.zx_calculus.proofs.Ids.{by_equal}
use Rattle.move_laws.specs.Orders.{HasFlowAlong}
use Rattle.move_laws.specs.Ranks.{HasFlowBy, rank_in}
use Rattle.flow_tests.proofs.tests.finding.found_by_rank.Goals as goal

either : {P : Type 0} (v : ℕ) → (eqb v 0 || (eqb v 1 || false)) ≡ true → (v ≡ 0 → P) → (v ≡ 1 → P) → P
either v there first second = by_equal v 0 (λ t e. first e)
    (λ f n. by_equal v 1 (λ t e. second e) (λ h m. absurd (true≢false (sym there ∙ ap₂ (λ a b. a || (b || false)) f h))))

by_rank : (g : Graph) → HasFlowAlong g (0 ∷ 1 ∷ []) → HasFlowBy g (rank_in (7 ∷ 9 ∷ 8 ∷ 8 ∷ [])) 7 10
by_rank g flow = record {
  order = 0 ∷ 1 ∷ [];
  flow = flow;
  rises = (
    (λ w there. by_equal w 1 (λ t e. subst (λ x. 7 < rank_in (7 ∷ 9 ∷ 8 ∷ 8 ∷ []) x) (sym e) (omega arith)) (λ f n. absurd (true≢false (sym there ∙ ap (λ b. b || false) f)))),
    ((λ w there. absurd (true≢false (sym there))), tt),
  );
  from_low = λ v there. either v there
      (λ e. subst (λ x. 7 ≤ rank_in (7 ∷ 9 ∷ 8 ∷ 8 ∷ []) x) (sym e) (omega arith))
      (λ e. subst (λ x. 7 ≤ rank_in (7 ∷ 9 ∷ 8 ∷ 8 ∷ []) x) (sym e) (omega arith));
  below_high = λ v there. either v there
      (λ e. subst (λ x. rank_in (7 ∷ 9 ∷ 8 ∷ 8 ∷ []) x < 10) (sym e) (omega arith))
      (λ e. subst (λ x. rank_in (7 ∷ 9 ∷ 8 ∷ 8 ∷ []) x < 10) (sym e) (omega arith));
}

pub find_by_rank-requires : goal.find_by_rank-requires
find_by_rank-requires c = (7, 10, by_rank c.args.graph.now.graph c.requires)
