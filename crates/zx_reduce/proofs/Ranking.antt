-- Ranks of an order, one vertex more at a time, and of a flow while steps are done.
use Rattle.std.proofs.Common.{Result, Ok, Err, OnOk, ◌≡◌, refl, sym, ◌∙◌, ap, subst, ℕ, suc, ◌<◌, true, false, ◌||◌, eqb, List, [], ◌∷◌, ◌++◌, arith}
use Rattle.zx_model.specs.Bits.{member}
use Rattle.zx_calculus.specs.Graph.{Graph, WellFormed}
use Rattle.zx_calculus.specs.Splits.{new_vertex}
use Rattle.zx_calculus.specs.Steps.{Step, IsStep, LocalComplement, Delete, Pivot, SplitInput, SplitOutput, DropLone}
use Rattle.zx_calculus.specs.Steps.{FuseInto, FuseTwin}
use Rattle.zx_calculus.proofs.Booleans.{or-false}
use Rattle.zx_calculus.proofs.Ids.{by_equal, member-append}
use Rattle.gflow_laws.specs.Flow.{Correction, order_of, IsFlow}
use Rattle.move_laws.specs.Orders.{is_split}
use Rattle.move_laws.specs.Ranks.{RisesBy, HasFlowBy, rank_in, ranked}
use Rattle.move_laws.proofs.Ranks.{ranked-self, ranked_other, rises-ranked, rises-append, kept_by, first_by, last_by}
use Rattle.zx_reduce.specs.declared.ranks.Ranks.{Ranks}
use Rattle.zx_reduce.specs.Internal.Guiding.{AreRanked, HasFlowIn}
use Rattle.zx_reduce.specs.Internal.Ranked.{AreRanksAfter}

module _ (vs : List ℕ) (b : ℕ) (before after : Ranks) (out : member b vs ≡ false) (so_far : AreRanked vs before)
    (same : (w : ℕ) → rank_in after.ranks w ≡ ranked b before.high (rank_in before.ranks) w)
    (low : after.low ≡ before.low) (high : after.high ≡ suc before.high) where
  abbrev rank : ℕ → ℕ
  rank = rank_in before.ranks

  of_b : rank_in after.ranks b ≡ before.high
  of_b = same b ∙ ranked-self b before.high rank

  of_other : (w : ℕ) → member w vs ≡ true → rank_in after.ranks w ≡ rank w
  of_other w there = same w ∙ ranked_other b before.high rank vs w out there

  either : (w : ℕ) → eqb w b ≡ false → member w (vs ++ b ∷ []) ≡ true → member w vs ≡ true
  either w n there = sym (or-false (member w vs)) ∙ sym (ap (λ t. member w vs || (t || false)) n) ∙ sym (member-append w vs (b ∷ [])) ∙ there

  -- one vertex more has a rank above all others
  pub ranked_last : AreRanked (vs ++ b ∷ []) after
  ranked_last = record {
    bounds = rw (low, high) (omega (arith, so_far.bounds));
    rises = subst (λ r. RisesBy r (vs ++ b ∷ [])) (λ i w. sym (same w) i)
        (rises-append (ranked b before.high rank) vs b
        (λ w there. rw (ranked-self b before.high rank, ranked_other b before.high rank vs w out there) (so_far.below_high w there))
        (rises-ranked b before.high rank vs vs out (λ w there. there) so_far.rises));
    from_low = λ w there. by_equal w b
        (λ t e. rw (low, ap (rank_in after.ranks) e, of_b) so_far.bounds)
        (λ f n. rw (low, of_other w (either w f there)) (so_far.from_low w (either w f there)));
    below_high = λ w there. by_equal w b
        (λ t e. rw (high, ap (rank_in after.ranks) e, of_b) (omega arith))
        (λ f n. let bound = so_far.below_high w (either w f there) in rw (high, of_other w (either w f there)) (omega (arith, bound)));
  }

-- the order of a flow, ranked
pub flow_ranked : (g : Graph) (table : List Correction) (order : Ranks) → IsFlow g table → AreRanked (order_of table) order → HasFlowIn g order
flow_ranked g table order flow are = record {
  bounds = are.bounds;
  flow = record {
    order = order_of table;
    flow = record { table = table; flow = flow; along = refl };
    rises = are.rises;
    from_low = are.from_low;
    below_high = are.below_high;
  };
}

module _ (g h : Graph) (before after : Ranks) (formed : WellFormed g) (has : HasFlowIn g before) where
  pub flow_kept : (s : Step) → is_split s ≡ false → IsStep g s h → HasFlowIn h before
  flow_kept s none step = record {
    bounds = has.bounds;
    flow = kept_by g s h (rank_in before.ranks) before.low before.high formed none step has.flow;
  }

  pub flow_first : (b : ℕ) → IsStep g (SplitInput b) h → ((w : ℕ) → rank_in after.ranks w ≡ ranked (new_vertex g) after.low (rank_in before.ranks) w) →
      before.low ≡ suc after.low → after.high ≡ before.high → HasFlowIn h after
  flow_first b step same low high =
      let below : after.low < before.high = let bounds = has.bounds in omega (arith, bounds, low) in
      record {
        bounds = omega (arith, below, high);
        flow = subst (λ r. HasFlowBy h r after.low after.high) (λ i w. sym (same w) i)
            (subst (HasFlowBy h (ranked (new_vertex g) after.low (rank_in before.ranks)) after.low) (sym high)
            (first_by g b h (rank_in before.ranks) after.low before.high formed step
            (subst (λ n. HasFlowBy g (rank_in before.ranks) n before.high) low has.flow) below));
      }

  pub flow_last : (b : ℕ) → IsStep g (SplitOutput b) h → ((w : ℕ) → rank_in after.ranks w ≡ ranked b before.high (rank_in before.ranks) w) →
      after.low ≡ before.low → after.high ≡ suc before.high → HasFlowIn h after
  flow_last b step same low high =
      record {
        bounds = let bounds = has.bounds in omega (arith, bounds, low, high);
        flow = subst (λ r. HasFlowBy h r after.low after.high) (λ i w. sym (same w) i)
            (subst (λ n. HasFlowBy h (ranked b before.high (rank_in before.ranks)) n after.high) (sym low)
            (subst (HasFlowBy h (ranked b before.high (rank_in before.ranks)) before.low) (sym high)
            (last_by g b h (rank_in before.ranks) before.low before.high formed step has.flow has.bounds)));
      }

  -- after any step
  pub flow_after : (s : Step) (new : ℕ) → new ≡ new_vertex g → IsStep g s h → AreRanksAfter s new before after →
      HasFlowIn h after
  flow_after (LocalComplement u) new is step same = subst (HasFlowIn h) (sym same) (flow_kept (LocalComplement u) refl step)
  flow_after (Delete u) new is step same = subst (HasFlowIn h) (sym same) (flow_kept (Delete u) refl step)
  flow_after (Pivot u v) new is step same = subst (HasFlowIn h) (sym same) (flow_kept (Pivot u v) refl step)
  flow_after (SplitInput b) new is step ranks =
      flow_first b step (λ w. ranks.0 w ∙ ap (λ n. ranked n after.low (rank_in before.ranks) w) is) ranks.1 ranks.2
  flow_after (SplitOutput b) new is step ranks = flow_last b step ranks.0 ranks.1 ranks.2
  flow_after (DropLone u) new is step same = subst (HasFlowIn h) (sym same) (flow_kept (DropLone u) refl step)
  flow_after (FuseInto u) new is step same = subst (HasFlowIn h) (sym same) (flow_kept (FuseInto u) refl step)
  flow_after (FuseTwin u v) new is step same = subst (HasFlowIn h) (sym same) (flow_kept (FuseTwin u v) refl step)

-- what follows from three facts, where they hold on Ok
pub on_all : {T E A B C D : Type 0} (r : Result T E) → OnOk r A → OnOk r B → OnOk r C → (A → B → C → D) → OnOk r D
on_all (Ok v) a b c f = f a b c
on_all (Err e) a b c f = tt

pub on_any : {T E A : Type 0} (r : Result T E) → A → OnOk r A
on_any (Ok v) a = a
on_any (Err e) a = tt
