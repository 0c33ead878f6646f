-- What rewrites do to the ranks of an order along which a graph has a flow.
use Rattle.std.proofs.Common.{◌≡◌, sym, ◌∙◌, ap, subst, ℕ, suc, ◌<◌, ◌≤◌, true, false, cond, not, ◌||◌, eqb, List, [], ◌∷◌, ◌++◌, arith, true≢false}
use Rattle.zx_model.specs.Bits.{member}
use Rattle.zx_calculus.specs.Graph.{Graph, WellFormed}
use Rattle.zx_calculus.specs.Splits.{new_vertex}
use Rattle.zx_calculus.specs.Steps.{Step, IsStep, LocalComplement, Delete, Pivot, SplitInput, SplitOutput, DropLone, FuseInto, FuseTwin}
use Rattle.zx_calculus.proofs.Ids.{by_test, by_equal, eqb-self, and-left, member-here, member-there, member-filter, member-append}
use Rattle.zx_calculus.proofs.Booleans.{or-false}
use Rattle.gflow_laws.specs.Seen.{seen}
use Rattle.gflow_laws.proofs.Flows.{Flows-from}
use Rattle.gflow_laws.proofs.Tables.{unlisted, absent}
use Rattle.move_laws.specs.Orders.{HasFlowAlong, order_without, is_split}
use Rattle.move_laws.specs.Ranks.{RisesBy, HasFlowBy, ranked}
use Rattle.move_laws.proofs.FlowOrders.{kept_along}

kept_in : (u w : ℕ) (vs : List ℕ) → member w (order_without u vs) ≡ true → member w vs ≡ true
kept_in u w vs there = and-left _ _ (sym (member-filter (λ v. not (eqb u v)) vs w) ∙ there)

rises-without : (rank : ℕ → ℕ) (u : ℕ) (vs : List ℕ) → RisesBy rank vs → RisesBy rank (order_without u vs)
rises-without rank u [] r = tt
rises-without rank u (v ∷ vs) r =
    by_test (eqb u v)
    (λ t. rw t (rises-without rank u vs r.1))
    (λ f. rw f (λ w there. r.0 w (kept_in u w vs there), rises-without rank u vs r.1))

without : (g h : Graph) (rank : ℕ → ℕ) (low high u : ℕ) → (f : HasFlowBy g rank low high) → HasFlowAlong h (order_without u f.order) → HasFlowBy h rank low high
without g h rank low high u f flow = record {
  order = order_without u f.order;
  flow = flow;
  rises = rises-without rank u f.order f.rises;
  from_low = λ v there. f.from_low v (kept_in u v f.order there);
  below_high = λ v there. f.below_high v (kept_in u v f.order there);
}

same : (g h : Graph) (rank : ℕ → ℕ) (low high : ℕ) → (f : HasFlowBy g rank low high) → HasFlowAlong h f.order → HasFlowBy h rank low high
same g h rank low high f flow = record { order = f.order; flow = flow; rises = f.rises; from_low = f.from_low; below_high = f.below_high }

pub kept_by : (g : Graph) (s : Step) (h : Graph) (rank : ℕ → ℕ) (low high : ℕ) → WellFormed g → is_split s ≡ false → IsStep g s h → HasFlowBy g rank low high → HasFlowBy h rank low high
kept_by g (LocalComplement u) h rank low high formed none step f = same g h rank low high f (kept_along g (LocalComplement u) h f.order formed step f.flow)
kept_by g (Delete u) h rank low high formed none step f = without g h rank low high u f (kept_along g (Delete u) h f.order formed step f.flow)
kept_by g (Pivot u v) h rank low high formed none step f = same g h rank low high f (kept_along g (Pivot u v) h f.order formed step f.flow)
kept_by g (SplitInput b) h rank low high formed none step f = absurd (true≢false none)
kept_by g (SplitOutput b) h rank low high formed none step f = absurd (true≢false none)
kept_by g (DropLone u) h rank low high formed none step f = without g h rank low high u f (kept_along g (DropLone u) h f.order formed step f.flow)
kept_by g (FuseInto u) h rank low high formed none step f = without g h rank low high u f (kept_along g (FuseInto u) h f.order formed step f.flow)
kept_by g (FuseTwin u v) h rank low high formed none step f = without g h rank low high v f (kept_along g (FuseTwin u v) h f.order formed step f.flow)

-- one rank is another's business
pub ranked-self : (b r : ℕ) (rank : ℕ → ℕ) → ranked b r rank b ≡ r
ranked-self b r rank = ap (λ t. cond t r (rank b)) (eqb-self b)

pub ranked_other : (b r : ℕ) (rank : ℕ → ℕ) (vs : List ℕ) (w : ℕ) → member b vs ≡ false → member w vs ≡ true → ranked b r rank w ≡ rank w
ranked_other b r rank vs w out there =
    by_equal w b (λ t e. absurd (true≢false (sym there ∙ ap (λ x. member x vs) e ∙ out))) (λ f n. ap (λ t. cond t r (rank w)) f)

pub rises-ranked : (b r : ℕ) (rank : ℕ → ℕ) (all vs : List ℕ) → member b all ≡ false → ((w : ℕ) → member w vs ≡ true → member w all ≡ true) → RisesBy rank vs → RisesBy (ranked b r rank) vs
rises-ranked b r rank all [] out within rises = tt
rises-ranked b r rank all (v ∷ vs) out within rises = (
  (λ w there. let at_v : ranked b r rank v ≡ rank v = ranked_other b r rank all v out (within v (member-here v vs)) in
      let at_w : ranked b r rank w ≡ rank w = ranked_other b r rank all w out (within w (member-there w v vs there)) in
      rw (at_v, at_w) (rises.0 w there)),
  rises-ranked b r rank all vs out (λ w there. within w (member-there w v vs there)) rises.1,
)

pub rises-append : (rank : ℕ → ℕ) (vs : List ℕ) (b : ℕ) → ((w : ℕ) → member w vs ≡ true → rank w < rank b) → RisesBy rank vs → RisesBy rank (vs ++ b ∷ [])
rises-append rank [] b below rises = ((λ w there. absurd (true≢false (sym there))), tt)
rises-append rank (v ∷ vs) b below rises = (
  (λ w there. by_test (member w vs)
      (λ t. rises.0 w t)
      (λ f. let is_b : eqb w b ≡ true = sym (or-false (eqb w b)) ∙ sym (ap (λ m. m || member w (b ∷ [])) f) ∙ sym (member-append w vs (b ∷ [])) ∙ there in
      by_equal w b (λ t e. subst (λ x. rank v < rank x) (sym e) (below v (member-here v vs))) (λ n ne. absurd (true≢false (sym is_b ∙ n))))),
  rises-append rank vs b (λ w there. below w (member-there w v vs there)) rises.1,
)

-- the order as functions see it
not_in_order : (g : Graph) (order : List ℕ) (v : ℕ) → HasFlowAlong g order → ((seen g).output v ≡ true) → member v order ≡ false
not_in_order g order v f is_output = ap (member v) (sym f.along) ∙ unlisted (seen g) f.table (Flows-from (seen g) f.table f.flow) v is_output

fresh_in_order : (g : Graph) (order : List ℕ) (v : ℕ) → HasFlowAlong g order → member v (seen g).ids ≡ false → member v order ≡ false
fresh_in_order g order v f is_fresh = ap (member v) (sym f.along) ∙ absent (seen g) f.table (Flows-from (seen g) f.table f.flow) v is_fresh

pub first_by : (g : Graph) (b : ℕ) (h : Graph) (rank : ℕ → ℕ) (low high : ℕ) → WellFormed g → IsStep g (SplitInput b) h → HasFlowBy g rank (suc low) high → low < high →
    HasFlowBy h (ranked (new_vertex g) low rank) low high
first_by g b h rank low high formed step f some = record {
  order = new ∷ f.order;
  flow = kept_along g (SplitInput b) h f.order formed step f.flow;
  rises = (
    (λ w there. let at_w : ranked new low rank w ≡ rank w = ranked_other new low rank f.order w out there in
        rw (ranked-self new low rank, at_w) (f.from_low w there)),
    rises-ranked new low rank f.order f.order out (λ w there. there) f.rises,
  );
  from_low = λ v there. by_equal v new
      (λ t e. rw t (omega arith))
      (λ n ne. let bound : suc low ≤ rank v = f.from_low v (sym (ap (λ t. t || member v f.order) n) ∙ there) in rw n (omega arith));
  below_high = λ v there. by_equal v new
      (λ t e. rw t some)
      (λ n ne. rw n (f.below_high v (sym (ap (λ t. t || member v f.order) n) ∙ there)));
}
  where
    new : ℕ
    new = new_vertex g

    out : member new f.order ≡ false
    out = fresh_in_order g f.order new f.flow step.fresh

pub last_by : (g : Graph) (b : ℕ) (h : Graph) (rank : ℕ → ℕ) (low high : ℕ) → WellFormed g → IsStep g (SplitOutput b) h → HasFlowBy g rank low high → low ≤ high →
    HasFlowBy h (ranked b high rank) low (suc high)
last_by g b h rank low high formed step f some = record {
  order = f.order ++ b ∷ [];
  flow = kept_along g (SplitOutput b) h f.order formed step f.flow;
  rises = rises-append (ranked b high rank) f.order b
      (λ w there. let at_w : ranked b high rank w ≡ rank w = ranked_other b high rank f.order w out there in
      rw (ranked-self b high rank, at_w) (f.below_high w there))
      (rises-ranked b high rank f.order f.order out (λ w there. there) f.rises);
  from_low = λ v there. by_equal v b
      (λ t e. rw t some)
      (λ n ne. rw n (f.from_low v (before v n there)));
  below_high = λ v there. by_equal v b
      (λ t e. rw t (omega arith))
      (λ n ne. let bound : rank v < high = f.below_high v (before v n there) in rw n (omega arith));
}
  where
    out : member b f.order ≡ false
    out = not_in_order g f.order b f.flow step.has_output

    before : (v : ℕ) → eqb v b ≡ false → member v (f.order ++ b ∷ []) ≡ true → member v f.order ≡ true
    before v n there = sym (or-false (member v f.order)) ∙ sym (ap (λ t. member v f.order || (t || false)) n) ∙ sym (member-append v f.order (b ∷ [])) ∙ there
