-- Numbers that rise below a bound.
use Rattle.std.proofs.Common.{◌≡◌, ◌∙◌, ◌+◌, ℕ, List, ◌++◌, ◌∷◌, [], true, sym, ap, eqb, ltb, lt-ltb, arith, take, get_or}
use Rattle.std.specs.List.{list_all}
use Rattle.std.proofs.lemmas.List.{take_all}
use Rattle.zx_model.specs.Bits.{member, xor}
use Rattle.zx_calculus.specs.Graph.{in_order}
use Rattle.zx_calculus.proofs.Extensionality.{rising_ext}
use Rattle.zx_text.proofs.PartLemmas.{all-last, order-last}
use Rattle.zx_text.proofs.SetLemmas.{first_false, not_in_order_at, taken_more, all_below_more, not_all_below, not_below_member, member_more}
use Rattle.zx_text.proofs.members.rising_set.Goals as goal

pub returns-then-number-least-clause-none : goal.returns-then-number-least-clause-none
returns-then-number-least-clause-none c =
    first_false _ _ (not_in_order_at ltb c.args.numbers.now c.loop-number.number-index 0 c.loop-number-test.true (c.loop-number.invariant.least _ c.if-number-least.true))

pub loop-number-preserved : goal.loop-number-preserved
loop-number-preserved c =
    let xs : List ℕ = c.args.numbers.now in
    let i : ℕ = c.loop-number.number-index in
    let x : ℕ = get_or xs i 0 in
    let more : take (i + 1) xs ≡ take i xs ++ x ∷ [] = taken_more xs i 0 c.loop-number-test.true in
    let under : list_all (λ w. ltb w x) (take i xs) ≡ true = all_below_more (take i xs) c.loop-number.least x c.loop-number.invariant.below c.if-number-least.false in
    record {
      same = λ w. member_more c.loop-number.set.ids (take i xs) x c.toggle.new.self.ids c.loop-number.invariant.same (not_below_member (take i xs) x under)
          (λ u. c.in_ok-toggle.ensures.ok u ∙ ap (λ id. xor (member u c.loop-number.set.ids) (eqb u id)) c.new.ensures) w
          ∙ sym (ap (member w) more);
      rising = ap (in_order ltb) more ∙ order-last ltb (take i xs) x c.loop-number.invariant.rising under;
      bounded = ap (list_all (λ w. ltb w c.args.bound)) more ∙ all-last (λ w. ltb w c.args.bound) (take i xs) x c.loop-number.invariant.bounded (lt-ltb x c.args.bound c.if-number-bound.false);
      below = ap (list_all (λ w. ltb w (x + 1))) more
          ∙ all-last (λ w. ltb w (x + 1)) (take i xs) x (all_below_more (take i xs) c.loop-number.least (x + 1) c.loop-number.invariant.below (omega (arith, c.if-number-least.false)))
          (lt-ltb x (x + 1) (omega arith));
      least = λ n lt. ap (list_all (λ w. ltb w n)) more ∙ not_all_below (take i xs) x n lt;
    }

pub returns-clause-some : goal.returns-clause-some
returns-clause-some c =
    let all : take c.loop-number.number-index c.args.numbers.now ≡ c.args.numbers.now = take_all c.loop-number.number-index c.args.numbers.now c.loop-number-test.false in
    rising_ext c.loop-number.set.ids c.args.numbers.now c.iter-ids.ensures.rising
    (ap (in_order ltb) (sym all) ∙ c.loop-number.invariant.rising)
    (λ w. c.loop-number.invariant.same w ∙ ap (member w) all)
