-- An order, one vertex after the other.
use Rattle.std.proofs.Common.{◌≡◌, ◌∙◌, ◌+◌, ℕ, List, ◌++◌, ◌∷◌, [], ◌&&◌, true, false, sym, ap, subst, take, take_all, get_or, arith}
use Rattle.std.specs.List.{list_all}
use Rattle.zx_model.specs.Bits.{member}
use Rattle.zx_calculus.specs.Graph.{in_order, different}
use Rattle.zx_calculus.proofs.Kept.{both}
use Rattle.gflow_laws.specs.Flow.{order_of}
use Rattle.zx_text.specs.Files.{non_outputs}
use Rattle.zx_text.specs.Internal.Stepping.{no_sets}
use Rattle.zx_text.proofs.PartLemmas.{all-last, order-last}
use Rattle.zx_text.proofs.SetLemmas.{first_false, not_in_order_at, taken_more, member-different, different_from, member_more, next_order, order_of-no_sets}
use Rattle.zx_text.proofs.set_part.place_all.Goals as goal

pub returns-then-contains-clause-fits : goal.returns-then-contains-clause-fits
returns-then-contains-clause-fits c =
    let xs : List ℕ = c.args.order.now in
    let i : ℕ = c.loop-number.number-index in
    let inside : member (get_or xs i 0) (take i xs) ≡ true =
    sym (c.loop-number.invariant.placed (get_or xs i 0)) ∙ ap (λ v. member v c.loop-number.placed.ids) (sym c.new-v.ensures) ∙ sym c.contains.ensures ∙ c.if-contains.true in
    sym (first_false _ _ (not_in_order_at different xs i 0 c.loop-number-test.true (member-different (get_or xs i 0) (take i xs) inside)))

pub add-requires-clause-fresh : goal.add-requires-clause-fresh
add-requires-clause-fresh c =
    ap (λ t. member c.new-v.result (order_of t)) c.loop-number.invariant.table
    ∙ ap (member c.new-v.result) (order_of-no_sets (take c.loop-number.number-index c.args.order.now))
    ∙ sym (c.loop-number.invariant.placed c.new-v.result) ∙ sym c.contains.ensures ∙ c.if-contains.false

pub loop-number-preserved : goal.loop-number-preserved
loop-number-preserved c =
    let xs : List ℕ = c.args.order.now in
    let i : ℕ = c.loop-number.number-index in
    let v : ℕ = c.new-v.result in
    let more : take (i + 1) xs ≡ take i xs ++ v ∷ [] = taken_more xs i 0 c.loop-number-test.true ∙ ap (λ u. take i xs ++ u ∷ []) (sym c.new-v.ensures) in
    let absent : member v (take i xs) ≡ false = sym (c.loop-number.invariant.placed v) ∙ sym c.contains.ensures ∙ c.if-contains.false in
    record {
      table = next_order c.loop-number.table.table c.add.new.self.table (take i xs) v c.loop-number.invariant.table c.loop-number.invariant.once absent c.in_ok-add.ensures.ok
          ∙ sym (ap no_sets more);
      placed = λ w. member_more c.loop-number.placed.ids (take i xs) v c.toggle.new.self.ids c.loop-number.invariant.placed absent c.in_ok-toggle.ensures.ok w ∙ sym (ap (member w) more);
      once = ap (in_order different) more ∙ order-last different (take i xs) v c.loop-number.invariant.once (different_from v (take i xs) absent);
      no_others = ap (list_all (λ u. member u (non_outputs c.args.part.now.graph))) more
          ∙ all-last (λ u. member u (non_outputs c.args.part.now.graph)) (take i xs) v c.loop-number.invariant.no_others (sym c.has_no_output.ensures ∙ c.if-not-has_no_output.false);
    }

pub returns-clause-fits : goal.returns-clause-fits
returns-clause-fits c =
    sym (subst (λ (xs : List ℕ). (in_order different xs && list_all (λ v. member v (non_outputs c.args.part.now.graph)) xs) ≡ true)
    (take_all c.loop-number.number-index c.args.order.now (omega arith)) (both _ _ c.loop-number.invariant.once c.loop-number.invariant.no_others))
