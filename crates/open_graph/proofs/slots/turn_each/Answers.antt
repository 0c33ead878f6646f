-- One vertex more.
use Rattle.std.proofs.Common.{◌≡◌, sym, ◌∙◌, ap, ap₂, subst, ℕ, List, ◌∷◌, ◌++◌, false}
use Rattle.zx_model.specs.Bits.{member}
use Rattle.zx_model.specs.Phase.{sum_of_phases}
use Rattle.zx_calculus.specs.Graph.{Distinct}
use Rattle.zx_calculus.proofs.Ids.{Distinct-rising}
use Rattle.zx_calculus.proofs.StepScalars.{powers-more}
use Rattle.open_graph.specs.Internal.Slots.{told_at}
use Rattle.open_graph.specs.Turns.{turned_in, power_of}
use Rattle.open_graph.proofs.Walks.{next_some, next_there, next_all, absent_before}
use Rattle.open_graph.proofs.Turning.{turned_there, turned_next, same_power, same_room_then}
use Rattle.open_graph.proofs.slots.turn_each.Goals as goal

pub turn_one-requires : goal.turn_one-requires
turn_one-requires c =
    turned_there (turned_in c.args.turn c.loop-p.yielded) c.args.slots.now.slots c.loop-p.slots.slots c.loop-p.invariant.turned c.in-Some.p
    (c.requires c.in-Some.p (next_there c.loop-p.yielded c.loop-p.p-iterator c.next.new.self c.args.vertices.now.ids c.in-Some.p c.loop-p.invariant.all
    (next_some c.next.result c.loop-p.p-iterator c.next.new.self c.in-Some.p c.next.ensures.steps c.in-Some.is)))

pub loop-p-preserved : goal.loop-p-preserved
loop-p-preserved c =
    let more = next_some c.next.result c.loop-p.p-iterator c.next.new.self c.in-Some.p c.next.ensures.steps c.in-Some.is in
    let whole : c.loop-p.yielded ++ c.in-Some.p ∷ c.next.new.self ≡ c.args.vertices.now.ids =
    sym (ap (λ (xs : List ℕ). c.loop-p.yielded ++ xs) more) ∙ c.loop-p.invariant.all in
    let absent : member c.in-Some.p c.loop-p.yielded ≡ false =
    absent_before c.loop-p.yielded c.next.new.self c.in-Some.p
    (subst Distinct (sym whole) (Distinct-rising c.args.vertices.now.ids c.iter-p-items.ensures.rising)) in
    record {
      all = next_all c.loop-p.yielded c.loop-p.p-iterator c.next.new.self c.args.vertices.now.ids c.in-Some.p c.loop-p.invariant.all more;
      turned = turned_next c.args.turn c.args.slots.now.slots c.loop-p.slots.slots c.loop-p.yielded c.in-Some.p absent c.loop-p.invariant.turned
          c.turn_one.new.slots.slots c.turn_one.ensures.turned;
      sum = c.add-sum.ensures
          ∙ ap₂ sum_of_phases c.loop-p.invariant.sum
          (c.turn_one.ensures.power
          ∙ same_power c.args.turn c.args.slots.now.slots c.loop-p.slots.slots c.loop-p.yielded c.in-Some.p absent c.loop-p.invariant.turned)
          ∙ sym (powers-more (λ p. power_of c.args.turn (told_at c.args.slots.now.slots p).kind) c.loop-p.yielded c.in-Some.p);
      room = same_room_then c.args.slots.now.slots c.loop-p.slots.slots c.turn_one.new.slots.slots c.loop-p.invariant.room c.turn_one.ensures.room;
    }
