use Rattle.std.proofs.Common.{◌∙◌, ap, inl, inr, arith}
use Rattle.std.proofs.lemmas.Bool.{cases_eq}
use Rattle.open_graph.specs.Internal.Room.{room_at}
use Rattle.open_graph.proofs.slots.reserve.Goals as goal

pub loop-id-preserved : goal.loop-id-preserved
loop-id-preserved c =
    let covers = c.reserve_row.ensures.covers in
    record {
      same = λ p. c.reserve_row.ensures.same p ∙ c.loop-id.invariant.same p;
      spare = c.reserve_row.ensures.spare ∙ c.loop-id.invariant.spare;
      grown = λ p lt.
          let more = c.reserve_row.ensures.room p in
          let before = c.loop-id.invariant.grown p lt in
          omega (arith, more, before);
      longer = let before = c.loop-id.invariant.longer in omega (arith, covers, before);
      covers = let before = c.loop-id.invariant.covers in omega (arith, covers, before);
      empty = c.reserve_row.ensures.empty c.loop-id.invariant.empty;
      done = λ p lt.
          elim (cases_eq p c.loop-id.id) [
            | inl e ↦
                let is = ap (room_at c.reserve_row.new.slots.slots c.reserve_row.new.kept.items) e in
                omega (arith, is, c.in_ok-reserve_row.ensures.ok)
            | inr apart ↦
                let more = c.reserve_row.ensures.room p in
                let before = c.loop-id.invariant.done p (omega (arith, lt, apart)) in
                omega (arith, more, before)
          ];
    }
