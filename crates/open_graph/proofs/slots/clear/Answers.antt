use Rattle.std.proofs.Common.{◌∙◌, ap, inl, inr, None, slice_index_or, arith}
use Rattle.std.proofs.lemmas.Bool.{cases_eq}
use Rattle.open_graph.proofs.slots.clear.Goals as goal

pub loop-id-preserved : goal.loop-id-preserved
loop-id-preserved c =
    record {
      gone = λ p lt.
          elim (cases_eq p c.loop-id.id) [
            | inl e ↦ ap (λ q. slice_index_or c.clear_place.new.slots.slots q None) e ∙ c.clear_place.ensures.gone
            | inr apart ↦ c.clear_place.ensures.others p apart ∙ c.loop-id.invariant.gone p (omega (arith, lt, apart))
          ];
      others = λ p le. c.clear_place.ensures.others p (λ e. omega (arith, le, e)) ∙ c.loop-id.invariant.others p (omega (arith, le));
      spare =
          let before = c.loop-id.invariant.spare in
          let more = c.clear_place.ensures.spare in
          omega (arith, before, more);
      room = λ reach room. c.clear_place.ensures.room reach (c.loop-id.invariant.room reach room);
    }
