-- A step more, or an item that is none.
use Rattle.std.proofs.Common.{◌≡◌, ◌++◌, ◌∷◌, [], map, take, sym, ap, ◌∙◌, rules}
use Rattle.qasm_reader.specs.Items.{entry}
use Rattle.qasm_names.specs.Internal.Entries.{is_other_entry, step_of}
use Rattle.qasm_names.proofs.PlaceLemmas.{map-map-more, any-here, any-next}
use Rattle.qasm_names.proofs.expressions.steps.Goals as goal

pub returns-in_default-clause-none : goal.returns-in_default-clause-none
returns-in_default-clause-none c =
    c.loop-item.invariant.none_other
    ∙ any-here (is_other_entry c.args.places.now) entry c.args.items.now c.loop-item.item-index _ c.loop-item-test.true
    c.in_default.ensures.none

pub loop-item-preserved : goal.loop-item-preserved
loop-item-preserved c =
    let places = c.args.places.now in
    let items = c.args.items.now in
    let i = c.loop-item.item-index in
    let is = c.in-Some.ensures.some in
    let pushed : c.push.new.self.items ≡ c.loop-item.steps.items ++ c.in-Some.step ∷ [] = search rules in
    record {
      done = pushed ∙ ap (λ steps. steps ++ c.in-Some.step ∷ []) c.loop-item.invariant.done
          ∙ ap (λ step. map (step_of places) (map entry (take i items)) ++ step ∷ []) is.same
          ∙ sym (map-map-more (step_of places) entry items i _ c.loop-item-test.true);
      none_other = c.loop-item.invariant.none_other ∙ any-next (is_other_entry places) entry items i _ c.loop-item-test.true is.none_other;
    }
