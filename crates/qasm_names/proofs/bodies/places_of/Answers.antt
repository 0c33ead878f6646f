use Rattle.std.proofs.Common.{◌≡◌, ◌++◌, ◌∷◌, [], not, map, take, sym, ap, ◌∙◌, rules}
use Rattle.std.specs.Option.{is_some}
use Rattle.qasm_scope.specs.Angles.{place_or_zero}
use Rattle.qasm_scope.specs.Faults.{is_other}
use Rattle.qasm_names.specs.Places.{place_in}
use Rattle.qasm_names.proofs.PlaceLemmas.{map-map-more, any-here, any-next}
use Rattle.qasm_names.proofs.bodies.places_of.Goals as goal

pub returns-in_default-clause-none : goal.returns-in_default-clause-none
returns-in_default-clause-none c =
    c.loop-name.invariant.all_placed
    ∙ any-here (is_other (place_in c.args.places.now)) (λ name. name.now) c.args.names.now c.loop-name.name-index _ c.loop-name-test.true
    (ap (λ place. not (is_some place)) (sym c.find.ensures ∙ c.in_default.is))

pub loop-name-preserved : goal.loop-name-preserved
loop-name-preserved c =
    let places = c.args.places.now in
    let names = c.args.names.now in
    let i = c.loop-name.name-index in
    let pushed : c.push.new.self.items ≡ c.loop-name.found.items ++ c.in-Some.place ∷ [] = search rules in
    record {
      done = pushed ∙ ap (λ items. items ++ c.in-Some.place ∷ []) c.loop-name.invariant.done
          ∙ ap (λ place. map (λ name. place_or_zero (place_in places name)) (map (λ name. name.now) (take i names)) ++ place_or_zero place ∷ []) (sym c.in-Some.is ∙ c.find.ensures)
          ∙ sym (map-map-more (λ name. place_or_zero (place_in places name)) (λ name. name.now) names i _ c.loop-name-test.true);
      all_placed = c.loop-name.invariant.all_placed
          ∙ any-next (is_other (place_in places)) (λ name. name.now) names i _ c.loop-name-test.true (ap (λ place. not (is_some place)) (sym c.find.ensures ∙ c.in-Some.is));
    }
