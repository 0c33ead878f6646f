use Rattle.std.proofs.Common.{◌≡◌, ◌<◌, length, map, take, sym, ap, ◌∙◌, arith, length-take-le}
use Rattle.std.specs.List.{position_from}
use Rattle.std.specs.Option.{is_some}
use Rattle.std.specs.Str.{bytes_eq}
use Rattle.std.proofs.lemmas.List.{length-map}
use Rattle.qasm_names.proofs.PlaceLemmas.{twice-names, none-names, map-more}
use Rattle.qasm_names.proofs.places.has_name_twice.Goals as goal

pub returns-then-is_some : goal.returns-then-is_some
returns-then-is_some c =
    sym (twice-names c.args.names.now c.loop-place.place _ c.loop-place.places c.loop-place-test.true c.loop-place.invariant.known (sym (c.is_some.ensures ∙ ap is_some c.find.ensures) ∙ c.if-is_some.true))

pub loop-place-preserved : goal.loop-place-preserved
loop-place-preserved c =
    let within : c.loop-place.place < length c.args.names.now = omega arith in
    let count : length (map (λ name. name.now) (take c.loop-place.place c.args.names.now)) ≡ c.loop-place.place = simp length-map (omega (arith, length-take-le c.loop-place.place c.args.names.now (omega arith))) in
    record {
      known = λ name. c.in_ok-put.ensures (map (λ name. name.now) (take c.loop-place.place c.args.names.now)) count c.loop-place.invariant.known name
          ∙ ap (λ names. position_from (λ other. bytes_eq other name) 0 names) (sym (map-more (λ name. name.now) c.args.names.now c.loop-place.place _ within));
      none_twice = none-names c.args.names.now c.loop-place.place _ c.loop-place.places within c.loop-place.invariant.known (sym (c.is_some.ensures ∙ ap is_some c.find.ensures) ∙ c.if-is_some.false) c.loop-place.invariant.none_twice;
    }
