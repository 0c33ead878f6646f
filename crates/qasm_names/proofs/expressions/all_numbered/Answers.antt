-- An expression more.
use Rattle.std.specs.Prelude.{IfSome}
use Rattle.std.proofs.Common.{◌≡◌, ◌++◌, ◌∷◌, [], map, take, sym, ap, subst, ◌∙◌, rules}
use Rattle.qasm_reader.specs.Postfix.{formula_of}
use Rattle.qasm_scope.specs.Angles.{is_unsupported}
use Rattle.qasm_scope.specs.Faults.{has_other_name}
use Rattle.qasm_scope.specs.Angles.{numbered}
use Rattle.qasm_names.specs.Internal.Entries.{IsPlaced}
use Rattle.qasm_names.specs.Places.{place_in}
use Rattle.qasm_names.proofs.PlaceLemmas.{map-map-more, any-next}
use Rattle.qasm_names.proofs.expressions.all_numbered.Goals as goal

pub loop-expression-preserved : goal.loop-expression-preserved
loop-expression-preserved c =
    let places = c.args.places.now in
    let expressions = c.args.expressions.now in
    let i = c.loop-expression.expression-index in
    let is = subst (λ expression. IsPlaced places (formula_of expression) c.in-Some.expr) c.expression-item.is
    (subst (λ found. IfSome found (IsPlaced places (formula_of c.expression-item.result))) c.in-Some.is c.in_ok-expr.ensures.some) in
    let pushed : c.push.new.self.items ≡ c.loop-expression.exprs.items ++ c.in-Some.expr ∷ [] = search rules in
    record {
      done = pushed ∙ ap (λ exprs. exprs ++ c.in-Some.expr ∷ []) c.loop-expression.invariant.done
          ∙ ap (λ expr. map (numbered (place_in places)) (map formula_of (take i expressions)) ++ expr ∷ []) is.same
          ∙ sym (map-map-more (numbered (place_in places)) formula_of expressions i _ c.loop-expression-test.true);
      supported = c.loop-expression.invariant.supported ∙ any-next is_unsupported formula_of expressions i _ c.loop-expression-test.true is.supported;
      all_placed = c.loop-expression.invariant.all_placed ∙ any-next (has_other_name (place_in places)) formula_of expressions i _ c.loop-expression-test.true is.all_placed;
    }
