use Rattle.std.proofs.Common.{◌≡◌, map, take, drop}
use Rattle.std.specs.List.{list_any}
use Rattle.qasm_reader.specs.Postfix.{formula_of}
use Rattle.qasm_scope.specs.Angles.{is_unsupported}
use Rattle.qasm_scope.specs.Faults.{has_other_name}
use Rattle.qasm_scope.specs.Angles.{numbered}
use Rattle.qasm_names.proofs.expressions.all_numbered.Given as goal
use Rattle.qasm_names.specs.Places.{place_in}

abbrev pub invariant-loop-expression : goal.invariant-loop-expression
invariant-loop-expression l = record {
  done : l.exprs.items ≡ map (numbered (place_in l.places)) (map formula_of (take l.expression-index l.expressions));
  supported : list_any is_unsupported (map formula_of l.expressions) ≡ list_any is_unsupported (map formula_of (drop l.expression-index l.expressions));
  all_placed : list_any (has_other_name (place_in l.places)) (map formula_of l.expressions) ≡ list_any (has_other_name (place_in l.places)) (map formula_of (drop l.expression-index l.expressions));
}
