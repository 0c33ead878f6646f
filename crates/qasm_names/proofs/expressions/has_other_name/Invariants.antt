use Rattle.std.proofs.Common.{◌≡◌, map, drop}
use Rattle.std.specs.List.{list_any}
use Rattle.qasm_reader.specs.Items.{entry}
use Rattle.qasm_reader.specs.Postfix.{formula_of}
use Rattle.qasm_names.specs.Internal.Entries.{has_no_place}
use Rattle.qasm_names.specs.Places.{place_in}
use Rattle.qasm_names.proofs.expressions.has_other_name.Given as goal
use Rattle.qasm_scope.specs.Faults.{has_other_name}

abbrev pub invariant-loop-item : goal.invariant-loop-item
invariant-loop-item l = has_other_name (place_in l.places) (formula_of l.expression) ≡ list_any (has_no_place l.places) (map entry (drop l.item-index l.item-items))
