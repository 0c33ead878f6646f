use Rattle.std.proofs.Common.{◌≡◌, map, take, drop}
use Rattle.std.specs.List.{list_any}
use Rattle.qasm_reader.specs.Items.{entry}
use Rattle.qasm_names.specs.Internal.Entries.{is_other_entry, step_of}
use Rattle.qasm_names.proofs.expressions.steps.Given as goal

abbrev pub invariant-loop-item : goal.invariant-loop-item
invariant-loop-item l = record {
  done : l.steps.items ≡ map (step_of l.places) (map entry (take l.item-index l.items));
  none_other : list_any (is_other_entry l.places) (map entry l.items) ≡ list_any (is_other_entry l.places) (map entry (drop l.item-index l.items));
}
