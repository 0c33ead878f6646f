use Rattle.std.proofs.Common.{◌≡◌, length, take, drop}
use Rattle.qasm_unroll.specs.Internal.KeptCalls.{followed, values_of}
use Rattle.qasm_unroll.proofs.values.push_values.Given as goal

abbrev pub invariant-loop-expression : goal.invariant-loop-expression
invariant-loop-expression l = record {
  begun : take (length l.fn.angles.items) l.angles.items ≡ l.fn.angles.items;
  left : followed l.fn.angles.items (values_of l.expressions (drop l.base l.fn.angles.items))
      ≡ followed l.angles.items (values_of (drop l.expression-index l.expressions) (drop l.base l.fn.angles.items));
}
