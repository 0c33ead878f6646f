use Rattle.std.proofs.Common.{◌≡◌, ◌+◌, ◌≤◌, length, drop}
use Rattle.qasm_angle.specs.Literals.{digits_of}
use Rattle.qasm_angle.proofs.literal.count_digits.Given as goal

abbrev pub invariant-loop-b : goal.invariant-loop-b
invariant-loop-b l = record {
  count : l.count + length (digits_of (drop l.b-index l.text)) ≡ length (digits_of l.text);
  most : l.count ≤ l.b-index;
}
