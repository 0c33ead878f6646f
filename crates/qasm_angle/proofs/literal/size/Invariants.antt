use Rattle.std.proofs.Common.{◌≡◌, ◌-◌, ◌^◌, ◌≤◌, min, drop}
use Rattle.qasm_angle.specs.Literals.{number_from, number_of, digits_of}
use Rattle.qasm_angle.proofs.literal.size.Given as goal

abbrev pub invariant-loop-b : goal.invariant-loop-b
invariant-loop-b l = record {
  small : l.size ≤ 2 ^ 64 - 1;
  size : min (number_from l.size (digits_of (drop l.b-index l.exponent))) (2 ^ 64 - 1) ≡ min (number_of (digits_of l.exponent)) (2 ^ 64 - 1);
}
