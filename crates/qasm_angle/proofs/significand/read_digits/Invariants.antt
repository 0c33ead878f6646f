use Rattle.std.proofs.Common.{◌≤◌, drop}
use Rattle.qasm_angle.specs.Literals.{digits_of}
use Rattle.qasm_angle.specs.Internal.Significands.{IsSignificand, DecidesAlike}
use Rattle.qasm_angle.proofs.significand.read_digits.Given as goal

abbrev pub invariant-loop-b : goal.invariant-loop-b
invariant-loop-b l = record {
  valid : IsSignificand l.significand;
  keeps : DecidesAlike l.significand (digits_of (drop l.b-index l.mantissa)) (digits_of l.mantissa);
  zeros : l.significand.zeros ≤ l.b-index;
}
