use Rattle.std.proofs.Common.{◌≡◌, ◌-◌, ◌^◌, ◌≤◌, min, drop}
use Rattle.qasm_names.proofs.numerals.number.Given as goal
use Rattle.qasm_scope.specs.Internal.Numerals.{numeral_from}

abbrev pub invariant-loop-digit : goal.invariant-loop-digit
invariant-loop-digit l = record {
  small : l.number ≤ 2 ^ 64 - 1;
  decides : min (numeral_from l.number (drop l.digit-index l.text)) (2 ^ 64 - 1) ≡ min (numeral_from 0 l.text) (2 ^ 64 - 1);
}
