use Rattle.std.proofs.Common.{◌≡◌, map, drop}
use Rattle.std.specs.List.{list_any}
use Rattle.qasm_reader.specs.Views.{operand}
use Rattle.qasm_unroll.specs.Internal.Spans.{IsLastRegister, is_missing}
use Rattle.qasm_unroll.proofs.applications.any_missing.Given as goal
use Rattle.qasm_names.specs.Checks.{lookup_by}

abbrev pub invariant-loop-argument : goal.invariant-loop-argument
invariant-loop-argument l = record {
  last : IsLastRegister (lookup_by l.names.symbols) l.last;
  missing : list_any (is_missing (lookup_by l.names.symbols)) (map operand l.arguments) ≡ list_any (is_missing (lookup_by l.names.symbols)) (map operand (drop l.argument-index l.arguments));
}
