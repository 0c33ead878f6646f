use Rattle.std.proofs.Common.{◌≡◌, map, take, drop}
use Rattle.std.specs.List.{list_any}
use Rattle.qasm_reader.specs.Views.{operand}
use Rattle.qasm_unroll.specs.Internal.Spans.{IsLastRegister, span_of, span_range}
use Rattle.qasm_unroll.proofs.applications.spans.Given as goal
use Rattle.qasm_scope.specs.Faults.{has_no_register}
use Rattle.qasm_scope.specs.Faults.{has_past_index}
use Rattle.qasm_names.specs.Checks.{lookup_by}

abbrev pub invariant-loop-argument : goal.invariant-loop-argument
invariant-loop-argument l = record {
  last : IsLastRegister (lookup_by l.names.symbols) l.last;
  done : map span_range l.spans.items ≡ map (span_of (lookup_by l.names.symbols)) (map operand (take l.argument-index l.arguments));
  registers : list_any (has_no_register (lookup_by l.names.symbols)) (map operand l.arguments) ≡ list_any (has_no_register (lookup_by l.names.symbols)) (map operand (drop l.argument-index l.arguments));
  within : list_any (has_past_index (lookup_by l.names.symbols)) (map operand l.arguments) ≡ list_any (has_past_index (lookup_by l.names.symbols)) (map operand (drop l.argument-index l.arguments));
}
