use Rattle.std.proofs.Common.{◌≡◌, map, drop}
use Rattle.std.specs.List.{list_any}
use Rattle.qasm_reader.specs.Views.{operand}
use Rattle.qasm_unroll.proofs.applications.any_no_register.Given as goal
use Rattle.qasm_scope.specs.Faults.{has_no_register}
use Rattle.qasm_names.specs.Checks.{lookup_by}

abbrev pub invariant-loop-argument : goal.invariant-loop-argument
invariant-loop-argument l =
    list_any (has_no_register (lookup_by l.names.symbols)) (map operand l.arguments) ≡ list_any (has_no_register (lookup_by l.names.symbols)) (map operand (drop l.argument-index l.arguments))
