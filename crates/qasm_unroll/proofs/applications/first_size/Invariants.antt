use Rattle.std.proofs.Common.{◌≡◌, map, drop}
use Rattle.qasm_scope.specs.Applications.{register_sizes}
use Rattle.qasm_unroll.specs.Internal.Spans.{span_range}
use Rattle.qasm_unroll.proofs.applications.first_size.Given as goal

abbrev pub invariant-loop-span : goal.invariant-loop-span
invariant-loop-span l = register_sizes (map span_range l.spans) ≡ register_sizes (map span_range (drop l.span-index l.spans))
