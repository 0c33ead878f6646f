-- The text holds the lines of the measurements so far.
use Rattle.std.proofs.Common.{◌≡◌, ◌++◌, take}
use Rattle.std.specs.List.{flat_map}
use Rattle.qasm_writer.specs.Written.{measure_line}
use Rattle.qasm_writer.proofs.writer.push_measures.Given as goal

abbrev pub invariant-loop-measure : goal.invariant-loop-measure
invariant-loop-measure l = l.text.items ≡ l.fn.text.items ++ flat_map measure_line (take l.measure-index l.measured)
