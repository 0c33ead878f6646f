-- What stands before is taken in.
use Rattle.std.proofs.Common.{map, take}
use Rattle.qasm_reader.specs.Views.{statement_of}
use Rattle.qasm_unroll.specs.Circuits.{HasTaken}
use Rattle.qasm_inline.proofs.meaning.inline.Given as goal

abbrev pub invariant-loop-element : goal.invariant-loop-element
invariant-loop-element l = HasTaken l.circuit (map statement_of (take l.element-index l.program.elements.items))
