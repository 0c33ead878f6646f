-- What the body has so far is taken in.
use Rattle.std.proofs.Common.{◌≡◌, List, map, take}
use Rattle.qasm_reader.specs.Syntax.{Placed}
use Rattle.qasm_reader.specs.Views.{body_sentence, form_of}
use Rattle.qasm_unroll.specs.Circuits.{HasBegun, HasTaken}
use Rattle.qasm_inline.proofs.meaning.take_gate.Given as goal

abbrev pub invariant-loop-statement : goal.invariant-loop-statement
invariant-loop-statement l = record {
  taken : (program : List Placed) → HasTaken l.fn.circuit program
      → HasBegun l.circuit l.gate program (form_of l.declaration.heading (map body_sentence (take l.statement-index l.declaration.body.items)));
  place : l.gate.place ≡ l.place;
}
