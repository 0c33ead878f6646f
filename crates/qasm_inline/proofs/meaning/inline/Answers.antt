-- One statement more, and what the answer says of all.
use Rattle.std.proofs.Common.{◌+◌, map, take, sym, subst}
use Rattle.qasm_reader.specs.Views.{statement_of, statements_of}
use Rattle.qasm_unroll.specs.Circuits.{HasTaken, IsCircuitAnswer}
use Rattle.qasm_unroll.proofs.CircuitLemmas.{next-taken}
use Rattle.qasm_inline.proofs.AnswerLemmas.{all-taken, faultless-from, means-from, valid-from, fault-from, refused-from}
use Rattle.qasm_inline.proofs.meaning.inline.Goals as goal

pub loop-element-preserved : goal.loop-element-preserved
loop-element-preserved c =
    let i = c.loop-element.element-index in
    let same = c.deref-element-items.ensures.value in
    subst (λ es. HasTaken c.take.new.circuit (map statement_of (take (i + 1) es))) same
    (subst (HasTaken c.take.new.circuit) (next-taken statement_of c.deref-element-items.result.now i c.element-item.result c.loop-element-test.true c.element-item.is)
    (c.take.ensures _ (subst (λ es. HasTaken c.loop-element.circuit (map statement_of (take i es))) (sym same) c.loop-element.invariant)))

pub returns : goal.returns
returns c =
    let program = statements_of c.args.program.now in
    let taken = all-taken c.loop-element.circuit c.deref-element-items.result.now c.args.program.now.elements.items c.loop-element.element-index
    c.deref-element-items.ensures.value c.loop-element-test.false c.loop-element.invariant in
    let answer : IsCircuitAnswer program c.finish.result = c.finish.ensures program taken in
    record {
      faultless = faultless-from program c.finish.result answer;
      means = means-from program c.finish.result answer;
      valid = valid-from program c.finish.result answer;
      fault = fault-from program c.finish.result answer;
      refused = refused-from program c.finish.result answer;
    }
