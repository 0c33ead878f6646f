use Rattle.std.proofs.Common.{◌≡◌, [], length, map, not, sym, ap, ◌∙◌, arith}
use Rattle.std.specs.List.{list_any}
use Rattle.std.proofs.lemmas.Bool.Decides.{nat_tests}
use Rattle.std.proofs.lemmas.List.{nil_from_length}
use Rattle.qasm_scope.specs.Measurements.{holds_any, qubits_of}
use Rattle.qasm_unroll.specs.Internal.Spans.{span_range}
use Rattle.qasm_unroll.proofs.MeasuringLemmas.{any-holds-members, none-held}
use Rattle.qasm_unroll.proofs.measured.Measured.has_any_qubit.Goals as goal

pub returns-then-not-is_empty : goal.returns-then-not-is_empty
returns-then-not-is_empty c = λ remembers. c.any_holds.ensures ∙ any-holds-members (map span_range c.args.spans.now) _ _ remembers.qubits

pub returns-else-not-is_empty : goal.returns-else-not-is_empty
returns-else-not-is_empty c = λ remembers.
    let zero : length c.as_slice.result.now ≡ 0 = grind (arith, nat_tests, c.is_empty.ensures, c.if-not-is_empty.false) in
    let none : c.args.self.now.list ≡ [] = sym c.as_slice.ensures ∙ nil_from_length c.as_slice.result.now zero in
    ap not c.if-not-is_empty.false ∙ sym (ap (λ ms. list_any (holds_any (qubits_of ms)) (map span_range c.args.spans.now)) none ∙ none-held (map span_range c.args.spans.now))
