-- What the call comes to, on these qubits.
use Rattle.std.proofs.Common.{◌≡◌, ◌+◌, ◌++◌, ◌≤◌, [], ◌∷◌, length, map, sym, ap, ap₂, ◌∙◌, arith}
use Rattle.std.proofs.lemmas.Bool.Decides.{nat_tests}
use Rattle.std.proofs.lemmas.List.{length-map}
use Rattle.qasm_unroll.specs.Internal.KeptCalls.{renamed}
use Rattle.qasm_unroll.specs.Internal.KnownCalls.{at, known_of}
use Rattle.qasm_unroll.specs.Internal.Spans.{cut_instance, cut_element_at, span_range}
use Rattle.qasm_unroll.proofs.KnownLemmas.{copied-call}
use Rattle.qasm_unroll.proofs.unroll.Unrolled.copy_instance.Goals as goal

pub returns-clause-copied : goal.returns-clause-copied
returns-clause-copied c = λ copied numbered gates count unrolls known.
    let ranges = map span_range c.args.spans.now in
    let called_on = cut_instance ranges c.args.index in
    let kept = c.in-Some.kept.now in
    let none : length c.args.angles.now ≡ 0 = grind (arith, nat_tests, c.is_empty.ensures, c.if-not-is_empty.false) in
    let there = ap (λ list. known_of list c.args.called) (sym c.deref.ensures.value) ∙ c.in-Some.ensures in
    let few : length called_on ≤ 4 = omega (arith, length-map ranges (cut_element_at c.args.index), length-map c.args.spans.now span_range, c.if-spans-gt-WIDEST.false) in
    let calls : c.saturating_add-calls.result ≡ c.args.self.now.calls + kept.calls = omega (arith, c.saturating_add-calls.ensures, c.if-calls-gt-MOST_CALLS.false) in
    let qubits : c.deref-2.result.now ≡ 0 ∷ called_on =
    c.deref-2.ensures.value ∙ c.in_ok-push_instance.ensures ∙ ap (λ qs. qs ++ called_on) (c.in_ok-push.ensures.items ∙ ap (λ qs. qs ++ 0 ∷ []) c.clear.ensures.items) in
    copied-call gates numbered count c.args.called c.args.angles.now c.args.self.now.known.items kept called_on c.args.self.now.calls c.saturating_add-calls.result c.args.self.now.gates c.push_placed.new.placed
    unrolls known none there few calls c.if-calls-gt-MOST_CALLS.false
    (c.in_ok-push_placed.ensures ∙ ap₂ (λ qs gs. c.args.self.now.gates ++ map (renamed (at qs)) gs) qubits c.as_slice.ensures)
