use Rattle.std.proofs.Common.{◌≡◌, ◌<◌, ◌≤◌, ◌++◌, ◌∷◌, [], ℕ, length, map, take, get_or, sym, ap, ap₂, subst, ◌∙◌, arith}
use Rattle.std.specs.List.{range_with_len}
use Rattle.std.proofs.Math.Nat.{zero-add}
use Rattle.std.proofs.lemmas.List.FromFn.{get_or-range_with_len, length-range_with_len}
use Rattle.qasm_unroll.specs.Internal.KeptMeasures.{Adds, cut_measure}
use Rattle.qasm_unroll.specs.Internal.Spans.{span_range}
use Rattle.qasm_unroll.proofs.CircuitLemmas.{next-taken, take-over}
use Rattle.qasm_unroll.proofs.MeasuringLemmas.{adds-join}
use Rattle.qasm_unroll.proofs.measured.Measured.add.Goals as goal

pub loop-index-preserved : goal.loop-index-preserved
loop-index-preserved c =
    let i = c.loop-index.index in
    let n = c.span_count-index-end.result in
    let view = cut_measure (span_range c.args.from.now) (span_range c.args.to.now) in
    let within : i < n = c.loop-index-test.true in
    let more : i < length (range_with_len 0 n) = omega (arith, within, length-range_with_len 0 n) in
    let place : i ≡ get_or (range_with_len 0 n) i i = sym (get_or-range_with_len 0 n i i within ∙ zero-add i) in
    let one : record { qubit = c.instance_qubit.result; bit = c.instance_bit.result } ≡ view i = ap₂ (λ (q : ℕ) (b : ℕ). record { qubit = q; bit = b }) c.instance_qubit.ensures c.instance_bit.ensures in
    subst (Adds c.args.self.now c.push.new.self)
    (ap (λ m. map view (take i (range_with_len 0 n)) ++ m ∷ []) one ∙ next-taken view (range_with_len 0 n) i i more place)
    (adds-join _ _ _ _ _ c.loop-index.invariant c.in_ok-push.ensures)

pub returns : goal.returns
returns c =
    let i = c.loop-index.index in
    let n = c.span_count-index-end.result in
    let view = cut_measure (span_range c.args.from.now) (span_range c.args.to.now) in
    let past : n ≤ i = omega (arith, c.loop-index-test.false) in
    let over : length (range_with_len 0 n) ≤ i = omega (arith, past, length-range_with_len 0 n) in
    subst (Adds c.args.self.now c.loop-index.self)
    (ap (map view) (take-over (range_with_len 0 n) i over) ∙ ap (λ k. map view (range_with_len 0 k)) c.span_count-index-end.ensures) c.loop-index.invariant
