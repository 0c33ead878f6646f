use Rattle.std.proofs.Common.{◌≡◌, ◌-◌, [], Err, length, map, refl, ap, sym, subst, ◌∙◌, arith}
use Rattle.std.specs.List.{flat_map, range_with_len}
use Rattle.std.proofs.lemmas.Result.{err_from_is_err_and}
use Rattle.qasm_scope.specs.Applications.{register_sizes}
use Rattle.qasm_unroll.specs.Internal.KeptCalls.{called_events, values_of}
use Rattle.qasm_unroll.specs.Internal.KnownCalls.{AreKnown}
use Rattle.qasm_unroll.specs.Internal.Spans.{span_range, cut_instance, instance_count}
use Rattle.qasm_names.specs.declared.statement_error.StatementError.TheVariants.{Wrong}
use Rattle.qasm_unroll.proofs.InstanceLemmas.{flat-map, no-instance, Continues-instance, wrong-instance}
use Rattle.qasm_unroll.proofs.KnownLemmas.{Continues-learnt}
use Rattle.qasm_unroll.proofs.Unrolling.{Continues-same, Continues-join}
use Rattle.qasm_unroll.proofs.instances.call_instances.Goals as goal

pub loop-index-init : goal.loop-index-init
loop-index-init c = record {
  known = refl;
  leads = λ numbered unrolls known.
      let n : instance_count (register_sizes (map span_range c.args.spans.now)) ≡ c.instance_count-index-end.result - 0 = omega (arith, c.instance_count-index-end.ensures) in
      Continues-learnt _ c.args.unrolled.now c.learn.new.self _ _ c.in_ok-learn.ensures.others
      (flat-map (called_events numbered c.args.called 1 (values_of c.args.angles.now [])) (cut_instance (map span_range c.args.spans.now)) _
      ∙ ap (λ n. flat_map (λ index. called_events numbered c.args.called 1 (values_of c.args.angles.now []) (cut_instance (map span_range c.args.spans.now) index)) (range_with_len 0 n)) n);
}

pub returns-in_err-instance-clause-err : goal.returns-in_err-instance-clause-err
returns-in_err-instance-clause-err c = λ cause numbered e unrolls known.
    let p = err_from_is_err_and c.from_residual-in_err-instance.result c.from_residual-in_err-instance.ensures.1 in
    let same : c.instance.result ≡ Err (Wrong cause) = c.in_err-instance.was ∙ ap Err (sym p.2) ∙ sym p.1 ∙ e in
    wrong-instance _ _ _ _ _ _ (λ index. called_events numbered c.args.called 1 (values_of c.args.angles.now []) (cut_instance (map span_range c.args.spans.now) index)) _ _ cause
    c.loop-index-test.true (c.loop-index.invariant.leads numbered unrolls (c.in_ok-learn.ensures.known numbered unrolls known))
    (c.instance.ensures.err cause same numbered unrolls)

pub loop-index-preserved : goal.loop-index-preserved
loop-index-preserved c = record {
  known = c.instance.ensures.known ∙ c.loop-index.invariant.known;
  leads = λ numbered unrolls known.
      Continues-instance _ _ _ _ _ _ _ _ (λ index. called_events numbered c.args.called 1 (values_of c.args.angles.now []) (cut_instance (map span_range c.args.spans.now) index)) _ _
      c.loop-index-test.true (c.loop-index.invariant.leads numbered unrolls known)
      (c.in_ok-instance.ensures.ok numbered (length c.args.gates.now) unrolls (subst (λ k. AreKnown numbered (length c.args.gates.now) k.items) (sym c.loop-index.invariant.known) known));
}

pub returns-clause-ok : goal.returns-clause-ok
returns-clause-ok c = λ numbered unrolls known.
    Continues-join _ _ _ _ _ _ _ _ _ _ (c.loop-index.invariant.leads numbered unrolls (c.in_ok-learn.ensures.known numbered unrolls known))
    (Continues-same _ _ _ _ _ (no-instance (λ index. called_events numbered c.args.called 1 (values_of c.args.angles.now []) (cut_instance (map span_range c.args.spans.now) index)) c.loop-index.index c.instance_count-index-end.result (omega (arith, c.loop-index-test.false))))

pub returns-clause-known : goal.returns-clause-known
returns-clause-known c = λ numbered unrolls known.
    subst (λ k. AreKnown numbered (length c.args.gates.now) k.items) (sym c.loop-index.invariant.known) (c.in_ok-learn.ensures.known numbered unrolls known)
