-- A copy, or the calls one by one.
use Rattle.std.proofs.Common.{[], subst}
use Rattle.std.proofs.lemmas.Result.{on_ok_weaker}
use Rattle.qasm_unroll.specs.Internal.KeptCalls.{ComesTo, StopsAt}
use Rattle.qasm_unroll.specs.Internal.Spans.{instance_events}
use Rattle.qasm_unroll.proofs.unroll.Unrolled.instance.Goals as goal

pub returns-then-branch-clause-ok : goal.returns-then-branch-clause-ok
returns-then-branch-clause-ok c = λ numbered count unrolls known.
    c.in_ok-copy_instance.ensures.copied c.if-branch.true numbered c.args.gates.now count unrolls known

pub returns-clause-ok : goal.returns-clause-ok
returns-clause-ok c = on_ok_weaker c.unroll_instance.result
    (λ h numbered count unrolls known.
    subst (λ u. ComesTo u (instance_events c.args.called c.args.angles.now c.args.spans.now c.args.index numbered) c.unroll_instance.new.self [])
    (c.in_ok-copy_instance.ensures.left c.if-branch.false) (h numbered unrolls))
    c.unroll_instance.ensures.ok

pub returns-clause-err : goal.returns-clause-err
returns-clause-err c = λ cause e.
    subst (λ u. StopsAt c.args.gates.now u (instance_events c.args.called c.args.angles.now c.args.spans.now c.args.index) cause)
    (c.in_ok-copy_instance.ensures.left c.if-branch.false) (c.unroll_instance.ensures.err cause e)
