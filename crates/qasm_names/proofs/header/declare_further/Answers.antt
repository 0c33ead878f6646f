use Rattle.std.proofs.Common.{arith, subst, sym}
use Rattle.std.proofs.lemmas.List.{nil_from_length}
use Rattle.qasm_names.proofs.Including.{FurtherLeft, further-start, further-step, further-passed, further-end, rest_is}
use Rattle.qasm_names.proofs.header.declare_further.Goals as goal

pub loop-rest-init : goal.loop-rest-init
loop-rest-init c = λ scope r e.
    further-start c.args.names.now scope c.args.shared.now.base c.further_table-rest.result.now (c.further_table-rest.ensures scope) r e

pub loop-rest-preserved-in_ok-declare : goal.loop-rest-preserved-in_ok-declare
loop-rest-preserved-in_ok-declare c = λ scope r e.
    further-step c.loop-rest.names c.declare.new.names scope c.args.shared.now.base _ _
    (subst (FurtherLeft c.loop-rest.names scope c.args.shared.now.base) (rest_is c.loop-rest.rest.now _ c.in-len1-up.len_at_least) (c.loop-rest.invariant scope r e))
    (sym c.if-not-is_declared.ensures) c.in_ok-declare.ensures

pub loop-rest-preserved : goal.loop-rest-preserved
loop-rest-preserved c = λ scope r e.
    further-passed c.loop-rest.names scope c.args.shared.now.base _ _
    (subst (FurtherLeft c.loop-rest.names scope c.args.shared.now.base) (rest_is c.loop-rest.rest.now _ c.in-len1-up.len_at_least) (c.loop-rest.invariant scope r e)) (sym c.if-not-is_declared.ensures)

pub returns : goal.returns
returns c = λ scope r e.
    further-end c.loop-rest.names scope c.args.shared.now.base
    (subst (FurtherLeft c.loop-rest.names scope c.args.shared.now.base) (nil_from_length c.loop-rest.rest.now (omega (arith, c.in_default.len_below))) (c.loop-rest.invariant scope r e))
