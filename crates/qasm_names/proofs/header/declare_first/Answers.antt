use Rattle.std.proofs.Common.{arith, subst}
use Rattle.std.proofs.lemmas.List.{nil_from_length}
use Rattle.qasm_names.proofs.Including.{FirstLeft, first-start, first-step, first-end, rest_is}
use Rattle.qasm_names.proofs.header.declare_first.Goals as goal

pub loop-rest-init : goal.loop-rest-init
loop-rest-init c = λ scope r e none.
    first-start c.args.names.now scope c.args.shared.now.base c.first_table-rest.result.now (c.first_table-rest.ensures.rows scope) r e none

pub loop-rest-preserved : goal.loop-rest-preserved
loop-rest-preserved c = λ scope r e none.
    first-step c.loop-rest.names c.declare.new.names scope c.args.shared.now.base _ _
    (subst (FirstLeft c.loop-rest.names scope c.args.shared.now.base) (rest_is c.loop-rest.rest.now _ c.in-len1-up.len_at_least) (c.loop-rest.invariant scope r e none)) c.in_ok-declare.ensures

pub returns : goal.returns
returns c = λ scope r e none.
    first-end c.loop-rest.names scope c.args.shared.now.base
    (subst (FirstLeft c.loop-rest.names scope c.args.shared.now.base) (nil_from_length c.loop-rest.rest.now (omega (arith, c.in_default.len_below))) (c.loop-rest.invariant scope r e none))
