-- One input more.
use Rattle.std.proofs.Common.{◌∙◌, sym, ap, subst, eqb, add-one, arith}
use Rattle.zx_model.specs.Bits.{xor, member}
use Rattle.zx_calculus.specs.Graph.{End, end_vertices}
use Rattle.flow_check.proofs.SetLemmas.{IsSoFar, end_toggled, none_toggled, all_toggled}
use Rattle.flow_check.proofs.conditions.input_set.Goals as goal

pub loop-end-init : goal.loop-end-init
loop-end-init c =
    subst (λ l. IsSoFar c.inputs-end-items.result.now 0 l) (sym c.new-set.ensures)
    (none_toggled c.args.g.now.graph c.inputs-end-items.result.now c.inputs-end-items.ensures.valid c.inputs-end-items.ensures.value)

pub loop-end-preserved : goal.loop-end-preserved
loop-end-preserved c =
    rw add-one (end_toggled c.inputs-end-items.result.now c.loop-end.end-index c.end-item.result c.loop-end.set.ids c.toggle.new.self.ids
    c.loop-end-test.true c.end-item.is c.loop-end.invariant
    (λ w. c.in_ok-toggle.ensures.ok w ∙ ap (λ (e : End). xor (member w c.loop-end.set.ids) (eqb w e.vertex)) c.end.view_is))

pub returns-clause-members : goal.returns-clause-members
returns-clause-members c = λ w.
    all_toggled c.inputs-end-items.result.now c.loop-end.end-index c.loop-end.set.ids (omega arith) c.loop-end.invariant w
    ∙ ap (λ es. member w (end_vertices es)) c.inputs-end-items.ensures.value
