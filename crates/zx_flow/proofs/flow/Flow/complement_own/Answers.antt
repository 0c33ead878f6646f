-- What is toggled in the set is its change.
use Rattle.std.proofs.Common.{◌∙◌, sym, [], ◌∷◌}
use Rattle.zx_calculus.proofs.Ids.{eqb-self}
use Rattle.zx_calculus.proofs.Positions.{on_ok}
use Rattle.gflow_laws.proofs.TableSteps.{own_toggled}
use Rattle.zx_flow.proofs.Toggles.{IsToggledAt-list}
use Rattle.zx_flow.proofs.Beside.{own_stays_too}
use Rattle.zx_flow.proofs.flow.Flow.complement_own.Goals as goal

pub returns-then-changes-clause-sets : goal.returns-then-changes-clause-sets
returns-then-changes-clause-sets c =
    on_ok c.toggle_one.result
    (λ same s plane own. own_toggled s c.args.u c.args.u own c.args.self.now.flow c.toggle_one.new.self.flow
    (eqb-self c.args.u) (sym plane ∙ c.if-changes.true)
    (IsToggledAt-list c.args.u (c.args.u ∷ []) c.args.self.now.flow c.toggle_one.new.self.flow c.requires same))
    c.toggle_one.ensures.toggled

pub returns-else-changes-clause-sets : goal.returns-else-changes-clause-sets
returns-else-changes-clause-sets c = λ s plane own.
    own_stays_too s c.args.u own c.args.self.now.flow (sym plane ∙ c.if-changes.false)
