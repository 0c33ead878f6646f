-- What is toggled in the set is its change.
use Rattle.std.proofs.Common.{◌∙◌, sym}
use Rattle.zx_calculus.proofs.Positions.{on_ok}
use Rattle.gflow_laws.specs.Flow.{set_of}
use Rattle.zx_flow.proofs.Toggles.{IsToggledAt-list}
use Rattle.zx_flow.proofs.Clearing.{own_stays, holder_toggled, other_stays}
use Rattle.zx_flow.proofs.flow.Flow.clear.Goals as goal

pub returns-then-eq-clause-sets : goal.returns-then-eq-clause-sets
returns-then-eq-clause-sets c =
    own_stays c.args.u c.args.v (set_of c.args.self.now.flow c.args.u) c.args.self.now.flow (sym c.eq.ensures ∙ c.if-eq.true)

pub returns-then-has-clause-sets : goal.returns-then-has-clause-sets
returns-then-has-clause-sets c =
    on_ok c.toggle_set.result
    (λ same. holder_toggled c.args.u c.args.v (set_of c.args.self.now.flow c.args.u) c.args.self.now.flow c.toggle_set.new.self.flow
    (sym c.eq.ensures ∙ c.if-eq.false) (sym c.has.ensures ∙ c.if-has.true)
    (IsToggledAt-list c.args.v (set_of c.args.self.now.flow c.args.u) c.args.self.now.flow c.toggle_set.new.self.flow
    c.requires.v_there same))
    c.toggle_set.ensures.ok

pub returns-else-has-clause-sets : goal.returns-else-has-clause-sets
returns-else-has-clause-sets c =
    other_stays c.args.u c.args.v (set_of c.args.self.now.flow c.args.u) c.args.self.now.flow
    (sym c.eq.ensures ∙ c.if-eq.false) (sym c.has.ensures ∙ c.if-has.false)
