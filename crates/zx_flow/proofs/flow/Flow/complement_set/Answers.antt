-- What is toggled in the set is its change.
use Rattle.std.proofs.Common.{◌∙◌, sym, [], ◌∷◌}
use Rattle.zx_calculus.proofs.Positions.{on_ok}
use Rattle.gflow_laws.specs.Flow.{set_of}
use Rattle.gflow_laws.proofs.TableSteps.{beside_toggled, beside_toggled_too}
use Rattle.zx_flow.proofs.Toggles.{IsToggledAt-list, toggled_listed}
use Rattle.zx_flow.proofs.Beside.{beside_of, own_stays_beside, even_stays}
use Rattle.zx_flow.proofs.flow.Flow.complement_set.Goals as goal

pub returns-then-eq-clause-sets : goal.returns-then-eq-clause-sets
returns-then-eq-clause-sets c = λ s plane parity.
    own_stays_beside s c.args.u c.args.v (set_of c.args.self.now.flow c.args.u) c.args.self.now.flow (sym c.eq.ensures ∙ c.if-eq.true)

pub returns-then-not-is_odd-clause-sets : goal.returns-then-not-is_odd-clause-sets
returns-then-not-is_odd-clause-sets c = λ s plane parity.
    even_stays s c.args.u c.args.v (set_of c.args.self.now.flow c.args.u) c.args.self.now.flow (sym c.eq.ensures ∙ c.if-eq.false)
    (sym parity ∙ c.if-not-is_odd.true)

pub toggle_one-requires : goal.toggle_one-requires
toggle_one-requires c =
    toggled_listed c.args.v (set_of c.args.self.now.flow c.args.u) c.args.self.now.flow c.toggle_set.new.self.flow c.requires.v_there
    c.in_ok-toggle_set.ensures.ok

pub returns-then-changes-clause-sets : goal.returns-then-changes-clause-sets
returns-then-changes-clause-sets c = λ s plane parity.
    let own = set_of c.args.self.now.flow c.args.u in
    beside_of s c.args.u c.args.v own c.args.self.now.flow c.toggle_set.new.self.flow (sym c.eq.ensures ∙ c.if-eq.false)
    (beside_toggled s c.args.u c.args.v own c.args.self.now.flow c.toggle_set.new.self.flow
    (sym c.eq.ensures ∙ c.if-eq.false) (sym parity ∙ c.if-not-is_odd.false) (sym plane ∙ c.if-changes.true)
    (IsToggledAt-list c.args.v own c.args.self.now.flow c.toggle_set.new.self.flow c.requires.v_there
    c.in_ok-toggle_set.ensures.ok))

pub returns-else-changes-clause-sets : goal.returns-else-changes-clause-sets
returns-else-changes-clause-sets c =
    let own = set_of c.args.self.now.flow c.args.u in
    on_ok c.toggle_one.result
    (λ same s plane parity. beside_of s c.args.u c.args.v own c.args.self.now.flow c.toggle_one.new.self.flow
    (sym c.eq.ensures ∙ c.if-eq.false)
    (beside_toggled_too s c.args.u c.args.v own c.args.self.now.flow c.toggle_set.new.self.flow c.toggle_one.new.self.flow
    (sym c.eq.ensures ∙ c.if-eq.false) (sym parity ∙ c.if-not-is_odd.false) (sym plane ∙ c.if-changes.false)
    (IsToggledAt-list c.args.v own c.args.self.now.flow c.toggle_set.new.self.flow c.requires.v_there
    c.in_ok-toggle_set.ensures.ok)
    (IsToggledAt-list c.args.v (c.args.u ∷ []) c.toggle_set.new.self.flow c.toggle_one.new.self.flow
    (toggled_listed c.args.v own c.args.self.now.flow c.toggle_set.new.self.flow c.requires.v_there
    c.in_ok-toggle_set.ensures.ok) same)))
    c.toggle_one.ensures.toggled
