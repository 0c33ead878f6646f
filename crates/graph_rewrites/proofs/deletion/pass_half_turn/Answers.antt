-- Where the vertex has a half turn, its neighbours get one.
use Rattle.std.proofs.Common.{◌∙◌, ap, ap₂, sym, ℕ, eqb, eqb-true}
use Rattle.std.specs.Prelude.{pos}
use Rattle.zx_calculus.specs.Graph.{Kind}
use Rattle.zx_calculus.specs.Scalars.{root_of_two_to}
use Rattle.graph_rewrites.proofs.ComplementSteps.{half_turn_passed, no_half_turn_passed, scalar_of_half_turn, scalar_of_no_turn}
use Rattle.graph_rewrites.proofs.deletion.pass_half_turn.Goals as goal

pub returns-then-eq-clause-turned : goal.returns-then-eq-clause-turned
returns-then-eq-clause-turned c =
    half_turn_passed c.args.g.now.graph c.turn_neighbours-powers.new.self.graph c.args.u
    c.weight-plane.ensures.valid
    (sym (ap (λ (k : Kind). k.phase) c.weight-plane.ensures.value)
    ∙ eqb-true c.weight-plane.result.1 c.half_turn.result (sym c.eq.ensures ∙ c.if-eq.true) ∙ c.half_turn.ensures)
    c.turn_neighbours-powers.ensures.ok

pub returns-then-eq-clause-scalar : goal.returns-then-eq-clause-scalar
returns-then-eq-clause-scalar c =
    c.delete_scalar.ensures
    ∙ scalar_of_half_turn c.args.g.now.graph c.args.u
    (sym (ap (λ (k : Kind). k.phase) c.weight-plane.ensures.value)
    ∙ eqb-true c.weight-plane.result.1 c.half_turn.result (sym c.eq.ensures ∙ c.if-eq.true) ∙ c.half_turn.ensures)
    _ (ap (λ (k : Kind). k.plane) c.weight-plane.ensures.value) _ c.turn_neighbours-powers.ensures.power

pub returns-else-eq-clause-turned : goal.returns-else-eq-clause-turned
returns-else-eq-clause-turned c =
    no_half_turn_passed c.args.g.now.graph c.args.u
    (ap₂ eqb (sym (ap (λ (k : Kind). k.phase) c.weight-plane.ensures.value)) (sym c.half_turn.ensures) ∙ sym c.eq.ensures
    ∙ c.if-eq.false)

pub returns-else-eq-clause-scalar : goal.returns-else-eq-clause-scalar
returns-else-eq-clause-scalar c =
    ap (λ (k : ℕ). record (root_of_two_to (pos 2)) { turn = k }) c.new.ensures
    ∙ scalar_of_no_turn c.args.g.now.graph c.args.u
    (ap₂ eqb (sym (ap (λ (k : Kind). k.phase) c.weight-plane.ensures.value)) (sym c.half_turn.ensures) ∙ sym c.eq.ensures
    ∙ c.if-eq.false)
