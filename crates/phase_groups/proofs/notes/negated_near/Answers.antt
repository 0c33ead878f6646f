-- One neighbour more.
use Rattle.std.proofs.Common.{sym, ◌∙◌, ap, ◌++◌, ◌∷◌, [], ◌&&◌, eqb, append-nil}
use Rattle.zx_model.specs.Bits.{member}
use Rattle.zx_calculus.specs.Graph.{neighbours}
use Rattle.zx_calculus.proofs.Toggling.{Distinct-neighbours, neighbour_live}
use Rattle.open_graph.proofs.Walks.{next_some, next_none, next_there, next_all, member-toggled}
use Rattle.graph_rewrites.specs.Steps.{step_named}
use Rattle.teleport_laws.specs.Shifts.{negates}
use Rattle.phase_groups.specs.Internal.Noting.{stands_odd}
use Rattle.phase_groups.proofs.Negating.{negated_more, negated_all}
use Rattle.phase_groups.proofs.notes.negated_near.Goals as goal

pub add_if_negated-requires-in-loop-v-clause-live : goal.add_if_negated-requires-in-loop-v-clause-live
add_if_negated-requires-in-loop-v-clause-live c =
    neighbour_live c.args.graph.now.graph c.args.u c.in-Some.v
    (next_there c.loop-v.yielded c.loop-v.v-iterator c.next.new.self (neighbours c.args.graph.now.graph c.args.u) c.in-Some.v c.loop-v.invariant.all
    (next_some c.next.result c.loop-v.v-iterator c.next.new.self c.in-Some.v c.next.ensures.steps c.in-Some.is))

pub loop-v-preserved : goal.loop-v-preserved
loop-v-preserved c =
    let comes = next_some c.next.result c.loop-v.v-iterator c.next.new.self c.in-Some.v c.next.ensures.steps c.in-Some.is in
    let near = neighbours c.args.graph.now.graph c.args.u in
    let n = negates c.args.graph.now.graph (step_named c.args.step.now) in
    record {
      all = next_all c.loop-v.yielded c.loop-v.v-iterator c.next.new.self near c.in-Some.v c.loop-v.invariant.all comes;
      so_far = λ w. negated_more n (λ x. eqb x c.args.u && n c.args.u) (λ x. member x c.loop-v.yielded) (λ x. member x (c.loop-v.yielded ++ c.in-Some.v ∷ []))
          (stands_odd c.loop-v.found.items) (stands_odd c.add_if_negated-in-loop-v.new.found.items) c.in-Some.v w
          (member-toggled c.loop-v.yielded c.loop-v.v-iterator c.next.new.self near c.in-Some.v w (Distinct-neighbours c.args.graph.now.graph c.args.u c.neighbours-v-items.ensures.valid) c.loop-v.invariant.all comes)
          (c.loop-v.invariant.so_far w) (c.in_ok-add_if_negated-2.ensures w);
    }

pub returns : goal.returns
returns c = λ v.
    negated_all c.args.graph.now.graph (negates c.args.graph.now.graph (step_named c.args.step.now)) c.args.u v (stands_odd c.loop-v.found.items v) c.loop-v.yielded
    c.neighbours-v-items.ensures.valid
    (sym (append-nil c.loop-v.yielded) ∙ ap (λ xs. c.loop-v.yielded ++ xs) (sym (next_none c.next.result c.loop-v.v-iterator c.next.new.self c.next.ensures.steps c.in-None.is)) ∙ c.loop-v.invariant.all)
    (c.loop-v.invariant.so_far v)
