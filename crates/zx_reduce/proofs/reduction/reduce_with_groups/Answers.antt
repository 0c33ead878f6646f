-- What is left once no move is, and the groups of gates that were there from the beginning.
use Rattle.std.proofs.Common.{◌≡◌, refl, sym, ◌∙◌, ap, subst, map}
use Rattle.std.specs.Prelude.{Option, None, Some, is_some}
use Rattle.zx_calculus.specs.Moves.{IsStuck}
use Rattle.graph_rewrites.specs.Steps.{step_named}
use Rattle.phase_groups.specs.Groups.{Phases, FollowRun}
use Rattle.zx_reduce.specs.Internal.Ordering.{IsOrdered}
use Rattle.zx_reduce.specs.Internal.Progress.{Progress, Finishes}
use Rattle.zx_reduce.proofs.Completing.{completed_ordered, finishes_all, completed_reduces, completed_groups}
use Rattle.zx_reduce.proofs.reduction.reduce_with_groups.Goals as goal
use Rattle.zx_reduce.proofs.reduction.reduce_with_groups.Goals.{In_ok-made}

pub finish-requires : goal.finish-requires
finish-requires c =
    let is = c.in_ok-ended.ensures in
    record {
      ordered = subst (λ (p : Progress). IsOrdered p.ordered) (sym c.take_phases-groups.ensures.forgotten)
          (completed_ordered is.begun c.in_ok-ended.ended is.completes is.begins.ordered);
      stuck = subst (λ (p : Progress). IsStuck p.ordered.graph) (sym c.take_phases-groups.ensures.forgotten) is.completes.stuck;
    }

finished : (c : In_ok-made) → Finishes c.in_ok-ended.ended c.in_ok-made.made.graph.graph c.in_ok-made.made.flow.flow c.in_ok-made.made.trace.steps c.in_ok-made.made.scalar
finished c =
    let made = c.in_ok-made.made in
    finishes_all c.in_ok-ended.ended None made.graph.graph made.flow.flow made.trace.steps made.scalar
    (subst (λ p. Finishes p made.graph.graph made.flow.flow made.trace.steps made.scalar) c.take_phases-groups.ensures.forgotten c.in_ok-made.ensures)

-- the groups at the end
followed : (c : In_ok-made) → (y : Phases) × (c.in_ok-ended.ended.phases ≡ Some y)
    × FollowRun c.args.graph.graph (map step_named c.in_ok-made.made.trace.steps) c.in_ok-made.made.graph.graph c.args.groups y
followed c =
    let made = c.in_ok-made.made in
    completed_groups c.args.graph.graph (Some c.args.groups) c.in_ok-ended.ended made.graph.graph made.flow.flow made.trace.steps made.scalar c.in_ok-ended.ensures (finished c) c.args.groups refl

pub unwrap-requires : goal.unwrap-requires
unwrap-requires c = ap is_some (c.take_phases-groups.ensures.phases ∙ (followed c).1)

the_same : (x y : Phases) → Some x ≡ Some y → x ≡ y
the_same x y same = ap (λ (o : Option Phases). elim o [ None ↦ x | Some z ↦ z ]) same

pub returns : goal.returns
returns c =
    let made = c.in_ok-made.made in
    let before : In_ok-made = (goal.at.returns c).In_ok-made in
    record {
      reduces = completed_reduces c.args.graph.graph (Some c.args.groups) c.in_ok-ended.ended made.graph.graph made.flow.flow made.trace.steps made.scalar c.in_ok-ended.ensures (finished before);
      groups = subst (FollowRun c.args.graph.graph (map step_named made.trace.steps) made.graph.graph c.args.groups)
          (the_same (followed before).0 c.unwrap.result (sym (followed before).1 ∙ sym c.take_phases-groups.ensures.phases ∙ c.unwrap.ensures)) (followed before).2;
    }
