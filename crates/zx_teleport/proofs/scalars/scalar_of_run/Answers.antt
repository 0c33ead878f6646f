-- One step more.
use Rattle.std.proofs.Common.{◌<◌, sym, subst, length, drop_of_length-le, arith}
use Rattle.zx_model.specs.Phase.{turn, sum_of_phases}
use Rattle.zx_model.specs.Scalar.{IsWithin}
use Rattle.zx_model.specs.declared.scalar.Scalar.{Scalar}
use Rattle.zx_calculus.proofs.StepScalars.{step_within}
use Rattle.graph_rewrites.specs.Steps.{step_named}
use Rattle.zx_moves.specs.Internal.Scaling.{Scales}
use Rattle.zx_moves.proofs.Scaling.{scales_none, scales_next, scales_step}
use Rattle.zx_teleport.proofs.Running.{next_allowed, next_may_run, next_left}
use Rattle.zx_teleport.proofs.Scaling.{next_fits, all_done, twice}
use Rattle.zx_teleport.proofs.scalars.scalar_of_run.Goals as goal

pub loop-step-init : goal.loop-step-init
loop-step-init c = record {
  may = c.requires.run;
  left = λ h run. run;
  scales = subst (λ t. Scales c.args.graph.graph 0 t c.args.graph.graph) (sym c.one-scalar.ensures) (scales_none c.args.graph.graph);
  turn = subst (λ (t : Scalar). t.turn < turn) (sym c.one-scalar.ensures) (omega arith);
}

pub times-scalar-requires : goal.times-scalar-requires
times-scalar-requires c =
    next_fits c.loop-step.step-index (length c.args.steps.now) c.loop-step.scalar c.in_ok-do_in.field-0 c.requires.few c.loop-step-test.true c.loop-step.invariant.scales.small
    (subst (IsWithin 2) (sym c.in_ok-do_in.ensures.scalar) (step_within c.loop-step.graph.graph (step_named c.step-item.result)))

pub do_in-requires : goal.do_in-requires
do_in-requires c = next_allowed c.loop-step.graph.graph c.args.steps.now c.loop-step.step-index c.step-item.result c.loop-step-test.true c.step-item.is c.loop-step.invariant.may

pub loop-step-preserved : goal.loop-step-preserved
loop-step-preserved c = record {
  may = next_may_run c.loop-step.graph.graph c.args.steps.now c.loop-step.step-index c.step-item.result c.loop-step-test.true c.step-item.is c.loop-step.invariant.may
      c.do_in.new.g.graph c.in_ok-do_in.ensures.step;
  left = λ h run. next_left c.loop-step.graph.graph c.args.steps.now c.loop-step.step-index c.step-item.result c.loop-step-test.true c.step-item.is c.loop-step.invariant.may
      c.do_in.new.g.graph c.in_ok-do_in.ensures.step h (c.loop-step.invariant.left h run);
  scales = scales_next c.loop-step.step-index c.loop-step.invariant.scales
      (scales_step c.loop-step.graph.graph (step_named c.step-item.result) c.do_in.new.g.graph c.in_ok-do_in.field-0 c.loop-step.invariant.may.formed c.in_ok-do_in.ensures.step c.in_ok-do_in.ensures.scalar)
      c.times-scalar.ensures;
  turn = subst (λ (t : Scalar). t.turn < turn) (sym c.times-scalar.ensures) (low_sum c.loop-step.scalar.turn c.in_ok-do_in.field-0.turn);
}
  where
    low_sum : (j k : _) → sum_of_phases j k < turn
    low_sum j k = omega arith

pub returns-clause-scalar : goal.returns-clause-scalar
returns-clause-scalar c =
    all_done c.args.graph.graph c.loop-step.graph.graph c.args.steps.now c.loop-step.step-index _ c.loop-step.scalar
    (drop_of_length-le c.args.steps.now c.loop-step-test.false) c.loop-step.invariant.scales c.loop-step.invariant.left

pub returns-clause-small : goal.returns-clause-small
returns-clause-small c = twice c.loop-step.step-index (length c.args.steps.now) c.loop-step.scalar (omega arith) c.loop-step.invariant.scales.small
