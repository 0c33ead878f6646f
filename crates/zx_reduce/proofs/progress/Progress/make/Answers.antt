-- The steps of the move one after the other, each of which is allowed.
use Rattle.std.proofs.Common.{◌≡◌, refl, sym, ◌∙◌, ap, subst, List, [], ◌∷◌, ◌++◌, ◌+◌, take, map, add-one, true≢false, arith}
use Rattle.std.proofs.Math.Seq.{take-suc}
use Rattle.std.proofs.lemmas.List.{take_all}
use Rattle.graph_rewrites.specs.declared.step.Step.{Step}
use Rattle.graph_rewrites.specs.Steps.{step_named}
use Rattle.zx_moves.specs.Moving.{steps_of}
use Rattle.zx_moves.specs.Internal.Planning.{AreAllowed}
use Rattle.zx_moves.proofs.MoveSteps.{steps_allowed}
use Rattle.zx_reduce.specs.Internal.Progress.{AreDone}
use Rattle.zx_moves.proofs.Scaling.{steps_six}
use Rattle.zx_moves.proofs.MovesMade.{next_left}
use Rattle.zx_reduce.proofs.Doing.{done_then, one_done, done_gates}
use Rattle.zx_reduce.proofs.progress.Progress.make.Goals as goal

pub loop-step-init : goal.loop-step-init
loop-step-init c =
    let adds = c.in_ok-add_steps.ensures.added in
    let planned : map step_named c.as_slice-step-items.result.now ≡ steps_of c.args.self.now.ordered.graph c.args.m.now =
    ap (map step_named) (c.as_slice-step-items.ensures ∙ adds.trace ∙ ap (λ (s : List Step). s ++ adds.added) c.new-steps.ensures) ∙ adds.named
    ∙ ap (λ g. steps_of g c.args.m.now) c.graph.ensures in
    record {
      planned = planned;
      done = refl;
      left = subst (AreAllowed c.args.self.now.ordered.graph) (sym planned)
          (steps_allowed c.args.self.now.ordered.graph c.args.m.now c.requires.valid c.requires.applies c.requires.first);
      count = omega arith;
    }

pub do_step-requires-clause-allowed : goal.do_step-requires-clause-allowed
do_step-requires-clause-allowed c =
    (next_left c.as_slice-step-items.result.now c.loop-step.step-index c.loop-step.self.ordered.graph c.step-item.result c.loop-step.invariant.left
    c.loop-step-test.true c.step-item.is).0

pub do_step-requires-clause-whole : goal.do_step-requires-clause-whole
do_step-requires-clause-whole c takes =
    absurd (true≢false (sym takes ∙ done_gates c.args.self.now _ c.loop-step.self c.loop-step.invariant.done ∙ c.requires.closed))

pub do_step-requires-clause-few : goal.do_step-requires-clause-few
do_step-requires-clause-few c =
    let six = steps_six c.args.self.now.ordered.graph c.args.m.now c.as_slice-step-items.result.now c.loop-step.invariant.planned in
    let count = c.loop-step.invariant.count in
    let below = c.loop-step-test.true in
    let few = c.requires.few in
    omega (arith, six, count, below, few)

pub loop-step-preserved : goal.loop-step-preserved
loop-step-preserved c =
    let steps = c.as_slice-step-items.result.now in
    let i = c.loop-step.step-index in
    let step = c.step-item.result in
    let done = c.in_ok-do_step.ensures in
    let longer : take (i + 1) steps ≡ take i steps ++ step ∷ [] =
    rw add-one (take-suc steps i step c.loop-step-test.true ∙ ap (λ (s : Step). take i steps ++ s ∷ []) (sym c.step-item.is)) in
    record {
      planned = c.loop-step.invariant.planned;
      done = subst (λ (s : List Step). AreDone c.args.self.now s c.do_step.new.self) (sym longer)
          (done_then c.args.self.now (take i steps) c.loop-step.self (step ∷ []) c.do_step.new.self c.loop-step.invariant.done
          (one_done c.loop-step.self step c.do_step.new.self done));
      left = rw add-one ((next_left steps i c.loop-step.self.ordered.graph step c.loop-step.invariant.left c.loop-step-test.true c.step-item.is).1
          c.do_step.new.self.ordered.graph done.step);
      count = let before = c.loop-step.invariant.count in let one = done.count in omega (arith, before, one);
    }

pub returns : goal.returns
returns c =
    let steps = c.as_slice-step-items.result.now in
    record {
      steps = steps;
      are = c.loop-step.invariant.planned;
      done = subst (λ (s : List Step). AreDone c.args.self.now s c.loop-step.self) (take_all c.loop-step.step-index steps (omega arith)) c.loop-step.invariant.done;
    }
