-- One step more, for which there is room.
use Rattle.std.proofs.Common.{sym, subst, map, length, [], add-one, IsOk, arith}
use Rattle.std.proofs.lemmas.Bool.{false≢true}
use Rattle.std.proofs.lemmas.List.{take_all}
use Rattle.zx_calculus.specs.Steps.{IsRun}
use Rattle.graph_rewrites.specs.Steps.{step_named}
use Rattle.zx_moves.proofs.MovesMade.{begun, next_allowed}
use Rattle.flow_rewrites.proofs.RoomLemmas.{room_of_step, places_after}
use Rattle.flow_rewrites.proofs.RoomKept.{places_same, places_then, step_keeps_places}
use Rattle.flow_rewrites.proofs.InPlace.{one_done, still_few}
use Rattle.flow_rewrites.proofs.SetChanges.{done_uses}
use Rattle.zx_model.specs.Scalar.{IsWithin}
use Rattle.zx_calculus.proofs.StepScalars.{step_within}
use Rattle.zx_moves.specs.Internal.Scaling.{Scales}
use Rattle.zx_moves.proofs.Scaling.{scales_none, scales_more, scales_next, scales_step, few_fit, twelve}
use Rattle.flow_rewrites.proofs.in_place.do_steps.Goals as goal

pub loop-step-init : goal.loop-step-init
loop-step-init c = record {
  way = begun c.args.g.now.graph c.args.steps.now [] c.requires.allowed;
  valid = c.requires.valid;
  flow = c.requires.flow;
  scales = subst (λ t. Scales c.args.g.now.graph 0 t c.args.g.now.graph) (sym c.one-scalar.ensures) (scales_none c.args.g.now.graph);
  places = λ n d places fits stays. places;
  kept = places_same c.args.g.now c.args.f.now;
}

pub in_place-requires-clause-allowed : goal.in_place-requires-clause-allowed
in_place-requires-clause-allowed c =
    next_allowed c.step-item.result c.loop-step.invariant.way c.loop-step-test.true c.step-item.is

pub loop-step-preserved : goal.loop-step-preserved
loop-step-preserved c =
    let done = c.in_ok-in_place.ensures.done.rewritten in
    record {
      way = rw add-one (one_done c.step-item.result c.loop-step.invariant.way c.loop-step-test.true c.step-item.is done.step);
      valid = done.valid;
      flow = done.flow;
      scales = scales_next c.loop-step.step-index c.loop-step.invariant.scales
          (scales_step c.loop-step.g.graph (step_named c.step-item.result) c.in_place.new.g.graph c.in_ok-in_place.field-0 c.loop-step.invariant.valid done.step c.in_ok-in_place.ensures.done.scalar)
          c.times-scalar.ensures;
      places = λ n d places fits stays.
          let now = c.loop-step.invariant.places n d places fits stays in
          let few = still_few n d c.loop-step.invariant.way fits stays in
          places_after n c.loop-step.g c.loop-step.f c.loop-step.invariant.valid now few (step_named c.step-item.result)
          c.in_place.new.g c.in_place.new.f done.step (done_uses c.in_ok-in_place.ensures.done);
      kept = places_then c.loop-step.invariant.kept
          (step_keeps_places (step_named c.step-item.result) c.loop-step.invariant.valid c.loop-step.invariant.flow done (done_uses c.in_ok-in_place.ensures.done));
    }

pub times-scalar-requires : goal.times-scalar-requires
times-scalar-requires c =
    few_fit c.loop-step.step-index (length c.args.steps.now) c.loop-step.scalar c.in_ok-in_place.field-0 c.requires.few c.loop-step-test.true c.loop-step.invariant.scales.small
    (subst (IsWithin 2) (sym c.in_ok-in_place.ensures.done.scalar) (step_within c.loop-step.g.graph (step_named c.step-item.result)))

pub returns-clause-scalar : goal.returns-clause-scalar
returns-clause-scalar c =
    scales_more 12 c.loop-step.invariant.scales (twelve c.loop-step.step-index (length c.args.steps.now) c.requires.few (omega arith))

pub returns-in_err-in_place-clause-has_room : goal.returns-in_err-in_place-clause-has_room
returns-in_err-in_place-clause-has_room c n d places fits stays =
    let now = c.loop-step.invariant.places n d places fits stays in
    let few = still_few n d c.loop-step.invariant.way fits stays in
    absurd (false≢true (subst IsOk c.in_err-in_place.was
    (c.in_place.ensures.has_room (room_of_step n c.loop-step.g c.loop-step.f c.loop-step.invariant.valid now few (step_named c.step-item.result)))))

pub returns-clause-run : goal.returns-clause-run
returns-clause-run c =
    subst (λ s. IsRun c.args.g.now.graph (map step_named s) c.loop-step.g.graph)
    (take_all c.loop-step.step-index c.args.steps.now (omega arith)) c.loop-step.invariant.way.run
