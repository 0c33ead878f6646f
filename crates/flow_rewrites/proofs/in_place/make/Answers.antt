-- The steps of the move, put into the trace and done.
use Rattle.std.proofs.Common.{◌∙◌, sym, ap, subst, length, length-append, IsOk, arith}
use Rattle.std.proofs.lemmas.Bool.{false≢true}
use Rattle.zx_calculus.specs.Steps.{IsRun}
use Rattle.zx_calculus.proofs.Positions.{on_ok}
use Rattle.move_laws.specs.Demand.{demand}
use Rattle.zx_moves.specs.Internal.Planning.{AreAllowed}
use Rattle.flow_rewrites.specs.Internal.Rooms.{StaysWithin}
use Rattle.flow_rewrites.proofs.DemandMoves.{move_within}
use Rattle.zx_moves.proofs.MoveSteps.{steps_allowed}
use Rattle.flow_rewrites.proofs.InPlace.{planned_steps, trace_with}
use Rattle.zx_moves.proofs.Scaling.{steps_six}
use Rattle.flow_rewrites.proofs.in_place.make.Goals as goal

pub steps_from-requires : goal.steps_from-requires
steps_from-requires c =
    let more = ap length c.in_ok-add_steps.ensures.added.trace ∙ length-append c.args.trace.now.steps c.in_ok-add_steps.ensures.added.added in
    let starts = ap length c.as_slice-start.ensures in
    omega (arith, more, starts)

pub do_steps-requires-clause-allowed : goal.do_steps-requires-clause-allowed
do_steps-requires-clause-allowed c =
    subst (AreAllowed c.args.g.now.graph)
    (sym (planned_steps (length c.as_slice-start.result.now) c.in_ok-add_steps.ensures.added (ap length c.as_slice-start.ensures) c.steps_from.ensures))
    (steps_allowed c.args.g.now.graph c.args.m.now c.requires.valid c.requires.applies c.requires.first)

pub do_steps-requires-clause-few : goal.do_steps-requires-clause-few
do_steps-requires-clause-few c =
    steps_six c.args.g.now.graph c.args.m.now c.steps_from.result.now
    (planned_steps (length c.as_slice-start.result.now) c.in_ok-add_steps.ensures.added (ap length c.as_slice-start.ensures) c.steps_from.ensures)

pub returns-clause-gains : goal.returns-clause-gains
returns-clause-gains c =
    let adds = c.in_ok-add_steps.ensures.added in
    let starts = ap length c.as_slice-start.ensures in
    let planned = planned_steps (length c.as_slice-start.result.now) adds starts c.steps_from.ensures in
    on_ok c.do_steps.result
    (λ run. record {
      gained = c.steps_from.result.now;
      trace = trace_with (length c.as_slice-start.result.now) adds starts c.steps_from.ensures;
      planned = planned;
      run = subst (λ s. IsRun c.args.g.now.graph s c.do_steps.new.g.graph) planned run;
    })
    c.do_steps.ensures.run

pub returns-in_err-add_steps-clause-has_room : goal.returns-in_err-add_steps-clause-has_room
returns-in_err-add_steps-clause-has_room c n places fits six =
    absurd (false≢true (subst IsOk c.in_err-add_steps.was (c.add_steps.ensures.has_room six)))

pub returns-clause-has_room : goal.returns-clause-has_room
returns-clause-has_room c n places fits six =
    let planned = planned_steps (length c.as_slice-start.result.now) c.in_ok-add_steps.ensures.added (ap length c.as_slice-start.ensures) c.steps_from.ensures in
    c.do_steps.ensures.has_room n (demand c.args.g.now.graph) places fits
    (subst (StaysWithin (demand c.args.g.now.graph) c.args.g.now.graph) (sym planned) (move_within c.args.g.now.graph c.args.m.now c.requires.valid))

pub returns-clause-places : goal.returns-clause-places
returns-clause-places c =
    let planned = planned_steps (length c.as_slice-start.result.now) c.in_ok-add_steps.ensures.added (ap length c.as_slice-start.ensures) c.steps_from.ensures in
    on_ok c.do_steps.result
    (λ places n there fits. places n (demand c.args.g.now.graph) there fits
    (subst (StaysWithin (demand c.args.g.now.graph) c.args.g.now.graph) (sym planned) (move_within c.args.g.now.graph c.args.m.now c.requires.valid)))
    c.do_steps.ensures.places

pub returns-clause-spare : goal.returns-clause-spare
returns-clause-spare c = on_ok c.do_steps.result (λ kept. c.in_ok-add_steps.ensures.spare) c.do_steps.ensures.room

pub returns-clause-room : goal.returns-clause-room
returns-clause-room c =
    on_ok c.do_steps.result (λ kept. record { places = kept; steps = c.in_ok-add_steps.ensures.room }) c.do_steps.ensures.room
