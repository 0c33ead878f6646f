-- One move more, for which there is room.
use Rattle.std.proofs.Common.{refl, subst, IsOk, arith}
use Rattle.std.proofs.lemmas.Bool.{false≢true}
use Rattle.zx_moves.proofs.MoveCounts.{most_moves-move}
use Rattle.zx_moves.proofs.MoveEnds.{stuck-reduced}
use Rattle.zx_moves.proofs.MovesMade.{gains_none, gains_more}
use Rattle.flow_rewrites.proofs.RoomKept.{room_same, room_then}
use Rattle.flow_rewrites.proofs.InPlace.{room_begins, six_left, room_stays}
use Rattle.zx_moves.proofs.Scaling.{few_made, scales_begin, one_more_fits, one_more_scales, all_scale}
use Rattle.flow_rewrites.proofs.in_place.reduce_in_place.Goals as goal

pub loop-found-init : goal.loop-found-init
loop-found-init c = record {
  valid = c.requires.valid;
  flow = c.requires.flow;
  gains = gains_none c.args.g.now.graph c.args.trace.now.steps 0;
  scales = scales_begin 0 c.one-scalar.ensures refl;
  room = room_begins c.args.g.now c.args.f.now c.args.trace.now c.requires.valid;
  kept = room_same c.args.g.now c.args.f.now c.args.trace.now;
  few = omega arith;
}

pub times-scalar-requires : goal.times-scalar-requires
times-scalar-requires c =
    one_more_fits c.loop-found.scalar c.in_ok-make.field-0 c.loop-found.invariant.gains c.requires.valid c.vertex_count.ensures.few c.loop-found.invariant.scales.small
    c.in_ok-make.ensures.scalar.small

pub loop-found-smaller : goal.loop-found-smaller
loop-found-smaller c =
    most_moves-move c.loop-found.g.graph c.make.new.g.graph c.in-Some.found c.loop-found.invariant.valid
    c.in-Some.ensures.found c.in_ok-make.ensures.gains.run

pub loop-found-preserved : goal.loop-found-preserved
loop-found-preserved c =
    let more = gains_more {m = c.in-Some.found} c.loop-found.invariant.gains c.in-Some.ensures.found c.in-Some.ensures.first
    c.in_ok-make.ensures.gains refl in
    record {
      valid = c.make.ensures.valid;
      flow = c.in_ok-make.ensures.flow;
      gains = more;
      scales = one_more_scales c.loop-found.invariant.gains c.loop-found.invariant.scales c.in_ok-make.ensures.scalar c.times-scalar.ensures
          refl;
      room = λ room.
          let left = c.loop-found.invariant.room room in
          room_stays c.args.g.now c.loop-found.g c.loop-found.f c.loop-found.trace c.in-Some.found c.loop-found.invariant.valid
          c.in-Some.ensures.found left c.make.new.g c.make.new.f c.make.new.trace c.in_ok-make.ensures.gains.run
          (c.in_ok-make.ensures.places _ left.places left.ids) c.in_ok-make.ensures.spare;
      kept = room_then c.loop-found.invariant.kept c.in_ok-make.ensures.room;
      few = few_made more c.requires.valid;
    }

pub returns-in_err-make-clause-has_room : goal.returns-in_err-make-clause-has_room
returns-in_err-make-clause-has_room c room =
    let left = c.loop-found.invariant.room room in
    absurd (false≢true (subst IsOk c.in_err-make.was
    (c.make.ensures.has_room _ left.places left.ids
    (six_left c.args.g.now c.loop-found.g c.loop-found.f c.loop-found.trace c.in-Some.found c.loop-found.invariant.valid
    c.in-Some.ensures.found left c.in-Some.ensures.first))))

pub returns-clause-made : goal.returns-clause-made
returns-clause-made c = record {
  reduced = stuck-reduced c.loop-found.g.graph c.loop-found.f.flow c.loop-found.invariant.valid c.loop-found.invariant.flow c.in_default.ensures.none;
  flow = c.loop-found.invariant.flow;
  moves = c.loop-found.invariant.gains;
  scalar = all_scale c.loop-found.invariant.gains c.requires.valid c.loop-found.invariant.scales;
}
