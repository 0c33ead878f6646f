-- Behind the links no gate is on the gate's qubits.
use Rattle.std.proofs.Common.{sym, ap, ◌∙◌, arith, subst, ℕ}
use Rattle.zx_peephole.specs.Internal.Stops.{stops, IsFreeBetween}
use Rattle.zx_peephole.proofs.WalkLemmas.{free_behind, free_here, nearest_before, nearest_left}
use Rattle.zx_peephole.proofs.LeftLemmas.{read_at}
use Rattle.zx_peephole.proofs.finding.last_stop.Goals as goal

pub returns-then-stops-clause-found : goal.returns-then-stops-clause-found
returns-then-stops-clause-found c =
    let before = nearest_before c.args.work.now.gates.items c.args.gate.now c.loop-place.walk c.in-Some.place c.loop-place.invariant.walk c.in-Some.ensures.found in
    record {
      before = omega (arith, before, c.loop-place.invariant.within);
      left = nearest_left c.args.work.now.gates.items c.args.gate.now c.loop-place.walk c.in-Some.place c.loop-place.invariant.walk c.in-Some.ensures.found;
      stopped =
          ap (stops c.args.gate.now) (sym (read_at c.args.work.now.gates.items c.in-Some.place c.index.result.now
          (omega (arith, before, c.loop-place.invariant.within, c.requires.within, c.requires.sound.places.within)) c.index.ensures))
          ∙ sym c.stops.ensures ∙ c.if-stops.true;
      free = free_behind c.args.work.now.gates.items c.args.gate.now c.loop-place.walk c.in-Some.place c.args.start.place
          c.loop-place.invariant.walk c.in-Some.ensures.found c.loop-place.invariant.free;
    }

pub loop-place-preserved : goal.loop-place-preserved
loop-place-preserved c =
    let gates = c.args.work.now.gates.items in
    let gate = c.args.gate.now in
    let place = c.in-Some.place in
    let before = nearest_before gates gate c.loop-place.walk place c.loop-place.invariant.walk c.in-Some.ensures.found in
    record {
      within = omega (arith, before, c.loop-place.invariant.within, c.pass-walk.ensures.place);
      walk = c.pass-walk.ensures.walk;
      free = subst (λ (m : ℕ). IsFreeBetween gates gate m c.args.start.place) (sym c.pass-walk.ensures.place)
          (free_here gates gate place c.args.start.place
          (ap (stops gate) (sym (read_at gates place c.index.result.now
          (omega (arith, before, c.loop-place.invariant.within, c.requires.within, c.requires.sound.places.within)) c.index.ensures))
          ∙ sym c.stops.ensures ∙ c.if-stops.false)
          (free_behind gates gate c.loop-place.walk place c.args.start.place c.loop-place.invariant.walk c.in-Some.ensures.found c.loop-place.invariant.free));
    }
