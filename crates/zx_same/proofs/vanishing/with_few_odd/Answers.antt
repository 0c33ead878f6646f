-- Circuits of one map, one after the other.
use Rattle.std.proofs.Common.{sym, subst}
use Rattle.zx_same.specs.Internal.Vanishing.{HaveOneMap}
use Rattle.zx_same.proofs.OneMaps.{one_map_refl, one_map_trans}
use Rattle.zx_same.proofs.vanishing.with_few_odd.Goals as goal

pub loop-round-init : goal.loop-round-init
loop-round-init c = subst (HaveOneMap c.args.circuit.now) (sym c.in_ok-current.ensures) (one_map_refl c.args.circuit.now)

pub loop-round-preserved : goal.loop-round-preserved
loop-round-preserved c =
    one_map_trans c.args.circuit.now c.loop-round.current c.in-Some.made c.loop-round.invariant
    (rw c.in-Some.is at c.in_ok-made.ensures)
