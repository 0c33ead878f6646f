-- What is left so far has the circuit's map.
use Rattle.zx_same.specs.Internal.Vanishing.{HaveOneMap}
use Rattle.zx_same.proofs.vanishing.with_few_odd.Given as goal

abbrev pub invariant-loop-round : goal.invariant-loop-round
invariant-loop-round l = HaveOneMap l.circuit l.current
