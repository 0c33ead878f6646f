use Rattle.std.proofs.Common.{IfSome}
use Rattle.gflow_laws.specs.Seen.{seen}
use Rattle.flow_find.specs.Internal.Next.{IsAlone}
use Rattle.flow_find.proofs.cheap.cheapest.Given as goal

abbrev pub invariant-loop-row : goal.invariant-loop-row
invariant-loop-row l = IfSome l.best (λ v. IsAlone (seen l.g.graph) l.rows v)
