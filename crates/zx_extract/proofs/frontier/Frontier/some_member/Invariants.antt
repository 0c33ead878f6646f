-- Some member of the first outputs.
use Rattle.std.proofs.Common.{◌≡◌, ℕ, ◌<◌, false}
use Rattle.std.specs.Prelude.{MatchOption}
use Rattle.circuit_laws.specs.Peeling.{HasPlainOutput}
use Rattle.zx_extract.specs.Internal.Frontiers.{remainder_of}
use Rattle.zx_extract.specs.Internal.Lists.{last_set}
use Rattle.zx_extract.specs.Internal.Steps.{IsPicked}
use Rattle.zx_extract.proofs.frontier.Frontier.some_member.Given as goal

abbrev pub invariant-loop-q : goal.invariant-loop-q
invariant-loop-q l =
    MatchOption l.some
    ((p u : ℕ) → p < l.q → HasPlainOutput l.self.graph.graph p u → last_set l.self.flow.flow u ≡ false)
    (λ q. IsPicked (remainder_of l.self) q)
