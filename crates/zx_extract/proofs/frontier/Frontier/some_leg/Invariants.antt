-- Some leg of the first outputs.
use Rattle.std.proofs.Common.{◌≡◌, ℕ, ◌<◌, true}
use Rattle.std.specs.Prelude.{MatchOption}
use Rattle.zx_model.specs.Bits.{member}
use Rattle.zx_calculus.specs.Graph.{joined, end_vertices}
use Rattle.circuit_laws.specs.Peeling.{HasPlainOutput}
use Rattle.zx_extract.specs.Internal.Steps.{IsSpareLeg}
use Rattle.zx_extract.proofs.frontier.Frontier.some_leg.Given as goal

abbrev pub invariant-loop-q : goal.invariant-loop-q
invariant-loop-q l =
    MatchOption l.some
    ((p u : ℕ) → p < l.q → HasPlainOutput l.self.graph.graph p u → joined l.self.graph.graph.edges l.v u ≡ true →
    member u (end_vertices l.self.graph.graph.inputs) ≡ true)
    (λ z. IsSpareLeg l.self.graph.graph l.v z)
