-- The common neighbours below a number are turned.
use Rattle.std.proofs.Common.{◌≡◌, ◌⊎◌, ◌-◌, ◌&&◌}
use Rattle.zx_model.specs.Bits.{member}
use Rattle.zx_calculus.specs.Graph.{joined, neighbours, WellFormed}
use Rattle.zx_calculus.specs.Turns.{half_turned}
use Rattle.graph_rewrites.proofs.Walks.{changed_below}
use Rattle.graph_rewrites.proofs.pivot.turn_common.Given as goal

abbrev pub invariant-turn : goal.invariant-turn
invariant-turn l = record {
  turned : let g = l.initial.g.graph in
      l.g.graph ≡ changed_below (λ p. member p (neighbours g l.u) && joined g.edges l.v p) half_turned l.start g;
  formed : (l.start ≡ 0) ⊎ WellFormed l.initial.g.graph;
  room : l.g.room ≡ l.initial.g.room;
}

abbrev pub decreases-turn : goal.decreases-turn
decreases-turn l = 18446744073709551615 - l.start
