-- The best move so far, and that no move of an earlier kind applies at the vertices so far.
use Rattle.std.proofs.Common.{◌≡◌, ℕ, ◌≤◌, ◌++◌, true, IfSome, IfNone}
use Rattle.zx_model.specs.Bits.{member}
use Rattle.zx_calculus.specs.Graph.{ids}
use Rattle.zx_moves.specs.Internal.Searching.{IsMoveAt, NoneBefore}
use Rattle.zx_moves.proofs.search.next_move.Given as goal

abbrev pub invariant-loop-u : goal.invariant-loop-u
invariant-loop-u l = record {
  all : l.yielded ++ l.u-iterator ≡ ids l.g.graph.vertices;
  few : l.limit ≤ 10;
  best : IfSome l.best (IsMoveAt l.g.graph l.limit);
  nothing : IfNone l.best (l.limit ≡ 10);
  none : (u : ℕ) → member u l.yielded ≡ true → NoneBefore l.g.graph l.limit u;
}
