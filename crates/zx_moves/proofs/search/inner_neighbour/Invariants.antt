-- The best of the neighbours so far.
use Rattle.std.proofs.Common.{◌≡◌, ◌++◌, ℕ, true, false, IfSome, IfNone}
use Rattle.zx_model.specs.Bits.{member}
use Rattle.zx_calculus.specs.Graph.{neighbours}
use Rattle.zx_calculus.specs.Complements.{may_complement}
use Rattle.zx_moves.proofs.search.inner_neighbour.Given as goal

abbrev pub invariant-loop-v : goal.invariant-loop-v
invariant-loop-v l = record {
  all : l.yielded ++ l.v-iterator ≡ neighbours l.g.graph l.fn.u;
  some : IfSome l.best (λ v. (member v (neighbours l.g.graph l.fn.u) ≡ true) × (may_complement l.g.graph v ≡ true));
  none : IfNone l.best ((v : ℕ) → member v l.yielded ≡ true → may_complement l.g.graph v ≡ false);
}
