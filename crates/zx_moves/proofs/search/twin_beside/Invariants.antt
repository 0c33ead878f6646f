-- The vertices that were looked at, which are no twins, and what is told of a word of them.
use Rattle.std.proofs.Common.{◌≡◌, ◌++◌, ℕ, true, false}
use Rattle.zx_model.specs.Bits.{member}
use Rattle.zx_calculus.specs.Graph.{neighbours}
use Rattle.zx_moves.specs.Internal.Searching.{is_twin, TellsTwins}
use Rattle.zx_moves.proofs.search.twin_beside.Given as goal

abbrev pub invariant-loop-v : goal.invariant-loop-v
invariant-loop-v l = record {
  all : l.yielded ++ l.v-iterator ≡ neighbours l.g.graph l.fn.near;
  passed : (w : ℕ) → member w l.yielded ≡ true → is_twin l.g.graph l.fn.u w ≡ false;
  tells : TellsTwins l.g.graph l.fn.u l.index l.beside;
}
