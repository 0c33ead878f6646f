-- The scalars multiply.
use Rattle.std.proofs.Common.{arith}
use Rattle.zx_gates.proofs.Passing.{implements_preserved, product_fits}
use Rattle.zx_optimise.specs.Internal.Candidates.{most_whole_root2}
use Rattle.zx_optimise.proofs.optimiser.fewer.Goals as goal

pub returns-in-Some : goal.returns-in-Some
returns-in-Some c = λ read is.
    record {
      kept = implements_preserved is.kept (rw c.in-Some.is at c.in_ok-made.ensures.kept) c.times.ensures (omega arith);
      tidy = rw c.in-Some.is at c.in_ok-made.ensures.tidy;
    }

pub times-requires : goal.times-requires
times-requires c =
    product_fits most_whole_root2 c.args.candidate.now.scalar c.requires
    (rw c.in-Some.is at c.in_ok-made.ensures.kept) (omega arith)
