-- The scalars multiply.
use Rattle.std.proofs.Common.{arith}
use Rattle.zx_gates.proofs.Passing.{implements_preserved, product_fits}
use Rattle.zx_optimise.specs.Internal.Candidates.{most_whole_root2}
use Rattle.zx_optimise.proofs.optimiser.shrunk.Goals as goal

pub returns : goal.returns
returns c = λ read is.
    let e = c.in_ok-made.ensures in
    record { kept = implements_preserved is.kept e.kept c.times.ensures (omega arith); tidy = e.tidy }

pub times-requires : goal.times-requires
times-requires c = product_fits most_whole_root2 c.args.candidate.now.scalar c.requires c.in_ok-made.ensures.kept (omega arith)
