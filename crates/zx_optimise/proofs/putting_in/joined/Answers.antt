-- The scalars multiply.
use Rattle.zx_optimise.specs.Bounds.{most_root2_of_fewer}
use Rattle.zx_optimise.proofs.Made.{made-trans}
use Rattle.zx_optimise.proofs.putting_in.joined.Goals as goal

pub returns-clause-made : goal.returns-clause-made
returns-clause-made c = λ k read first second.
    made-trans k most_root2_of_fewer read c.args.middle.now c.args.made c.in_ok-scalar.scalar most_root2_of_fewer first second
    c.in_ok-scalar.ensures.value c.in_ok-scalar.ensures.within
