-- One insertion more.
use Rattle.zx_identities.proofs.Inserted.{one_more}
use Rattle.zx_identities.proofs.inserting.with_one.Goals as goal

pub returns-clause-rescaled : goal.returns-clause-rescaled
returns-clause-rescaled c =
    one_more c.args.made c.in-Some.new.gates c.in-Some.new.scalar c.in-Some-product.scalar (rw c.in-Some.is at c.in_ok-new.ensures.qubits)
    (rw c.in-Some.is at c.in_ok-new.ensures.scaled) c.in-Some-product.ensures.value
