-- The digits below the lowest 1 are a power of 2.
use Rattle.qasm_angle.proofs.BinaryLemmas.{halved_number}
use Rattle.qasm_angle.proofs.fraction.halves_of.Goals as goal

pub returns-clause-value : goal.returns-clause-value
returns-clause-value c = (halved_number c.args.number c.requires c.ranges.number.fits).0

pub returns-clause-odd : goal.returns-clause-odd
returns-clause-odd c = (halved_number c.args.number c.requires c.ranges.number.fits).1
