use Rattle.qasm_angle.proofs.BinaryLemmas.{shifted_first, shifted_second}
use Rattle.qasm_angle.proofs.fraction.gcd_of_halves.Goals as goal

pub returns-then-a-b : goal.returns-then-a-b
returns-then-a-b c =
    shifted_first _ c.args.a.twos c.args.b.twos c.args.a.odd c.args.b.odd c.gcd_of_odd-odd.ensures c.if-a-b.true c.requires.odd.0 c.requires.fits.0

pub returns-else-a-b : goal.returns-else-a-b
returns-else-a-b c =
    shifted_second _ c.args.a.twos c.args.b.twos c.args.a.odd c.args.b.odd c.gcd_of_odd-odd.ensures c.if-a-b.false c.requires.odd.1 c.requires.fits.1
