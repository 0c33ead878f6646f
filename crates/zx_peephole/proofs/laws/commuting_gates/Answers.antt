use Rattle.zx_peephole.proofs.CommutingLemmas.{commutes_commute}
use Rattle.zx_peephole.proofs.laws.commuting_gates.Goals as goal

pub returns-clause-maps : goal.returns-clause-maps
returns-clause-maps c = λ g h commute f. commutes_commute g h commute f
