-- The laws, by their lemmas.
use Rattle.growing_laws.proofs.GrownGraphs.{grown_scalar}
use Rattle.growing_laws.proofs.growth.gates_keep_the_scalar_of_growth.Goals as goal

pub returns : goal.returns
returns c = λ new n gates h gate s on from m.
    grown_scalar n gates on new h gate s m.well_formed m.fresh from m.basic m.on_qubits
