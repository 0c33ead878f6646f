-- The laws, by their lemmas.
use Rattle.gflow_laws.proofs.Lists.{is_in-symmetric_difference}
use Rattle.gflow_laws.proofs.Views.{Simple-seen}
use Rattle.gflow_laws.proofs.Complements.{Alike-complement}
use Rattle.gflow_laws.proofs.Pivots.{Alike-pivot}
use Rattle.gflow_laws.proofs.laws.parts_of_the_tables.Goals as goal

pub returns-clause-difference : goal.returns-clause-difference
returns-clause-difference c = is_in-symmetric_difference

pub returns-clause-pivot : goal.returns-clause-pivot
returns-clause-pivot c = λ g u v h wf step. Alike-pivot g u v h (Simple-seen g wf) step

pub returns-clause-local_complement : goal.returns-clause-local_complement
returns-clause-local_complement c = Alike-complement
