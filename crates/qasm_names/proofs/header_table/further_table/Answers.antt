use Rattle.std.proofs.Common.{refl}
use Rattle.qasm_names.proofs.header_table.further_table.Goals as goal

pub returns : goal.returns
returns c = λ scope. ((refl, refl, refl, refl), refl, ((refl, refl, refl, refl), refl, ((refl, refl, refl, refl), refl, ((refl, refl, refl, refl), refl, ((refl, refl, refl, refl), refl, ((refl, refl, refl, refl), refl, ((refl, refl, refl, refl), refl, ((refl, refl, refl, refl), refl, ((refl, refl, refl, refl), refl, ((refl, refl, refl, refl), refl, ((refl, refl, refl, refl), refl, tt)))))))))))
