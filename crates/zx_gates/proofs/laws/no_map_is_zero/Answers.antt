-- Each gate takes no function but 0 to 0.
use Rattle.zx_gates.specs.Maps.{amp}
use Rattle.zx_gates.specs.ElementaryMaps.{amp_elementary}
use Rattle.zx_gates.proofs.Nonzero.{no_zero_row, no_zero_row_elementary, not_zero_map}
use Rattle.zx_gates.proofs.laws.no_map_is_zero.Goals as goal

pub returns-clause-circuit : goal.returns-clause-circuit
returns-clause-circuit c circuit is =
    not_zero_map circuit.qubits (amp circuit.gates) (no_zero_row circuit.qubits circuit.gates (λ i gate lt. (is.on_qubits i gate lt).0))

pub returns-clause-elementary : goal.returns-clause-elementary
returns-clause-elementary c e is = not_zero_map e.qubits (amp_elementary e.gates) (no_zero_row_elementary e.qubits e.gates is.on_qubits)

pub returns-clause-row : goal.returns-clause-row
returns-clause-row c n gates y on ly = no_zero_row n gates on y ly

pub returns-clause-elementary_row : goal.returns-clause-elementary_row
returns-clause-elementary_row c n gates y on ly = no_zero_row_elementary n gates on y ly
