-- By induction over the gates and measurements: their lines, their statements, and the gates' maps.
use Rattle.qasm_writer.proofs.WrittenLemmas.{IsWritten, is_written, text_means, lowered_elements, odd_elements, same_map}
use Rattle.qasm_writer.proofs.laws.written_texts_mean_their_circuits.Goals as goal

pub returns-clause-means : goal.returns-clause-means
returns-clause-means c = text_means

pub returns-clause-size : goal.returns-clause-size
returns-clause-size c = λ circuit bits measured is behind.
    let w : IsWritten circuit bits measured = is_written circuit bits measured is behind in
    (w.program, w.is, w.size)

pub returns-clause-gates : goal.returns-clause-gates
returns-clause-gates c = λ circuit is. lowered_elements circuit.qubits circuit.gates is.on_qubits

pub returns-clause-odd : goal.returns-clause-odd
returns-clause-odd c = λ circuit is. odd_elements circuit.qubits circuit.gates is.on_qubits

pub returns-clause-map : goal.returns-clause-map
returns-clause-map c = λ circuit is. same_map circuit.qubits circuit.gates is.on_qubits
