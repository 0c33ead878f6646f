use Rattle.std.proofs.Common.{map, ap, ◌∙◌}
use Rattle.std.specs.List.{list_any}
use Rattle.qasm_names.proofs.BodyLemmas.{begun-barrier}
use Rattle.qasm_names.proofs.gate_in_progress.GateInProgress.take.Goals as goal
use Rattle.qasm_scope.specs.Faults.{is_other}
use Rattle.qasm_names.specs.Places.{place_in}

pub returns-in-Barrier : goal.returns-in-Barrier
returns-in-Barrier c = λ form b.
    let gate = c.args.self.now in
    rw c.in-Barrier.is
    (begun-barrier c.args.names.now gate form (map (λ name. name.now) c.in-Barrier.qubits.items) c.none.result c.any_unplaced-unknown.result c.and-self.result c.none.ensures
    (c.any_unplaced-unknown.ensures ∙ ap (λ qubits. list_any (is_other (place_in gate.formals.qubits)) (map (λ name. name.now) qubits)) c.deref.ensures.value) c.and-self.ensures b)
