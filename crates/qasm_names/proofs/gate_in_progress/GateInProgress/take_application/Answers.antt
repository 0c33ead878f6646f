use Rattle.std.proofs.Common.{◌≡◌, sym, ap, ◌∙◌}
use Rattle.qasm_reader.specs.Syntax.{BodyApplied}
use Rattle.qasm_names.specs.Bodies.{is_faulty, joined}
use Rattle.qasm_names.specs.Internal.Applications.{apply_of, application_faults, IsCall}
use Rattle.qasm_names.proofs.BodyLemmas.{begun-call, begun-faults, faulty_earlier, faulty_later}
use Rattle.qasm_names.proofs.gate_in_progress.GateInProgress.take_application.Goals.{then-not-any+in_ok-call+in_default, else-not-any}
use Rattle.qasm_names.proofs.gate_in_progress.GateInProgress.take_application.Goals as goal

pub returns-in-Some : goal.returns-in-Some
returns-in-Some c = λ form b.
    let a = apply_of c.args.application.now in
    let call : IsCall c.args.names.now.symbols c.args.self.now.formals a c.in-Some.call = rw c.in-Some.is at c.in_ok-call.ensures.some in
    begun-call c.args.names.now c.args.self.now c.push.new.self form a c.in-Some.call c.in_ok-push.ensures.items call b

pub returns : goal.returns
returns c = λ form b.
    let gate = c.args.self.now in
    let a = apply_of c.args.application.now in
    let found = application_faults c.args.names.now.symbols gate.formals a in
    let same : c.and-self.result ≡ joined gate.faults found = c.and-self.ensures ∙ ap (joined gate.faults) c.in_ok-faults.ensures in
    begun-faults c.args.names.now gate form (BodyApplied a) c.and-self.result same
    (ap is_faulty same ∙ elim c.if-not-any.branch [
      | then-not-any+in_ok-call+in_default w ↦ faulty_later gate.faults found (rw w.in_default.is at w.in_ok-call.ensures.none)
      | else-not-any w ↦ faulty_earlier gate.faults found (sym w.if-not-any.ensures)
    ]) b
