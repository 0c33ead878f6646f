use Rattle.std.proofs.Common.{◌≡◌, Some, None, sym, ap, ◌∙◌, rules}
use Rattle.qasm_names.specs.Bodies.{cause_of}
use Rattle.qasm_names.proofs.BodyLemmas.{begun-cause}
use Rattle.qasm_names.proofs.gate_in_progress.GateInProgress.declare.Goals as goal

pub returns-in-Some-clause-err : goal.returns-in-Some-clause-err
returns-in-Some-clause-err c = λ form cause scope b e r.
    let found : Some c.in-Some.cause ≡ cause_of c.args.self.faults c.args.self.redeclared = search rules in
    let same : c.in-Some.cause ≡ cause = cc in
    sym (begun-cause c.args.names.now c.args.self form scope b r) ∙ sym found ∙ ap Some same

pub returns-clause-ok : goal.returns-clause-ok
returns-clause-ok c = λ form b scope r.
    let found : None ≡ cause_of c.args.self.faults c.args.self.redeclared = search rules in
    sym (begun-cause c.args.names.now c.args.self form scope b r) ∙ sym found

pub returns-clause-declared : goal.returns-clause-declared
returns-clause-declared c = λ form b scope r.
    let found : None ≡ cause_of c.args.self.faults c.args.self.redeclared = search rules in
    c.in_ok-declare_faultless.ensures form scope b r
    (record { right = sym (begun-cause c.args.names.now c.args.self form scope b r) ∙ sym found; fresh = tt })
