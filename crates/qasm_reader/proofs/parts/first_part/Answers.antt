-- What the part that was read, or none, says of the grammar.
use Rattle.std.proofs.lemmas.Result.{err_from_is_err_and}
use Rattle.qasm_reader.specs.Views.{action, sentence}
use Rattle.qasm_reader.proofs.PartWise.{heading_found, heading_missing, application_found, application_missing, simple_found, simple_missing}
use Rattle.qasm_reader.proofs.parts.first_part.Goals as goal

pub returns-in_err-heading-in-Gate : goal.returns-in_err-heading-in-Gate
returns-in_err-heading-in-Gate c =
    let p = err_from_is_err_and c.from_residual.result c.from_residual.ensures.1 in
    rw (p.1, p.2) (heading_missing c.in_err-heading-in-Gate.field-0.0 c.args.tokens.now c.in-Some.first.now c.in-Some.inside.now c.in-Some.ensures.cases.0 c.in-Gate.is c.in_err-heading-in-Gate.ensures)

pub returns-in_err-kind-in_default-kind : goal.returns-in_err-kind-in_default-kind
returns-in_err-kind-in_default-kind c =
    let p = err_from_is_err_and c.from_residual-in_err-kind-in_default-kind.result c.from_residual-in_err-kind-in_default-kind.ensures.1 in
    rw (p.1, p.2) (simple_missing c.in_err-kind-in_default-kind.field-0.0 c.args.tokens.now c.in-Some.first.now c.in-Some.inside.now c.in-Some.ensures.cases.0 c.in_default-kind.not-Gate c.in_err-kind-in_default-kind.ensures)

pub returns-in_ok-heading-in-Gate : goal.returns-in_ok-heading-in-Gate
returns-in_ok-heading-in-Gate c =
    heading_found c.args.tokens.now c.in-Some.first.now c.in-Some.inside.now c.in_ok-heading-in-Gate.rest.now c.in_ok-heading-in-Gate.heading c.in-Some.ensures.cases.0 c.in-Gate.is c.in_ok-heading-in-Gate.ensures

pub returns-in_ok-kind-in_default-kind : goal.returns-in_ok-kind-in_default-kind
returns-in_ok-kind-in_default-kind c =
    simple_found c.args.tokens.now c.in-Some.first.now c.in-Some.inside.now c.in_ok-kind-in_default-kind.rest.now (sentence c.in_ok-kind-in_default-kind.kind) c.in-Some.ensures.cases.0 c.in_default-kind.not-Gate c.in_ok-kind-in_default-kind.ensures

pub returns-in_err-operation-in-Identifier : goal.returns-in_err-operation-in-Identifier
returns-in_err-operation-in-Identifier c =
    let p = err_from_is_err_and c.from_residual-in_err-operation-in-Identifier.result c.from_residual-in_err-operation-in-Identifier.ensures.1 in
    rw (p.1, p.2) (application_missing c.in_err-operation-in-Identifier.field-0.0 c.args.tokens.now c.in-Some.first.now c.in-Some.inside.now c.in-Some.ensures.cases.0 c.in-Identifier.is c.in_err-operation-in-Identifier.ensures)

pub returns-in_ok-operation-in-Identifier : goal.returns-in_ok-operation-in-Identifier
returns-in_ok-operation-in-Identifier c =
    application_found c.args.tokens.now c.in-Some.first.now c.in-Some.inside.now c.in_ok-operation-in-Identifier.rest.now (action c.in_ok-operation-in-Identifier.operation) c.in-Some.ensures.cases.0 c.in-Identifier.is c.in_ok-operation-in-Identifier.ensures
