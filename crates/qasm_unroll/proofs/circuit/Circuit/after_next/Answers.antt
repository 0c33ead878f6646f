-- A statement behind the version.
use Rattle.std.proofs.Common.{◌≡◌, Err, rules}
use Rattle.qasm_reader.specs.Views.{placed}
use Rattle.qasm_scope.specs.Meaning.{after_statement}
use Rattle.qasm_names.specs.declared.statement_error.StatementError.TheVariants.{Wrong}
use Rattle.qasm_unroll.proofs.CircuitLemmas.{leads-next, leads-wrong}
use Rattle.qasm_unroll.proofs.circuit.Circuit.after_next.Goals as goal

pub returns-in-Ok-clause-stage : goal.returns-in-Ok-clause-stage
returns-in-Ok-clause-stage c = λ program is. record {
  scope = after_statement is.scope (placed c.args.statement.now).sentence;
  represents = c.in-Ok.ensures.after is.scope is.represents;
  remembers = (c.in-Ok.ensures.measures is.scope is.represents).remembers is.remembers;
  leads = leads-next program is.scope _ _ _ (placed c.args.statement.now) _ _ _ is.leads
      (c.in-Ok.ensures.ok is.scope is.represents is.remembers is.knows) (c.in-Ok.ensures.events is.scope is.represents is.knows)
      (c.in-Ok.ensures.measures is.scope is.represents).same;
  knows = c.in-Ok.ensures.knows is.scope is.represents is.knows;
}

pub returns-in-Err-Wrong-clause-stage : goal.returns-in-Err-Wrong-clause-stage
returns-in-Err-Wrong-clause-stage c = λ program is.
    let wrong : c.read_statement.result ≡ Err (Wrong c.in-Err-Wrong.cause) = search rules in
    leads-wrong program is.scope _ _ _ (placed c.args.statement.now) c.in-Err-Wrong.cause is.leads
    (c.read_statement.ensures.err c.in-Err-Wrong.cause is.scope wrong is.represents is.remembers is.knows)
