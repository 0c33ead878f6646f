-- The answer of the reading tells what the text means, or its first fault.
use Rattle.zx_run.proofs.ReadLemmas.{read_accepted}
use Rattle.zx_run.proofs.TwoTextsLemmas.{refused_from}
use Rattle.zx_run.proofs.two_reader.circuit_from.Goals as goal

pub returns-in-Ok-clause-accepted : goal.returns-in-Ok-clause-accepted
returns-in-Ok-clause-accepted c = read_accepted c.args.text.now c.requires c.in-Ok.circuit c.in-Ok.ensures.answers

pub returns-in-Ok-clause-valid : goal.returns-in-Ok-clause-valid
returns-in-Ok-clause-valid c = c.in-Ok.ensures.answers.0

pub returns-in-Err-clause-refusal : goal.returns-in-Err-clause-refusal
returns-in-Err-clause-refusal c =
    refused_from c.args.text.now c.requires c.in-Err.error c.in-Err.ensures.answers c.args.from c.answer_from.result c.answer_from.ensures
