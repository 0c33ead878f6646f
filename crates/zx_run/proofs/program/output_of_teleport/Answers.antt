-- Where no circuit was read, the reader's answer is passed on.
use Rattle.std.proofs.Common.{ap}
use Rattle.zx_words.specs.declared.words.Command.TheVariants.{Teleport}
use Rattle.zx_run.proofs.AnswerLemmas.{done_of_all, reader_failed}
use Rattle.zx_run.proofs.program.output_of_teleport.Goals as goal

pub returns-in_err-read : goal.returns-in_err-read
returns-in_err-read g c = reader_failed Teleport tt _ _ _ _ c.from_residual.ensures.1 c.in_err-read.ensures.read.failure

pub returns : goal.returns
returns g c = done_of_all Teleport _ _ _ c.in_ok-bytes.bytes.items (ap (λ v. v.items) c.done.ensures.bytes) c.done.ensures.done c.in_ok-read.ensures.read.reads_well (λ text told. c.in_ok-bytes.ensures text (c.in_ok-read.ensures.accepted text told)) c.in_ok-read.ensures.read.end
