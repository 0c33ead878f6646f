-- Where nothing was read, the reader's answer is passed on.
use Rattle.std.proofs.Common.{ap}
use Rattle.zx_words.specs.declared.words.Command.TheVariants.{Graph}
use Rattle.zx_run.proofs.AnswerLemmas.{done_of_all, reader_failed}
use Rattle.zx_run.proofs.program.output_of_graph.Goals as goal

pub returns-in_err-diagram : goal.returns-in_err-diagram
returns-in_err-diagram g c = reader_failed Graph tt _ _ _ _ c.from_residual.ensures.1 c.in_err-diagram.ensures.read.failure

pub returns : goal.returns
returns g c = done_of_all Graph _ _ _ c.in_ok-bytes.bytes.items (ap (λ v. v.items) c.done.ensures.bytes) c.done.ensures.done c.in_ok-diagram.ensures.read.reads_well (λ text told. c.in_ok-bytes.ensures text (c.in_ok-diagram.ensures.spelled text told)) c.in_ok-diagram.ensures.read.end
