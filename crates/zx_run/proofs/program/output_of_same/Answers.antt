-- Where nothing was read, the reader's answer is passed on.
use Rattle.zx_words.specs.declared.words.Command.TheVariants.{Same}
use Rattle.zx_run.proofs.AnswerLemmas.{made_of_all, reader_failed}
use Rattle.zx_run.proofs.ComparedLemmas.{comparison_for}
use Rattle.zx_run.proofs.VerdictLemmas.{same_output}
use Rattle.zx_run.proofs.program.output_of_same.Goals as goal

pub returns-in_err-one : goal.returns-in_err-one
returns-in_err-one g c = reader_failed Same tt _ _ _ _ c.from_residual.ensures.1 c.in_err-one.ensures.read.failure

pub returns : goal.returns
returns g c = made_of_all c.in_ok-one.ensures.read.reads_well (same_output _ _ _ (λ text told. comparison_for text _ _ _ _ (c.in_ok-one.ensures.accepted text told) c.in_ok-comparison_text.ensures)) c.in_ok-one.ensures.read.end
