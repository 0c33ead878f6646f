-- Where nothing was read, the reader's answer is passed on.
use Rattle.zx_words.specs.declared.words.Command.TheVariants.{Compile}
use Rattle.zx_run.proofs.AnswerLemmas.{made_of_all, reader_failed}
use Rattle.zx_run.proofs.VerdictLemmas.{compile_output}
use Rattle.zx_run.proofs.program.output_of_compile.Goals as goal

pub returns-in_err-diagram : goal.returns-in_err-diagram
returns-in_err-diagram g c = reader_failed Compile tt _ _ _ _ c.from_residual.ensures.1 c.in_err-diagram.ensures.read.failure

pub returns : goal.returns
returns g c = made_of_all c.in_ok-diagram.ensures.read.reads_well (compile_output _ _ _ (λ text told. c.in_ok-compiled_text.ensures text (c.in_ok-diagram.ensures.spelled text told))) c.in_ok-diagram.ensures.read.end
