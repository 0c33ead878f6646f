-- Where nothing was read, the reader's answer is passed on; else the verdict on the file is.
use Rattle.zx_words.specs.declared.words.Command.TheVariants.{Flow}
use Rattle.zx_run.proofs.AnswerLemmas.{made_of_all, reader_failed}
use Rattle.zx_run.proofs.FileReadLemmas.{flow_output}
use Rattle.zx_run.proofs.program.output_of_flow.Goals as goal

pub returns-in_err-graph : goal.returns-in_err-graph
returns-in_err-graph g c = reader_failed Flow tt _ _ _ _ c.from_residual.ensures.1 c.in_err-graph.ensures.read.failure

pub returns : goal.returns
returns g c = made_of_all c.in_ok-graph.ensures.read.reads_well (flow_output _ _ _ c.in_ok-graph.ensures.spelled _ _ c.in_ok-flow_verdict.ensures) c.in_ok-graph.ensures.read.end
