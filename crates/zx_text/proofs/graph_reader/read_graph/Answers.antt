-- The lines of a file are those of its graph.
use Rattle.std.proofs.Common.{subst}
use Rattle.zx_text.specs.Reading.{AnyFile}
use Rattle.zx_text.specs.Formats.{IsHeaded}
use Rattle.zx_text.specs.Internal.Readers.{lines_so_far}
use Rattle.zx_text.specs.Internal.GraphFormat.{graph_files}
use Rattle.zx_text.proofs.AnswerLemmas.{no_refusal, passed_on}
use Rattle.zx_text.proofs.StopLemmas.{by_lines, headed_spells}
use Rattle.zx_text.proofs.graph_reader.read_graph.Goals as goal

pub read_file-requires : goal.read_file-requires
read_file-requires c = record { by_lines = by_lines AnyFile }

pub returns-in_err-reader-clause-refused : goal.returns-in_err-reader-clause-refused
returns-in_err-reader-clause-refused c = λ line bad short. passed_on c.from_residual.result c.from_residual.ensures.1 (c.in_err-reader.ensures.refused line bad short)

pub returns-clause-ok : goal.returns-clause-ok
returns-clause-ok c =
    (headed_spells AnyFile c.args.bytes.now c.in-Over.graph.graph _
    (subst (λ r. IsHeaded (graph_files AnyFile) c.args.bytes.now (lines_so_far r)) c.in-Over.is c.in_ok-reader.ensures.ok)).0

pub returns-clause-refused : goal.returns-clause-refused
returns-clause-refused c = λ line bad short. no_refusal (c.in_ok-reader.ensures.refused line bad short)
