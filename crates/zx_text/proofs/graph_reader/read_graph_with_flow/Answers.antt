-- The lines of a file with a flow are those of its graph and its flow.
use Rattle.std.proofs.Common.{subst, sym, true≢false, None, Some}
use Rattle.zx_text.specs.Reading.{OnlyWithFlow}
use Rattle.zx_text.specs.Formats.{IsHeaded}
use Rattle.zx_text.specs.Internal.Readers.{lines_so_far}
use Rattle.zx_text.specs.Internal.GraphFormat.{graph_files}
use Rattle.zx_text.specs.declared.reader.Reader.TheVariants as reader
use Rattle.zx_text.proofs.AnswerLemmas.{no_refusal, passed_on}
use Rattle.zx_text.proofs.StopLemmas.{by_lines, headed_spells}
use Rattle.zx_text.proofs.graph_reader.read_graph_with_flow.Goals as goal

pub read_file-requires : goal.read_file-requires
read_file-requires c = record { by_lines = by_lines OnlyWithFlow }

pub returns-in_err-reader-clause-refused : goal.returns-in_err-reader-clause-refused
returns-in_err-reader-clause-refused c = λ line bad short. passed_on c.from_residual.result c.from_residual.ensures.1 (c.in_err-reader.ensures.refused line bad short)

pub unreachable-requires : goal.unreachable-requires
unreachable-requires c =
    let over = subst (λ r. IsHeaded (graph_files OnlyWithFlow) c.args.bytes.now (lines_so_far r)) c.in-Over.is c.in_ok-reader.ensures.ok in
    let none = subst (λ t. IsHeaded (graph_files OnlyWithFlow) c.args.bytes.now (lines_so_far (reader.Over c.in-Over.graph t))) c.in-None.is over in
    true≢false (sym (headed_spells OnlyWithFlow c.args.bytes.now c.in-Over.graph.graph None none).1)

pub returns-clause-ok : goal.returns-clause-ok
returns-clause-ok c =
    let over = subst (λ r. IsHeaded (graph_files OnlyWithFlow) c.args.bytes.now (lines_so_far r)) c.in-Over.is c.in_ok-reader.ensures.ok in
    let some = subst (λ t. IsHeaded (graph_files OnlyWithFlow) c.args.bytes.now (lines_so_far (reader.Over c.in-Over.graph t))) c.in-Some.is over in
    (headed_spells OnlyWithFlow c.args.bytes.now c.in-Over.graph.graph (Some c.in-Some.table.table) some).0

pub returns-clause-refused : goal.returns-clause-refused
returns-clause-refused c = λ line bad short. no_refusal (c.in_ok-reader.ensures.refused line bad short)
