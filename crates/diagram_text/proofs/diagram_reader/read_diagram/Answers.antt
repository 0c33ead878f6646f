-- The lines of a file are those of its diagram.
use Rattle.std.proofs.Common.{subst}
use Rattle.zx_text.specs.Formats.{IsHeaded}
use Rattle.zx_text.proofs.AnswerLemmas.{no_refusal, passed_on}
use Rattle.diagram_text.specs.Internal.DiagramFormat.{diagram_files}
use Rattle.diagram_text.proofs.StopLemmas.{by_lines, headed_spells}
use Rattle.diagram_text.proofs.diagram_reader.read_diagram.Goals as goal

pub read_file-requires : goal.read_file-requires
read_file-requires c = record { by_lines = by_lines }

pub returns-in_err-diagram-clause-refused : goal.returns-in_err-diagram-clause-refused
returns-in_err-diagram-clause-refused c = λ line bad short. passed_on c.from_residual.result c.from_residual.ensures.1 (c.in_err-diagram.ensures.refused line bad short)

pub returns-clause-ok : goal.returns-clause-ok
returns-clause-ok c = headed_spells c.args.bytes.now c.in-Over.diagram (subst (IsHeaded diagram_files c.args.bytes.now) c.in-Over.is c.in_ok-diagram.ensures.ok)

pub returns-clause-refused : goal.returns-clause-refused
returns-clause-refused c = λ line bad short. no_refusal (c.in_ok-diagram.ensures.refused line bad short)
