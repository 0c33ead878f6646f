-- The first line is that of a version, or it is bad.
use Rattle.zx_text.specs.Versions.{version_named}
use Rattle.zx_text.proofs.BadLineLemmas.{no_line_bad, no_header_bad}
use Rattle.zx_text.proofs.AnswerLemmas.{text_answer}
use Rattle.zx_text.proofs.line_reader.read_text.Goals as goal

pub returns-in_default : goal.returns-in_default
returns-in_default g c = no_line_bad g.R.LineReader.format c.requires.by_lines c.args.bytes.now c.in_default.ensures.none

pub returns-in-Some-version_of : goal.returns-in-Some-version_of
returns-in-Some-version_of g c =
    text_answer g.R.LineReader.format c.requires.by_lines g.R.LineReader.state (version_named c.in-Some-version_of.version)
    c.args.bytes.now c.in-Some.first.now c.in-Some.rest.now c.read_lines.result c.in-Some.ensures.cut c.in-Some-version_of.ensures.some
    c.requires.short c.read_lines.ensures

pub returns-in-None : goal.returns-in-None
returns-in-None g c =
    no_header_bad g.R.LineReader.format c.requires.by_lines c.args.bytes.now c.in-Some.first.now c.in-Some.rest.now
    c.in-Some.ensures.cut c.in-Some.ensures.first c.in-None.ensures.none
