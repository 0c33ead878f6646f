-- A file has no bad line, and a text with one is no file.
use Rattle.zx_text.proofs.AnswerLemmas.{accepted, refusal}
use Rattle.zx_text.proofs.line_reader.read_file.Goals as goal

pub returns-clause-accepted : goal.returns-clause-accepted
returns-clause-accepted g c = λ file short.
    accepted g.R.LineReader.format c.requires.by_lines g.R.LineReader.state c.read_text.result c.read_text.ensures file

pub returns-clause-refused : goal.returns-clause-refused
returns-clause-refused g c = λ line bad short.
    refusal g.R.LineReader.format c.requires.by_lines g.R.LineReader.state c.read_text.result c.read_text.ensures line bad
