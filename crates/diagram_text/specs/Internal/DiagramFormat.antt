-- Diagram files as a kind of files.
use Rattle.zx_text.specs.Formats.{Format}
use Rattle.diagram_text.specs.declared.line.Line.{Line}
use Rattle.diagram_text.specs.declared.reader.Reader.{Reader}
use Rattle.diagram_text.specs.Lines.{parts}
use Rattle.diagram_text.specs.Reading.{IsFileText}
use Rattle.diagram_text.specs.Internal.Stepping.{has_small, begun, diagram_step, is_over, spiders_of, word}

abbrev pub diagram_files : Format
diagram_files = record {
  Line = Line;
  parts = parts;
  is_small = has_small;
  State = Reader;
  begun = begun;
  step = diagram_step;
  is_over = is_over;
  size = spiders_of;
  word = word;
  IsFile = IsFileText;
}
