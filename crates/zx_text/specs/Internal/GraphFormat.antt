-- Graph files as a kind of files.
use Rattle.std.specs.Prelude.{length}
use Rattle.zx_text.specs.Lines.{Line, parts}
use Rattle.zx_text.specs.Reading.{Wanted, IsFileText}
use Rattle.zx_text.specs.Formats.{Format}
use Rattle.zx_text.specs.Internal.Taking.{has_small}
use Rattle.zx_text.specs.Internal.Stepping.{LinesSoFar, InGraph, begun, file_step, vertices_of}
use Rattle.zx_text.specs.Internal.Readers.{is_over}
use Rattle.zx_text.specs.Internal.Said.{word}

abbrev pub graph_files : Wanted → Format
graph_files wanted = record {
  Line = Line;
  parts = parts;
  is_small = has_small;
  State = LinesSoFar;
  begun = InGraph begun;
  step = λ version st l. file_step version wanted st l;
  is_over = is_over;
  size = λ st. length (vertices_of st);
  word = word;
  IsFile = IsFileText wanted;
}
