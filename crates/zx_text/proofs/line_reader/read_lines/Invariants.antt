-- The lines so far lead to what the reader says.
use Rattle.std.proofs.Common.{◌+◌, ◌≤◌, length}
use Rattle.zx_text.specs.Versions.{version_named}
use Rattle.zx_text.specs.Internal.Lined.{IsReadOn}
use Rattle.zx_text.proofs.line_reader.read_lines.Given as goal

abbrev pub invariant-loop-found : goal.invariant-loop-found
invariant-loop-found g l = record {
  read : IsReadOn g.R.LineReader.format (version_named l.fn.version) l.fn.text l.line (g.R.LineReader.state l.reader) l.rest;
  room : g.R.LineReader.format.size (g.R.LineReader.state l.reader) + length l.rest ≤ length l.fn.text;
  count : l.line + length l.rest ≤ length l.fn.text + 2;
}

abbrev pub decreases-loop-found : goal.decreases-loop-found
decreases-loop-found g l = length l.rest
