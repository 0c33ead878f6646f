-- One line more is read.
use Rattle.std.proofs.Common.{◌≡◌, ◌++◌, ◌∷◌, length, ap, arith, length-append, rules}
use Rattle.zx_text.specs.Versions.{version_named}
use Rattle.zx_text.specs.Formats.{IsTaken}
use Rattle.zx_text.proofs.WalkLemmas.{read_on}
use Rattle.zx_text.proofs.line_reader.read_lines.Goals as goal

pub loop-found-preserved : goal.loop-found-preserved
loop-found-preserved g c =
    let at : c.loop-found.rest.now ≡ c.in-Some.found.now ++ 10 ∷ c.in-Some.further.now = search rules in
    let taken : IsTaken g.R.LineReader.format (version_named c.args.version) (g.R.LineReader.state c.loop-found.reader) c.in-Some.found.now (g.R.LineReader.state c.in-Some-2.next) =
    rw c.in-Some-2.is at c.in_ok-next.ensures.taken in
    let more = c.requires.by_lines.grows _ _ taken.said _ taken.leads in
    let size = length-append c.in-Some.found.now (10 ∷ c.in-Some.further.now) in
    record {
      read = read_on g.R.LineReader.format c.loop-found.invariant.read at taken;
      room = omega (arith, ap length at, size, more, c.loop-found.invariant.room);
      count = omega (arith, ap length at, size, c.loop-found.invariant.count);
    }
