-- The list was empty, so it has what was handed on.
use Rattle.std.proofs.Common.{[], arith}
use Rattle.zx_io.proofs.loops.read_all.Goals as goal

pub returns-clause-bytes : goal.returns-clause-bytes
returns-clause-bytes g c bytes told =
    (c.in_ok-read_pieces.ensures.bytes [] bytes c.new-bytes.ensures.items (omega arith) told, (c.in_ok-read_pieces.ensures.end bytes told).1)
