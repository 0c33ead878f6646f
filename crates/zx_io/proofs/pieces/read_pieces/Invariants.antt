-- some bytes were read and handed on, and no read failed
use Rattle.std.proofs.Common.{◌≡◌, ◌+◌, ◌-◌, ◌≤◌, List, ℕ, ◌++◌, length}
use Rattle.std.specs.Io.KnownBytes.{Consumes}
use Rattle.zx_io.specs.Handing.{HasRoomFor}
use Rattle.zx_io.proofs.pieces.read_pieces.Given as goal

abbrev pub invariant-loop-count : goal.invariant-loop-count
invariant-loop-count g l = record {
  within : l.done ≤ l.limit;
  read : (read : List ℕ) × (length read ≡ l.done) × Consumes (g.S.Source.left l.fn.source) (g.S.Source.left l.source) read
      × ((before : List ℕ) → g.P.Pieces.stands_for l.fn.to before → HasRoomFor before l.limit → g.P.Pieces.stands_for l.to (before ++ read));
  quiet : g.S.Source.faults l.source ≡ g.S.Source.faults l.fn.source;
}

abbrev pub decreases-loop-count : goal.decreases-loop-count
decreases-loop-count g l = l.limit + 1 - l.done
