-- No bytes have no tokens.
use Rattle.std.proofs.Common.{[], refl}
use Rattle.qasm_inline.proofs.PieceLemmas.{first_line}
use Rattle.qasm_inline.proofs.piece_reader.PieceReader.new.Goals as goal

pub returns : goal.returns
returns c = (refl, record { all = []; begun = rw c.new.ensures.items (first_line []); keeps = c.new-3.ensures })
