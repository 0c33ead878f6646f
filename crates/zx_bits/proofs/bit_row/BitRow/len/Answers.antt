use Rattle.zx_bits.proofs.RowLemmas.{len_is}
use Rattle.zx_bits.proofs.bit_row.BitRow.len.Goals as goal

pub returns : goal.returns
returns c = len_is c.self.inside.len c.self.inside.window c.args.self.now c.self.view_is
