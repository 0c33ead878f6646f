use Rattle.std.proofs.Common.{◌∙◌}
use Rattle.zx_bits.proofs.RowLemmas.{parity_is}
use Rattle.zx_bits.proofs.bit_row.BitRow.parity_with.Goals as goal

pub returns : goal.returns
returns c =
    c.parity_with.ensures c.self.inside.len c.self.invariant.unset
    ∙ parity_is c.self.inside.len c.self.inside.window c.args.self.now c.self.view_is c.other.inside.len c.other.inside.window c.args.other.now c.other.view_is c.requires
