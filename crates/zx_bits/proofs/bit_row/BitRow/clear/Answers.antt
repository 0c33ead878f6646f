use Rattle.std.proofs.Common.{◌∙◌, ap, replicate, false}
use Rattle.zx_bits.specs.Internal.Windows.{is_set}
use Rattle.zx_bits.proofs.Lists.{tabulated-unset}
use Rattle.zx_bits.proofs.RowLemmas.{len_is}
use Rattle.zx_bits.proofs.WindowLemmas.{none_without_words}
use Rattle.zx_bits.proofs.bit_row.BitRow.clear.Goals as goal

pub returns : goal.returns
returns c =
    tabulated-unset c.self.inside.len (is_set c.clear.new.self) (none_without_words c.clear.new.self c.clear.ensures.none)
    ∙ ap (λ n. replicate n false) (len_is c.self.inside.len c.self.inside.window c.args.self.now c.self.view_is)
