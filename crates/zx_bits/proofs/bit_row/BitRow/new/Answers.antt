use Rattle.std.proofs.Common.{◌∙◌, ap, ◌++◌, replicate, false}
use Rattle.zx_bits.proofs.bit_row.BitRow.new.Goals as goal

pub returns : goal.returns
returns c = c.in_ok-grow.ensures.ok ∙ ap (λ xs. xs ++ replicate c.args.bits false) c.empty-row.ensures
