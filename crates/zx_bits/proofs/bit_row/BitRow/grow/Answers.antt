use Rattle.std.proofs.Common.{◌≡◌, ◌∙◌, ap, ◌+◌, ◌++◌, replicate, false}
use Rattle.zx_bits.specs.Internal.Words.{tabulated}
use Rattle.zx_bits.specs.Internal.Windows.{is_set}
use Rattle.zx_bits.proofs.Lists.{tabulated-grown}
use Rattle.zx_bits.proofs.RowLemmas.{same_set}
use Rattle.zx_bits.proofs.bit_row.BitRow.grow.Goals as goal

pub returns-in_ok-reserve-in-Some-clause-ok : goal.returns-in_ok-reserve-in-Some-clause-ok
returns-in_ok-reserve-in-Some-clause-ok c =
    let longer : c.in-Some.len ≡ c.self.inside.len + c.args.bits = c.in-Some.ensures.1 in
    ap (tabulated c.in-Some.len) (same_set c.self.inside.window c.reserve.new.self c.reserve.ensures.offset c.reserve.ensures.items)
    ∙ ap (λ n. tabulated n (is_set c.self.inside.window)) longer
    ∙ tabulated-grown c.self.inside.len c.args.bits (is_set c.self.inside.window) c.self.invariant.unset
    ∙ ap (λ row. row.bits ++ replicate c.args.bits false) c.self.view_is
