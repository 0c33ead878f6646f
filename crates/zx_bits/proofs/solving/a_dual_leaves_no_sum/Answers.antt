use Rattle.std.proofs.Common.{sym, ◌∙◌, ap, true≢false}
use Rattle.zx_bits.specs.Rows.{parity_of}
use Rattle.zx_bits.proofs.SumsOfRows.{sum_of-even}
use Rattle.zx_bits.proofs.solving.a_dual_leaves_no_sum.Goals as goal

pub returns : goal.returns
returns c m target dual set is sum =
    true≢false (sym is.odd ∙ ap (λ l. parity_of l dual) (sym sum) ∙ sum_of-even m.columns m.rows set dual is.even)
