use Rattle.std.proofs.Common.{◌≡◌, ◌∙◌, ap, length, arith}
use Rattle.zx_bits.proofs.MatrixLemmas.{count_is, row_size}
use Rattle.zx_bits.proofs.bit_matrix.BitMatrix.height.Goals as goal

pub returns : goal.returns
returns c =
    let count : c.len.result ≡ length c.args.self.now.rows = omega (arith, c.len.ensures, c.self.inside.rows.ok.0, count_is c.self.inside.columns c.self.inside.rows.items c.args.self.now c.self.view_is) in
    record {
      value = count;
      each = λ r lt. row_size c.self.inside.columns c.self.inside.rows.items c.args.self.now c.self.view_is c.self.invariant r (omega (arith, count)) ∙ ap (λ m. m.columns) c.self.view_is;
    }
