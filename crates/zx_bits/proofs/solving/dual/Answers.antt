use Rattle.std.proofs.Common.{◌≡◌, sym, ◌∙◌, ap, ◌+◌, ◌-◌, drop, length, arith}
use Rattle.zx_bits.specs.Rows.{flipped}
use Rattle.zx_bits.specs.Solving.{zeros}
use Rattle.zx_bits.specs.Internal.Elimination.{HasSize, evened, dual_of}
use Rattle.zx_bits.proofs.Vectors.{length-zeros, length-flipped}
use Rattle.zx_bits.proofs.Eliminating.{size_at, length-dual, dual_more}
use Rattle.zx_bits.proofs.solving.dual.Goals as goal

pub even_out-requires-clause-size : goal.even_out-requires-clause-size
even_out-requires-clause-size c =
    let columns = c.args.m.now.columns in
    let size : HasSize columns (length c.args.m.now.rows) c.index-basis-i.result = size_at columns (length c.args.m.now.rows) c.args.basis.now (c.loop-i.i - 1) c.index-basis-i.result (omega arith) c.index-basis-i.is c.requires.sizes in
    size.0 ∙ sym (ap length c.loop-i.invariant ∙ length-dual (drop c.loop-i.i c.args.basis.now) (flipped (zeros columns) c.args.column) ∙ length-flipped (zeros columns) c.args.column ∙ length-zeros columns)

pub even_out-requires-clause-pivot : goal.even_out-requires-clause-pivot
even_out-requires-clause-pivot c =
    let columns = c.args.m.now.columns in
    let size : HasSize columns (length c.args.m.now.rows) c.index-basis-i.result = size_at columns (length c.args.m.now.rows) c.args.basis.now (c.loop-i.i - 1) c.index-basis-i.result (omega arith) c.index-basis-i.is c.requires.sizes in
    let same : length c.loop-i.dual.bits ≡ columns = ap length c.loop-i.invariant ∙ length-dual (drop c.loop-i.i c.args.basis.now) (flipped (zeros columns) c.args.column) ∙ length-flipped (zeros columns) c.args.column ∙ length-zeros columns in
    omega (arith, size.2, same)

pub loop-i-preserved : goal.loop-i-preserved
loop-i-preserved c =
    let start = flipped (zeros c.args.m.now.columns) c.args.column in
    let next : c.loop-i.i ≡ c.loop-i.i - 1 + 1 = omega arith in
    c.even_out.ensures
    ∙ ap (evened c.index-basis-i.result) (c.loop-i.invariant ∙ ap (λ k. dual_of (drop k c.args.basis.now) start) next)
    ∙ dual_more c.args.basis.now (c.loop-i.i - 1) c.index-basis-i.result start (omega arith) c.index-basis-i.is
