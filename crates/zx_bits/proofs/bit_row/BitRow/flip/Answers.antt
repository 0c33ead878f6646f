use Rattle.std.proofs.Common.{arith}
use Rattle.zx_bits.proofs.RowLemmas.{len_is, has_capacity, tabulated-flipped, within_flipped, from_ok}
use Rattle.zx_bits.proofs.bit_row.BitRow.flip.Goals as goal

pub unwrap-requires : goal.unwrap-requires
unwrap-requires c =
    let size = len_is c.self.inside.len c.self.inside.window c.args.self.now c.self.view_is in
    c.flip.ensures.room (has_capacity c.self.inside.len c.self.inside.window c.self.invariant _ (omega (arith, size, c.requires, c.self.invariant.end)))

pub invariant_of-self : goal.invariant_of-self
invariant_of-self c =
    let size = len_is c.self.inside.len c.self.inside.window c.args.self.now c.self.view_is in
    let fits = c.flip.ensures.room (has_capacity c.self.inside.len c.self.inside.window c.self.invariant _ (omega (arith, size, c.requires, c.self.invariant.end))) in
    within_flipped c.self.inside.len c.args.i c.self.inside.window c.flip.new.self c.self.invariant (omega (arith, size, c.requires))
    (from_ok c.flip.result fits c.flip.ensures.ok) (from_ok c.flip.result fits c.flip.ensures.end) (from_ok c.flip.result fits c.flip.ensures.capacity)

pub returns : goal.returns
returns c =
    let size = len_is c.self.inside.len c.self.inside.window c.args.self.now c.self.view_is in
    let fits = c.flip.ensures.room (has_capacity c.self.inside.len c.self.inside.window c.self.invariant _ (omega (arith, size, c.requires, c.self.invariant.end))) in
    tabulated-flipped c.self.inside.len c.self.inside.window c.args.self.now c.self.view_is c.flip.new.self c.args.i (from_ok c.flip.result fits c.flip.ensures.ok)
