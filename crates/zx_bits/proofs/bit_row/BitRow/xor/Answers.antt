use Rattle.std.proofs.Common.{subst, arith}
use Rattle.zx_bits.specs.Internal.Windows.{IsWithin, end_of}
use Rattle.zx_bits.proofs.WindowLemmas.{unset_past}
use Rattle.zx_bits.proofs.RowLemmas.{has_capacity, same_length, tabulated-added, within_added, from_ok}
use Rattle.zx_bits.proofs.bit_row.BitRow.xor.Goals as goal

pub unwrap-requires : goal.unwrap-requires
unwrap-requires c =
    let same = same_length c.self.inside.len c.self.inside.window c.args.self.now c.self.view_is c.other.inside.len c.other.inside.window c.args.other.now c.other.view_is c.requires in
    c.xor.ensures.room (end_of c.other.inside.window) (unset_past c.other.inside.window) (has_capacity c.self.inside.len c.self.inside.window c.self.invariant _ (omega (arith, same, c.self.invariant.end, c.other.invariant.end)))

pub invariant_of-self : goal.invariant_of-self
invariant_of-self c =
    let same = same_length c.self.inside.len c.self.inside.window c.args.self.now c.self.view_is c.other.inside.len c.other.inside.window c.args.other.now c.other.view_is c.requires in
    let fits = c.xor.ensures.room (end_of c.other.inside.window) (unset_past c.other.inside.window) (has_capacity c.self.inside.len c.self.inside.window c.self.invariant _ (omega (arith, same, c.self.invariant.end, c.other.invariant.end))) in
    within_added c.self.inside.len c.self.inside.window c.other.inside.window c.xor.new.self c.self.invariant
    (subst (λ n. IsWithin n c.other.inside.window) same c.other.invariant)
    (from_ok c.xor.result fits c.xor.ensures.ok) (from_ok c.xor.result fits (c.xor.ensures.end (end_of c.other.inside.window) (unset_past c.other.inside.window))) (from_ok c.xor.result fits c.xor.ensures.capacity)

pub returns : goal.returns
returns c =
    let same = same_length c.self.inside.len c.self.inside.window c.args.self.now c.self.view_is c.other.inside.len c.other.inside.window c.args.other.now c.other.view_is c.requires in
    let fits = c.xor.ensures.room (end_of c.other.inside.window) (unset_past c.other.inside.window) (has_capacity c.self.inside.len c.self.inside.window c.self.invariant _ (omega (arith, same, c.self.invariant.end, c.other.invariant.end))) in
    tabulated-added c.self.inside.len c.self.inside.window c.args.self.now c.self.view_is c.other.inside.len c.other.inside.window c.args.other.now c.other.view_is c.requires c.xor.new.self
    (from_ok c.xor.result fits c.xor.ensures.ok)
