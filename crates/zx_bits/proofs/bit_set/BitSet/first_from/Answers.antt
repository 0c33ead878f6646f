use Rattle.std.proofs.Common.{sym, subst}
use Rattle.zx_bits.specs.Rows.{IsFirstFrom}
use Rattle.zx_bits.proofs.SetLemmas.{members_are}
use Rattle.zx_bits.proofs.bit_set.BitSet.first_from.Goals as goal

pub returns-clause-first : goal.returns-clause-first
returns-clause-first c = subst (λ f. IsFirstFrom f c.args.start c.first_from.result) (sym (members_are c.self.inside.window c.args.self.now c.self.view_is)) c.first_from.ensures
