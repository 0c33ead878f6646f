use Rattle.std.proofs.Common.{sym, ◌∙◌, ap, not, ◌&&◌, eqb}
use Rattle.zx_bits.proofs.SetLemmas.{member_places, members_are, rising_places}
use Rattle.zx_bits.proofs.bit_set.BitSet.remove.Goals as goal

pub returns-clause-members : goal.returns-clause-members
returns-clause-members c other =
    member_places c.unset.new.self other ∙ c.unset.ensures.places other
    ∙ ap (λ f. f other && not (eqb other c.args.number)) (sym (members_are c.self.inside.window c.args.self.now c.self.view_is))

pub returns-clause-rising : goal.returns-clause-rising
returns-clause-rising c = rising_places c.unset.new.self
