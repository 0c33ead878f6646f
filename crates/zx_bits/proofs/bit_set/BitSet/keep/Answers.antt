use Rattle.std.proofs.Common.{sym, ◌∙◌, ap₂, ◌&&◌}
use Rattle.zx_bits.proofs.SetLemmas.{member_places, members_are, rising_places}
use Rattle.zx_bits.proofs.bit_set.BitSet.keep.Goals as goal

pub returns-clause-members : goal.returns-clause-members
returns-clause-members c number =
    member_places c.keep.new.self number ∙ c.keep.ensures.places number
    ∙ ap₂ (λ f g. f number && g number) (sym (members_are c.self.inside.window c.args.self.now c.self.view_is))
    (sym (members_are c.other.inside.window c.args.other.now c.other.view_is))

pub returns-clause-rising : goal.returns-clause-rising
returns-clause-rising c = rising_places c.keep.new.self
