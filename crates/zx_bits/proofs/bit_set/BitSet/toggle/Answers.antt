use Rattle.std.proofs.Common.{sym, ◌∙◌, ap, eqb}
use Rattle.std.proofs.lemmas.Result.{on_ok_weaker}
use Rattle.zx_model.specs.Bits.{xor}
use Rattle.zx_bits.proofs.SetLemmas.{member_places, members_are, rising_places}
use Rattle.zx_bits.proofs.bit_set.BitSet.toggle.Goals as goal

pub returns-then-number-clause-rising : goal.returns-then-number-clause-rising
returns-then-number-clause-rising c = rising_places c.self.inside.window

pub returns-clause-ok : goal.returns-clause-ok
returns-clause-ok c =
    on_ok_weaker c.flip.result
    (λ is other. member_places c.flip.new.self other ∙ is other
    ∙ ap (λ f. xor (f other) (eqb other c.args.number)) (sym (members_are c.self.inside.window c.args.self.now c.self.view_is)))
    c.flip.ensures.ok

pub returns-clause-rising : goal.returns-clause-rising
returns-clause-rising c = rising_places c.flip.new.self
