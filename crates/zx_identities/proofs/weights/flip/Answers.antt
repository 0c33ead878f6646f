-- One more, and all of them.
use Rattle.std.proofs.Common.{set, get_or, add-one, sym, ap, ◌∙◌, arith}
use Rattle.zx_identities.specs.Internal.Packing.{flipped}
use Rattle.zx_identities.proofs.Flips.{upto, upto-more, upto-all}
use Rattle.zx_identities.proofs.Walks.{no_group}
use Rattle.zx_identities.proofs.weights.flip.Goals as goal

pub loop-i-preserved : goal.loop-i-preserved
loop-i-preserved c =
    ap (λ gs. set gs c.loop-i.i (flipped c.args.place (get_or gs c.loop-i.i no_group))) c.loop-i.invariant
    ∙ upto-more (flipped c.args.place) c.loop-i.i c.args.groups.now no_group (omega (arith, c.loop-i.auto.groups))
    ∙ ap (λ k. upto (flipped c.args.place) k c.args.groups.now) (sym (add-one c.loop-i.i))

pub returns : goal.returns
returns c = c.loop-i.invariant ∙ upto-all (flipped c.args.place) c.loop-i.i c.args.groups.now (omega (arith, c.loop-i.auto.groups))
