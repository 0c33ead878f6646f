-- The gates that move basis states.
use Rattle.zx_identities.proofs.ParityLemmas.{on_cx, on_not}
use Rattle.zx_identities.proofs.Determined.{below-set, below-sum, below-turned}
use Rattle.zx_identities.proofs.parities.advance.Goals as goal

pub returns-in-Cx-clause-state : goal.returns-in-Cx-clause-state
returns-in-Cx-clause-state c =
    on_cx c.args.gate.now c.args.parities.now c.from-in-Cx.result c.from-in-Cx-2.result c.from-in-Cx-3.result c.in-Cx.control c.in-Cx.target c.in-Cx.is
    c.from-in-Cx.ensures c.from-in-Cx-2.ensures c.from-in-Cx-3.ensures c.requires

pub returns-in-Cx-clause-below : goal.returns-in-Cx-clause-below
returns-in-Cx-clause-below c = λ bits some below.
    below-set bits c.args.parities.now c.from-in-Cx-3.result _ below (below-sum bits c.args.parities.now c.from-in-Cx.result c.from-in-Cx-2.result below)

pub returns-in-Not-clause-state : goal.returns-in-Not-clause-state
returns-in-Not-clause-state c =
    on_not c.args.gate.now c.args.parities.now c.from-in-Not.result c.from-in-Not-2.result c.in-Not.q c.in-Not.is c.from-in-Not.ensures c.from-in-Not-2.ensures c.requires

pub returns-in-Not-clause-below : goal.returns-in-Not-clause-below
returns-in-Not-clause-below c = λ bits some below.
    below-set bits c.args.parities.now c.from-in-Not-2.result _ below (below-turned bits c.args.parities.now c.from-in-Not.result some below)
