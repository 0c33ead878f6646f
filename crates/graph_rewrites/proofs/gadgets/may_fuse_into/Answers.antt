-- Of one neighbour, that is found.
use Rattle.std.proofs.Common.{◌≡◌, ◌∙◌, sym, ap, ap₂, ◌&&◌, true, length, arith}
use Rattle.zx_calculus.specs.Graph.{neighbours}
use Rattle.zx_calculus.specs.Gadgets.{is_gadget, is_one_XY}
use Rattle.graph_rewrites.proofs.GadgetTests.{only_leg, some_leg}
use Rattle.graph_rewrites.proofs.gadgets.may_fuse_into.Goals as goal

pub returns-in-Some-clause-value : goal.returns-in-Some-clause-value
returns-in-Some-clause-value c =
    let g = c.args.g.now.graph in
    let gadget : is_gadget g c.args.u ≡ true = sym c.is_gadget.ensures.value ∙ c.if-not-is_gadget.false in
    let one : length (neighbours g c.args.u) ≡ 1 = omega (arith, c.degree.ensures.value, c.if-degree-ne1.false) in
    c.is_xy.ensures.value
    ∙ sym (ap₂ (λ a b. a && b) gadget
    (ap (is_one_XY g) (only_leg g c.args.u c.in-Some.leg c.is_gadget.ensures.valid one c.in-Some.ensures.first.1)))

pub returns-in-None-clause-value : goal.returns-in-None-clause-value
returns-in-None-clause-value c =
    let g = c.args.g.now.graph in
    let one : length (neighbours g c.args.u) ≡ 1 = omega (arith, c.degree.ensures.value, c.if-degree-ne1.false) in
    absurd (some_leg g c.args.u c.is_gadget.ensures.valid one c.in-None.ensures.first)
