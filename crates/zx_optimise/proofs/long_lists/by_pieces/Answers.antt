-- Nothing is made at first, and all at last.
use Rattle.std.proofs.Common.{ap, ◌∙◌, length, arith}
use Rattle.zx_gates.specs.Circuit.{Circuit}
use Rattle.zx_optimise.specs.Internal.Making.{most_root2_of_one}
use Rattle.zx_optimise.proofs.Pieces.{nothing_made, all_made}
use Rattle.zx_optimise.proofs.long_lists.by_pieces.Goals as goal

pub loop-start-init : goal.loop-start-init
loop-start-init c =
    nothing_made c.args.list.now c.new.result c.one.result (ap (λ (d : Circuit). d.qubits) c.new.ensures ∙ c.qubits.ensures.value)
    (ap (λ (d : Circuit). d.gates) c.new.ensures) c.one.ensures

pub returns : goal.returns
returns c =
    c.joined.ensures.made most_root2_of_one c.args.list.now
    (all_made c.args.list.now c.loop-start.start c.loop-start.made c.loop-start.invariant (omega (arith, c.loop-start-test.false, ap length c.gates-gates.ensures.value)))
    c.in_ok-whole.ensures
