use Rattle.std.specs.Prelude.{false}
use Rattle.graph_like.proofs.Joining.{joined-lent}
use Rattle.graph_like.proofs.classes.plain_neighbours.Goals as goal

pub loop-i-preserved : goal.loop-i-preserved
loop-i-preserved c =
    joined-lent c.args.d.now c.loop-i.near.items c.join_if_plain.new.near.items c.loop-i.i c.spiders-spiders.result.now c.edges-edges.result.now
    (record { a = 0; b = 0; hadamard = false }) c.spiders-spiders.ensures.value c.edges-edges.ensures.value c.spiders-spiders.ensures.valid
    c.loop-i-test.true c.in_ok-join_if_plain.ensures.same c.in_ok-join_if_plain.ensures.plain c.in_ok-join_if_plain.ensures.marked c.loop-i.invariant
