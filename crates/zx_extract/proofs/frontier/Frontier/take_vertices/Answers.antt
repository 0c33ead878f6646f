-- One more vertex.
use Rattle.std.proofs.Common.{◌+◌, ◌≤◌, arith}
use Rattle.zx_calculus.specs.Counts.{not_XY}
use Rattle.zx_extract.specs.Internal.Frontiers.{remainder_of}
use Rattle.zx_extract.proofs.Taking.{taken_nothing, taken_then, doubled_few, few_not_XY}
use Rattle.zx_extract.proofs.frontier.Frontier.take_vertices.Goals as goal

pub loop-v-init : goal.loop-v-init
loop-v-init c = taken_nothing (remainder_of c.args.self.now) c.requires.ready c.requires.frontier

pub overflow_add-doublings : goal.overflow_add-doublings
overflow_add-doublings c =
    let all : c.loop-v.doublings + c.in_ok-doublings.field-0 ≤ not_XY c.args.self.now.graph.graph =
    doubled_few (taken_then (remainder_of c.args.self.now) (remainder_of c.loop-v.self) (remainder_of c.take_vertex.new.self) c.loop-v.invariant c.in_ok-doublings.ensures.taken) in
    omega (arith, all, few_not_XY c.args.self.now.graph.graph, c.vertex_count.ensures.few)

pub loop-v-preserved : goal.loop-v-preserved
loop-v-preserved c = taken_then (remainder_of c.args.self.now) (remainder_of c.loop-v.self)
    (remainder_of c.take_vertex.new.self) c.loop-v.invariant c.in_ok-doublings.ensures.taken
