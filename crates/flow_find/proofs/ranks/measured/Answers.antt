-- One vertex more was looked at.
use Rattle.open_graph.proofs.Walks.{next_some, next_there}
use Rattle.gflow_laws.specs.Seen.{seen}
use Rattle.flow_find.proofs.ranks.measured.Goals as goal

pub output_at-requires : goal.output_at-requires
output_at-requires c =
    next_there c.loop-v.yielded c.loop-v.v-iterator c.next.new.self (seen c.args.g.now.graph).ids c.in-Some.v c.loop-v.invariant.all
    (next_some c.next.result c.loop-v.v-iterator c.next.new.self c.in-Some.v c.next.ensures.steps c.in-Some.is)
