-- Two quarters.
use Rattle.std.proofs.Common.{◌∙◌, ap}
use Rattle.zx_calculus.specs.Edits.{at_vertex}
use Rattle.zx_calculus.specs.Turns.{quarter_turned}
use Rattle.zx_calculus.specs.Internal.ChangedKinds.{with_changed}
use Rattle.graph_rewrites.proofs.Halves.{half_at}
use Rattle.zx_calculus.proofs.ChangedKinds.{turned_live}
use Rattle.graph_rewrites.proofs.pivot.turn_half.Goals as goal

pub add_quarter-requires-2 : goal.add_quarter-requires-2
add_quarter-requires-2 c =
    turned_live (at_vertex c.args.p quarter_turned) c.args.g.now.graph c.add_quarter.new.self.graph c.args.p
    c.add_quarter.ensures.ok c.requires

pub returns-clause-turned : goal.returns-clause-turned
returns-clause-turned c =
    c.add_quarter-2.ensures.ok ∙ ap (with_changed (at_vertex c.args.p quarter_turned)) c.add_quarter.ensures.ok
    ∙ half_at c.args.p c.args.g.now.graph
