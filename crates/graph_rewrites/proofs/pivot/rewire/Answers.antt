-- The edges across u with its neighbours and v with its.
use Rattle.std.proofs.Common.{◌∷◌}
use Rattle.zx_calculus.specs.Graph.{neighbours}
use Rattle.zx_calculus.proofs.Positions.{on_ok}
use Rattle.graph_rewrites.proofs.Rewiring.{closed_tells, closed_below, rewired}
use Rattle.graph_rewrites.proofs.pivot.rewire.Goals as goal

pub returns-clause-rewired : goal.returns-clause-rewired
returns-clause-rewired c =
    let g = c.args.g.now.graph in
    on_ok c.toggle_around.result
    (rewired g c.toggle_around.new.self.graph c.args.u c.args.v (c.args.u ∷ neighbours g c.args.u) (c.args.v ∷ neighbours g c.args.v)
    c.toggle_around.ensures.was_valid c.requires.different c.requires.adjacent
    (closed_tells g c.args.u c.toggle_around.ensures.was_valid) (closed_tells g c.args.v c.toggle_around.ensures.was_valid))
    c.toggle_around.ensures.ok

pub returns-clause-has_room : goal.returns-clause-has_room
returns-clause-has_room c below =
    let g = c.args.g.now.graph in
    c.toggle_around.ensures.has_room (closed_below g c.args.u c.args.g.now.room.reach c.requires.u_live below)
    (closed_below g c.args.v c.args.g.now.room.reach c.requires.v_live below)
