-- A neighbour is a vertex.
use Rattle.std.proofs.Common.{subst}
use Rattle.zx_moves.specs.declared.moves.Move.{Move}
use Rattle.zx_moves.specs.Search.{AppliesAt}
use Rattle.zx_moves.proofs.SearchTests.{live_near, near_joined}
use Rattle.zx_moves.proofs.planning.add_steps.Goals as goal

pub add_boundary_steps-requires : goal.add_boundary_steps-requires
add_boundary_steps-requires c =
    let applies = subst (λ (m : Move). AppliesAt c.args.g.now.graph m) c.in-BoundaryPivot.is c.requires.applies in
    live_near c.args.g.now.graph c.in-BoundaryPivot.u c.in-BoundaryPivot.b
    (near_joined c.args.g.now.graph c.requires.valid c.in-BoundaryPivot.u c.in-BoundaryPivot.b applies.adjacent)
