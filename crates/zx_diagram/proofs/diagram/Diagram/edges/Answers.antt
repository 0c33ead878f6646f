-- The diagram's own invariant.
use Rattle.std.proofs.Common.{subst}
use Rattle.zx_diagram.specs.Diagram.{IsDiagram}
use Rattle.zx_diagram.proofs.diagram.Diagram.edges.Goals as goal

pub returns-clause-valid : goal.returns-clause-valid
returns-clause-valid c = subst IsDiagram c.self.view_is c.self.invariant
