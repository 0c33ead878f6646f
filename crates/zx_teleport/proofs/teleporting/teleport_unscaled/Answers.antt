-- The groups of gates followed the steps.
use Rattle.std.proofs.Common.{subst}
use Rattle.zx_calculus.specs.Graph.{Graph}
use Rattle.zx_calculus.specs.StepScalars.{IsSumTimes}
use Rattle.zx_teleport.proofs.Held.{followed_teleported}
use Rattle.zx_teleport.proofs.teleporting.teleport_unscaled.Goals as goal

pub returns-clause-teleported : goal.returns-clause-teleported
returns-clause-teleported c =
    followed_teleported c.args.read.now c.in_ok-gates.gates c.in_ok-held.held c.in_ok-made.groups c.in_ok-placed.placed.graph.graph _ c.in_ok-made.made.graph.graph
    c.in_ok-placed.ensures.translation.graph c.in_ok-made.ensures.groups c.in_ok-held.ensures c.in_ok-made.ensures.reduces.reduced
    c.in_ok-gates.ensures.circuit c.in_ok-gates.ensures.qubits c.in_ok-gates.ensures.gates

pub returns-clause-before : goal.returns-clause-before
returns-clause-before c =
    subst (λ (g : Graph). IsSumTimes g c.in_ok-made.made.scalar c.in_ok-made.made.graph.graph) c.in_ok-placed.ensures.translation.graph c.in_ok-made.ensures.reduces.scalar
