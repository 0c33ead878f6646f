-- Steps that were applied, one after the other.
use Rattle.std.proofs.Common.{ap, subst, List, [], ◌∷◌, map}
use Rattle.zx_calculus.specs.Graph.{WellFormed}
use Rattle.zx_calculus.specs.Steps.{IsRun}
use Rattle.gflow_laws.specs.Flow.{IsFlow}
use Rattle.gflow_laws.specs.Kept.{IsKept}
use Rattle.gflow_laws.proofs.Steps.{run_keeps}
use Rattle.graph_rewrites.specs.declared.step.Step.{Step}
use Rattle.graph_rewrites.specs.Steps.{step_named}
use Rattle.flow_rewrites.specs.Applied.{State, AreApplied}

pub applied_run : (s : State) (steps : List Step) (t : State) → AreApplied s steps t → IsRun s.graph (map step_named steps) t.graph
applied_run s [] t same = ap (λ (k : State). k.graph) same
applied_run s (step ∷ steps) t r = (r.0.graph, r.1.step, applied_run r.0 steps t r.2)

pub applied_flow : (s : State) (steps : List Step) (t : State) → WellFormed s.graph → IsFlow s.graph s.flow → AreApplied s steps t → IsFlow t.graph t.flow
applied_flow s [] t wf flow same = subst (λ (k : State). IsFlow k.graph k.flow) same flow
applied_flow s (step ∷ steps) t wf flow r =
    applied_flow r.0 steps t r.1.valid r.1.flow r.2

pub applied_kept : (s : State) (steps : List Step) (t : State) → WellFormed s.graph → IsFlow s.graph s.flow → AreApplied s steps t → IsKept s.graph t.graph
applied_kept s steps t wf flow r = run_keeps s.graph (map step_named steps) t.graph s.flow wf (applied_run s steps t r) flow
