-- Each rewrite, and each list of them, turns a flow of the old graph into a flow of the new one.
use Rattle.std.proofs.Common.{subst, List, [], ◌∷◌}
use Rattle.zx_calculus.specs.Steps.{DropLone, IsStep, Pivot, LocalComplement, Delete, SplitInput, FuseTwin, Step, SplitOutput, FuseInto, IsRun}
use Rattle.zx_calculus.specs.Graph.{WellFormed, Graph}
use Rattle.zx_calculus.proofs.Steps.{step_kept, run_proportional, run_kept, run_odd}
use Rattle.zx_calculus.specs.Splits.{new_vertex}
use Rattle.gflow_laws.specs.Flow.{IsFlow, Correction, SameSets}
use Rattle.gflow_laws.specs.Steps.{table_after}
use Rattle.gflow_laws.specs.Kept.{IsKept}
use Rattle.gflow_laws.specs.Seen.{seen}
use Rattle.gflow_laws.proofs.Removals.{drop_lone_flow, delete_flow, fuse_twin_flow, fuse_into_flow, same-removal_table}
use Rattle.gflow_laws.proofs.Pivots.{pivot_flow, same-pivot_table}
use Rattle.gflow_laws.proofs.Complements.{local_complement_flow, same-complement_table}
use Rattle.gflow_laws.proofs.Splits.{split_input_flow, split_output_flow, same-split_output_table, same-split_input_table}

-- each step turns a flow into a flow
pub step_flow : (g : Graph) (s : Step) (h : Graph) (table : List Correction) → WellFormed g → IsStep g s h → IsFlow g table → IsFlow h (table_after g s table)
step_flow g (LocalComplement u) h table wf step flow = local_complement_flow g u h table wf step flow
step_flow g (Delete u) h table wf step flow = delete_flow g u h table wf step flow
step_flow g (Pivot u v) h table wf step flow = pivot_flow g u v h table wf step flow
step_flow g (SplitInput b) h table wf step flow = split_input_flow g b (new_vertex g) h table wf step flow
step_flow g (SplitOutput b) h table wf step flow = split_output_flow g b (new_vertex g) h table wf step flow
step_flow g (DropLone u) h table wf step flow = drop_lone_flow g u h table wf step flow
step_flow g (FuseInto u) h table wf step flow = fuse_into_flow g u h table wf step flow
step_flow g (FuseTwin u v) h table wf step flow = fuse_twin_flow g u v h table wf step flow

-- and so does each run
pub run_flow : (g : Graph) (steps : List Step) (h : Graph) (table : List Correction) → WellFormed g → IsRun g steps h → IsFlow g table →
    (after : List Correction) × IsFlow h after
run_flow g [] h table wf run flow = (table, subst (λ k. IsFlow k table) run flow)
run_flow g (s ∷ steps) h table wf run flow =
    run_flow run.0 steps h (table_after g s table) (step_kept g s run.0 wf run.1) run.2 (step_flow g s run.0 table wf run.1 flow)

-- what a run leads to is well-formed, has a flow, and its sum is proportional
pub run_keeps : (g : Graph) (steps : List Step) (h : Graph) (table : List Correction) → WellFormed g → IsRun g steps h → IsFlow g table → IsKept g h
run_keeps g steps h table wf run flow =
    let (after, flow_after) = run_flow g steps h table wf run flow in
    record { well_formed = run_kept g steps h wf run; proportional = run_proportional g steps h wf run; table = after; flow = flow_after; no_more_odd = run_odd g steps h wf run }

-- equal sets stay equal through each step
pub same-table_after : (g : Graph) (s : Step) (table other : List Correction) → SameSets table other → SameSets (table_after g s table) (table_after g s other)
same-table_after g (LocalComplement u) table other same = same-complement_table (seen g) u table other same
same-table_after g (Delete u) table other same = same-removal_table u table other same
same-table_after g (Pivot u v) table other same = same-pivot_table (seen g) u v table other same
same-table_after g (SplitInput b) table other same = same-split_input_table b (new_vertex g) table other same
same-table_after g (SplitOutput b) table other same = same-split_output_table b (new_vertex g) table other same
same-table_after g (DropLone u) table other same = same-removal_table u table other same
same-table_after g (FuseInto u) table other same = same-removal_table u table other same
same-table_after g (FuseTwin u v) table other same = same-removal_table v table other same
