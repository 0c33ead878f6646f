-- What every rewrite keeps: that it is its step and that its sets are those of the step is all that it has to show.
use Rattle.std.proofs.Common.{◌≡◌, ◌≢◌, sym, ap, ℕ, true, List}
use Rattle.zx_model.specs.Bits.{member}
use Rattle.zx_calculus.specs.Graph.{XY, Graph, plane_of, IsVertex, Interior, WellFormed}
use Rattle.zx_calculus.specs.Steps.{Step, IsStep}
use Rattle.zx_calculus.proofs.Splitting.{interior_of, off_XY}
use Rattle.zx_calculus.proofs.Steps.{step_kept, step_sum_times, step_odd}
use Rattle.gflow_laws.specs.Seen.{seen}
use Rattle.gflow_laws.specs.Flow.{Correction, order_of, set_of, is_in, IsFlow, SameSets}
use Rattle.gflow_laws.specs.Steps.{table_after}
use Rattle.gflow_laws.specs.Rewritten.{IsRewritten}
use Rattle.gflow_laws.proofs.Flows.{listed, Flows-from}
use Rattle.gflow_laws.proofs.Seeing.{flow-same_sets}
use Rattle.gflow_laws.proofs.Steps.{step_flow}

pub rewritten : {g : Graph} {s : Step} {h : Graph} {table after : List Correction} →
    WellFormed g → IsFlow g table → IsStep g s h → SameSets after (table_after g s table) →
    IsRewritten g table s h after
rewritten {g} {s} {h} {table} {after} w flow step same = record {
  step = step;
  table = same;
  valid = step_kept g s h w step;
  flow = flow-same_sets h (table_after g s table) after
      (record { order = sym same.order; members = λ v x. sym (same.members v x) }) (step_flow g s h table w step flow);
  scaled = step_sum_times g s h w step;
  odd = step_odd g s h w step;
}

-- equal tables have equal sets
pub same_of_equal : {table other : List Correction} → table ≡ other → SameSets table other
same_of_equal e = record { order = ap order_of e; members = λ v w. ap (λ t. is_in (set_of t v) w) e }

-- an interior vertex stands in the order
pub interior_listed : (g : Graph) (table : List Correction) (u : ℕ) →
    IsFlow g table → IsVertex g u → Interior g u → member u (order_of table) ≡ true
interior_listed g table u flow there interior =
    listed (seen g) table (Flows-from (seen g) table flow) u there interior.no_output

-- and so does one that isn't XY
pub measured_listed : (g : Graph) (table : List Correction) (u : ℕ) →
    WellFormed g → IsFlow g table → IsVertex g u → plane_of g u ≢ XY → member u (order_of table) ≡ true
measured_listed g table u w flow there plane =
    interior_listed g table u flow there (interior_of g u w (off_XY (plane_of g u) plane))
