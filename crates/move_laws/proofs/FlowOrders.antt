-- What rewrites do to the order along which a graph has a flow.
use Rattle.std.proofs.Common.{◌≡◌, refl, ◌∙◌, ap, ℕ, eqb, List, [], ◌∷◌}
use Rattle.zx_calculus.specs.Graph.{Graph, WellFormed}
use Rattle.zx_calculus.specs.Steps.{Step, IsStep, LocalComplement, Delete, Pivot, SplitInput, SplitOutput, DropLone, FuseInto, FuseTwin}
use Rattle.zx_calculus.proofs.Ids.{removed, by_test}
use Rattle.gflow_laws.specs.Seen.{seen, complemented}
use Rattle.gflow_laws.specs.Flow.{Correction, order_of}
use Rattle.gflow_laws.specs.Tables.{without_set}
use Rattle.gflow_laws.specs.Complements.{complement_table}
use Rattle.gflow_laws.specs.Removals.{removal_table}
use Rattle.gflow_laws.specs.Steps.{table_after}
use Rattle.gflow_laws.specs.Seen.{Seen}
use Rattle.gflow_laws.proofs.Tables.{order_of-with_sets, order_of-without_set, order_of-append}
use Rattle.gflow_laws.proofs.Steps.{step_flow}
use Rattle.move_laws.specs.Orders.{HasFlowAlong, order_after, order_without}

removed-filter : (u : ℕ) (vs : List ℕ) → removed u vs ≡ order_without u vs
removed-filter u [] = refl
removed-filter u (v ∷ vs) = by_test (eqb u v) (λ t. rw t (removed-filter u vs)) (λ f. rw f (ap (λ l. v ∷ l) (removed-filter u vs)))

after_complement : (s : Seen) (u : ℕ) (table : List Correction) → order_of (complement_table s u table) ≡ order_of table
after_complement s u table = order_of-with_sets _ table

after_removal : (u : ℕ) (table : List Correction) → order_of (removal_table u table) ≡ order_without u (order_of table)
after_removal u table = order_of-with_sets _ (without_set u table) ∙ order_of-without_set u table ∙ removed-filter u (order_of table)

order_of-table_after : (g : Graph) (s : Step) (table : List Correction) → order_of (table_after g s table) ≡ order_after g s (order_of table)
order_of-table_after g (LocalComplement u) table = after_complement (seen g) u table
order_of-table_after g (Delete u) table = after_removal u table
order_of-table_after g (Pivot u v) table =
    after_complement (complemented (complemented (seen g) u) v) u (complement_table (complemented (seen g) u) v (complement_table (seen g) u table))
    ∙ after_complement (complemented (seen g) u) v (complement_table (seen g) u table)
    ∙ after_complement (seen g) u table
order_of-table_after g (SplitInput b) table = refl
order_of-table_after g (SplitOutput b) table = order_of-append table _
order_of-table_after g (DropLone u) table = after_removal u table
order_of-table_after g (FuseInto u) table = after_removal u table
order_of-table_after g (FuseTwin u v) table = after_removal v table

pub kept_along : (g : Graph) (s : Step) (h : Graph) (order : List ℕ) → WellFormed g → IsStep g s h → HasFlowAlong g order → HasFlowAlong h (order_after g s order)
kept_along g s h order formed step f = record {
  table = table_after g s f.table;
  flow = step_flow g s h f.table formed step f.flow;
  along = order_of-table_after g s f.table ∙ ap (order_after g s) f.along;
}
