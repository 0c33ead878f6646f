-- Orders along which a graph has a flow, and what rewrites do to them.
-- Backens, Miller-Bakewell, de Felice, Lobski and van de Wetering, "There and back again: a circuit
-- extraction tale" (Quantum 5, 421, 2021), where rewrites that preserve the existence of a
-- generalised flow are treated; here the order is told, and the sets are not.
use Rattle.std.specs.Prelude.{◌≡◌, ℕ, Bool, true, false, not, ◌==◌, List, [], ◌∷◌, ◌++◌, filter}
use Rattle.zx_calculus.specs.Graph.{Graph}
use Rattle.zx_calculus.specs.Splits.{new_vertex}
use Rattle.zx_calculus.specs.Steps.{Step, LocalComplement, Delete, Pivot, SplitInput, SplitOutput}
use Rattle.zx_calculus.specs.Steps.{DropLone, FuseInto, FuseTwin}
use Rattle.gflow_laws.specs.Flow.{Correction, order_of, IsFlow}

-- some sets make this order a flow of the graph
pub record HasFlowAlong (g : Graph) (order : List ℕ) : Type 0 where
  pub table : List Correction
  pub flow : IsFlow g table
  pub along : order_of table ≡ order

-- the order without u
abbrev pub order_without : ℕ → List ℕ → List ℕ
order_without u order = filter (λ v. not (u == v)) order

-- the order after a step of g
abbrev pub order_after : Graph → Step → List ℕ → List ℕ
order_after g (LocalComplement u) order = order
order_after g (Delete u) order = order_without u order
order_after g (Pivot u v) order = order
order_after g (SplitInput b) order = new_vertex g ∷ order
order_after g (SplitOutput b) order = order ++ b ∷ []
order_after g (DropLone u) order = order_without u order
order_after g (FuseInto u) order = order_without u order
order_after g (FuseTwin u v) order = order_without v order

-- whether the step splits an end, so that a vertex comes into the order
abbrev pub is_split : Step → Bool
is_split (LocalComplement u) = false
is_split (Delete u) = false
is_split (Pivot u v) = false
is_split (SplitInput b) = true
is_split (SplitOutput b) = true
is_split (DropLone u) = false
is_split (FuseInto u) = false
is_split (FuseTwin u v) = false
