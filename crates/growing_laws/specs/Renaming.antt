-- Graphs that differ in their ids alone: a new spider may have the id of a vertex that went.
use Rattle.std.specs.Prelude.{◌≡◌, ℕ, List, map, if◌then◌else◌, ◌==◌}
use Rattle.zx_calculus.specs.Graph.{End, Graph, kind_of, joined, IsVertex, WellFormed}
use Rattle.zx_calculus.specs.Steps.{Step, LocalComplement, Delete, Pivot, SplitInput, SplitOutput, DropLone, FuseInto}
use Rattle.zx_calculus.specs.Steps.{FuseTwin}

abbrev pub renamed_end : (ℕ → ℕ) → End → End
renamed_end to e = record { vertex = to e.vertex; hadamard = e.hadamard }

abbrev pub renamed_ends : (ℕ → ℕ) → List End → List End
renamed_ends to ends = map (renamed_end to) ends

-- the step about the renamed vertices
abbrev pub renamed_step : (ℕ → ℕ) → Step → Step
renamed_step to (LocalComplement u) = LocalComplement (to u)
renamed_step to (Delete u) = Delete (to u)
renamed_step to (Pivot u v) = Pivot (to u) (to v)
renamed_step to (SplitInput b) = SplitInput (to b)
renamed_step to (SplitOutput b) = SplitOutput (to b)
renamed_step to (DropLone u) = DropLone (to u)
renamed_step to (FuseInto u) = FuseInto (to u)
renamed_step to (FuseTwin u v) = FuseTwin (to u) (to v)

-- h is g where each vertex v is called `to v`, and `back` gives the old name
pub record IsRenamed (to back : ℕ → ℕ) (g h : Graph) : Type 0 where
  pub there : (v : ℕ) → IsVertex g v → IsVertex h (to v)
  pub there_back : (v : ℕ) → IsVertex h v → IsVertex g (back v)
  pub same : (v : ℕ) → IsVertex g v → back (to v) ≡ v
  pub same_back : (v : ℕ) → IsVertex h v → to (back v) ≡ v
  pub kinds : (v : ℕ) → IsVertex g v → kind_of h.vertices (to v) ≡ kind_of g.vertices v
  pub edges : (v w : ℕ) → IsVertex g v → IsVertex g w → joined h.edges (to v) (to w) ≡ joined g.edges v w
  pub inputs : h.inputs ≡ renamed_ends to g.inputs
  pub outputs : h.outputs ≡ renamed_ends to g.outputs

-- the naming where v is called w as well
abbrev pub with_name : ℕ → ℕ → (ℕ → ℕ) → ℕ → ℕ
with_name v w name u = if u == v then w else name u

-- two well-formed graphs that differ in their names alone
pub record AreAlike (to back : ℕ → ℕ) (g h : Graph) : Type 0 where
  pub well_formed : WellFormed g
  pub well_formed_too : WellFormed h
  pub renamed : IsRenamed to back g h

-- h is g under these names, where v is called w
abbrev pub IsRenamedWith : ℕ → ℕ → (ℕ → ℕ) → (ℕ → ℕ) → Graph → Graph → Type 0
IsRenamedWith v w to back g h = IsRenamed (with_name v w to) (with_name w v back) g h
