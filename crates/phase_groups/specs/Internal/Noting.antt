-- What a rewrite does to the phases of vertices, as it is noted.
use Rattle.std.specs.Prelude.{◌≡◌, ◌==◌, ℕ, Bool, false, List, [], ◌∷◌}
use Rattle.zx_model.specs.Bits.{xor}
use Rattle.zx_calculus.specs.Graph.{Graph}
use Rattle.zx_calculus.specs.Steps.{Step, Delete, DropLone, FuseInto, FuseTwin}
use Rattle.teleport_laws.specs.Shifts.{negates, into_of}
use Rattle.phase_groups.specs.declared.notes.Note.{Note}
use Rattle.phase_groups.specs.declared.notes.Parting.{Parting}
use Rattle.phase_groups.specs.declared.notes.Parting.TheVariants as partings

-- whether v stands in a list an odd number of times
abbrev pub stands_odd : List ℕ → ℕ → Bool
stands_odd [] v = false
stands_odd (w ∷ ws) v = xor (v == w) (stands_odd ws v)

-- where the phase of the vertex goes that goes with a step
abbrev pub parting_by : Graph → Step → Parting
parting_by g (Delete u) = partings.Deleted u
parting_by g (DropLone u) = partings.Dropped u
parting_by g (FuseInto u) = partings.Fused u (into_of g u)
parting_by g (FuseTwin u w) = partings.Fused w u
parting_by g other = partings.Nowhere

-- the note says which phases the step negates, and where that goes of the vertex which goes
pub record IsNoted (g : Graph) (s : Step) (note : Note) : Type 0 where
  pub negated : (v : ℕ) → stands_odd note.negated.items v ≡ negates g s v
  pub parting : note.parting ≡ parting_by g s
