-- What a step does to the groups, by its note.
use Rattle.std.specs.Prelude.{◌≡◌, ◌==◌, ℕ, if◌then◌else◌, None}
use Rattle.phase_groups.specs.Groups.{Phases, group_of, turned_group, IsLost, IsFused}
use Rattle.phase_groups.specs.Internal.Noting.{stands_odd}
use Rattle.phase_groups.specs.declared.notes.Note.{Note}
use Rattle.phase_groups.specs.declared.notes.Parting.{Parting}
use Rattle.phase_groups.specs.declared.notes.Parting.TheVariants as partings

-- v holds no phase any more
abbrev pub IsEmptied : ℕ → Phases → Phases → Type 0
IsEmptied v p q = (w : ℕ) → group_of q w ≡ (if w == v then None else group_of p w)

-- what becomes of the group of the vertex that goes
abbrev pub HasParted : Parting → Phases → Phases → Type 0
HasParted partings.Nowhere p q = q ≡ p
HasParted (partings.Deleted u) p q = IsEmptied u p q × (q.phases ≡ p.phases)
HasParted (partings.Dropped u) p q = IsEmptied u p q × IsLost (group_of p u) p q
HasParted (partings.Fused from into) p q = IsFused from into p q

-- groups are negated as the note says, and then the vertex goes
pub record IsTaken (note : Note) (p q : Phases) : Type 0 where
  pub turned : Phases
  pub groups : (w : ℕ) → group_of turned w ≡ turned_group (stands_odd note.negated.items w) (group_of p w)
  pub phases : turned.phases ≡ p.phases
  pub parted : HasParted note.parting turned q
