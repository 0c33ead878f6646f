-- Gates whose phases are held together by vertices of a graph that is rewritten, and the phases that they have by now.
-- Kissinger and van de Wetering, "Reducing the number of non-Clifford gates in quantum circuits" (Phys. Rev. A 102,
-- 022406, 2020), on phase teleportation.
use Rattle.std.specs.Prelude.{◌≡◌, ◌<◌, ◌==◌, ℕ, Bool, false, if◌then◌else◌, ltb, Option, Some, None}
use Rattle.std.specs.Prelude.{List, [], ◌∷◌, length, get_or}
use Rattle.zx_model.specs.Bits.{xor}
use Rattle.zx_model.specs.Phase.{sum_of_phases}
use Rattle.zx_calculus.specs.Graph.{Graph}
use Rattle.zx_calculus.specs.Steps.{Step, Delete, DropLone, FuseInto, FuseTwin, IsStep}
use Rattle.teleport_laws.specs.Shifts.{signed, negates, into_of}
use Rattle.vertex_map.specs.Values.{value_at}
use Rattle.phase_groups.specs.declared.groups.Group.{Group}

-- what is seen of them: the groups of vertices by number, and the phases of gates by number
pub record Phases : Type 0 where
  pub held : List (Option Group)
  pub phases : List ℕ

-- the group that a vertex holds
abbrev pub group_of : Phases → ℕ → Option Group
group_of p v = value_at (λ w. None) p.held v

-- the phase that a gate has by now
abbrev pub phase_of_gate : Phases → ℕ → ℕ
phase_of_gate p i = get_or p.phases i 0

-- no vertex holds a phase, and no one of so many gates has one
pub record AreNone (gates : ℕ) (p : Phases) : Type 0 where
  pub groups : (v : ℕ) → group_of p v ≡ None
  pub count : length p.phases ≡ gates
  pub none : (i : ℕ) → phase_of_gate p i ≡ 0

-- the group of a gate alone
abbrev pub alone : ℕ → Group
alone i = record { first = i; negated = false }

-- with one more gate, behind all others
abbrev pub with_gate : ℕ → Option Group → Group
with_gate i None = alone i
with_gate i (Some group) = group

-- with its phase negated once more, or not
abbrev pub turned_group : Bool → Option Group → Option Group
turned_group b None = None
turned_group b (Some group) = Some (record { first = group.first; negated = xor group.negated b })

-- as many gates, of which this one has this phase, and the others theirs
pub record HavePhase (i k : ℕ) (p q : Phases) : Type 0 where
  pub count : length q.phases ≡ length p.phases
  pub phase : i < length p.phases → phase_of_gate q i ≡ k
  pub others : (j : ℕ) → (j == i) ≡ false → phase_of_gate q j ≡ phase_of_gate p j

-- v holds the phase k of the gate i as well
pub record IsAdded (i v k : ℕ) (p q : Phases) : Type 0 where
  pub groups : (w : ℕ) → group_of q w ≡ (if w == v then Some (with_gate i (group_of p v)) else group_of p w)
  pub phases : let group = with_gate i (group_of p v) in
      HavePhase group.first (sum_of_phases (phase_of_gate p group.first) (signed group.negated k)) p q

-- the group of a vertex that goes is lost: its first gate has no phase any more
abbrev pub IsLost : Option Group → Phases → Phases → Type 0
IsLost None p q = q.phases ≡ p.phases
IsLost (Some group) p q = HavePhase group.first 0 p q

-- of two groups the one with the first gate, and the other one
abbrev pub earlier_of : Group → Group → Group
earlier_of gone there = if ltb gone.first there.first then gone else there

abbrev pub later_of : Group → Group → Group
later_of gone there = if ltb gone.first there.first then there else gone

-- the group of two vertices together
abbrev pub joined_groups : Option Group → Option Group → Option Group
joined_groups None there = there
joined_groups (Some gone) None = Some gone
joined_groups (Some gone) (Some there) = Some (earlier_of gone there)

-- the first gate of the one group has the phase of that of the other as well, with the sign that is between them, and
-- the other none
pub record ArePutTogether (one other : Group) (p q : Phases) : Type 0 where
  pub count : length q.phases ≡ length p.phases
  pub of_one : (one.first == other.first) ≡ false → one.first < length p.phases → phase_of_gate q one.first
      ≡ sum_of_phases (phase_of_gate p one.first) (signed (xor one.negated other.negated) (phase_of_gate p other.first))
  pub of_other : (one.first == other.first) ≡ false → other.first < length p.phases → phase_of_gate q other.first ≡ 0
  pub others : (j : ℕ) → (j == one.first) ≡ false → (j == other.first) ≡ false → phase_of_gate q j ≡ phase_of_gate p j

-- what becomes of the phases where two groups meet
abbrev pub ArePhasesJoined : Option Group → Option Group → Phases → Phases → Type 0
ArePhasesJoined None there p q = q.phases ≡ p.phases
ArePhasesJoined (Some gone) None p q = q.phases ≡ p.phases
ArePhasesJoined (Some gone) (Some there) p q = ArePutTogether (earlier_of gone there) (later_of gone there) p q

-- what `from` held is held by `into` as well
pub record IsFused (from into : ℕ) (p q : Phases) : Type 0 where
  pub groups : (w : ℕ) → group_of q w ≡ (if w == into then joined_groups (group_of p from) (group_of p into)
      else if w == from then None else group_of p w)
  pub phases : ArePhasesJoined (group_of p from) (group_of p into) p q

-- what a step does to the groups
abbrev pub IsFollowed : Graph → Step → Phases → Phases → Type 0
IsFollowed g (Delete u) p q =
    ((w : ℕ) → group_of q w ≡ (if w == u then None else turned_group (negates g (Delete u) w) (group_of p w)))
    × (q.phases ≡ p.phases)
IsFollowed g (DropLone u) p q =
    ((w : ℕ) → group_of q w ≡ (if w == u then None else group_of p w)) × IsLost (group_of p u) p q
IsFollowed g (FuseInto u) p q = IsFused u (into_of g u) p q
IsFollowed g (FuseTwin u w) p q = IsFused w u p q
IsFollowed g s p q =
    ((w : ℕ) → group_of q w ≡ turned_group (negates g s w) (group_of p w)) × (q.phases ≡ p.phases)

-- the steps of a run lead from g to h, and each does to the groups what it does
abbrev pub FollowRun : Graph → List Step → Graph → Phases → Phases → Type 0
FollowRun g [] h p q = (g ≡ h) × (p ≡ q)
FollowRun g (s ∷ steps) h p q =
    (k : Graph) × (m : Phases) × IsStep g s k × IsFollowed g s p m × FollowRun k steps h m q
