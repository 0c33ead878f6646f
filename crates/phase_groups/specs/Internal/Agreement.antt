-- When groups of gates and their phases are those of gates at given spots.
-- Kissinger and van de Wetering, "Reducing the number of non-Clifford gates in quantum circuits" (Phys. Rev. A 102,
-- 022406, 2020), on phase teleportation: phases that meet in one vertex are one phase.
use Rattle.std.specs.Prelude.{◌≡◌, ◌<◌, ℕ, true, false, Option, None, Some, List, length}
use Rattle.zx_model.specs.Bits.{member}
use Rattle.teleport_laws.specs.Spots.{At, Spot}
use Rattle.teleport_laws.specs.Groups.{same_holder, first_of, teleported}
use Rattle.teleport_laws.specs.Internal.Rising.{AreRising}
use Rattle.phase_groups.specs.Groups.{Phases, group_of, phase_of_gate}
use Rattle.phase_groups.specs.declared.groups.Group.{Group}

-- of the gates that a vertex holds this is the first, with its sign
pub record IsFirstAt (spot : ℕ → Spot) (gates : List ℕ) (v : ℕ) (group : Group) : Type 0 where
  pub there : member group.first gates ≡ true
  pub at : same_holder (spot group.first).holder (At v) ≡ true
  pub first : first_of spot gates (At v) ≡ group.first
  pub negated : group.negated ≡ (spot group.first).negated

-- the group that a vertex has: none where it holds no gate's phase, else its first gate
abbrev pub IsGroupAt : (ℕ → Spot) → List ℕ → ℕ → Option Group → Type 0
IsGroupAt spot gates v None = (i : ℕ) → member i gates ≡ true → same_holder (spot i).holder (At v) ≡ false
IsGroupAt spot gates v (Some group) = IsFirstAt spot gates v group

-- the groups and phases are those of gates at these spots, the gates by rising numbers
pub record Agrees (phase : ℕ → ℕ) (gates : List ℕ) (spot : ℕ → Spot) (p : Phases) : Type 0 where
  pub rising : AreRising gates
  pub known : (i : ℕ) → member i gates ≡ true → i < length p.phases
  pub phases : (i : ℕ) → member i gates ≡ true → phase_of_gate p i ≡ teleported phase spot gates i
  pub others : (i : ℕ) → member i gates ≡ false → phase_of_gate p i ≡ 0
  pub groups : (v : ℕ) → IsGroupAt spot gates v (group_of p v)
