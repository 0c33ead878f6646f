-- Groups and phases agree with gates at spots along a run of steps.
use Rattle.std.proofs.Common.{◌≡◌, refl, sym, ◌∙◌, ap, subst, ℕ, zero, suc, List, [], ◌∷◌, length}
use Rattle.zx_calculus.specs.Graph.{Graph, WellFormed}
use Rattle.zx_calculus.specs.Steps.{Step, IsRun}
use Rattle.zx_calculus.proofs.Steps.{step_kept}
use Rattle.teleport_laws.specs.Spots.{Spot, spot_at, moved, carried, ends_up}
use Rattle.teleport_laws.proofs.Carrying.{AreBelow}
use Rattle.teleport_laws.proofs.Forwards.{later_spot, moved-later}
use Rattle.phase_groups.specs.Groups.{Phases, FollowRun}
use Rattle.phase_groups.specs.Internal.Agreement.{Agrees}
use Rattle.phase_groups.proofs.Agreeing.{agrees-step}

-- the run that groups follow
abbrev pub followed_run : (g : Graph) (steps : List Step) (h : Graph) (p q : Phases) → FollowRun g steps h p q → IsRun g steps h
followed_run g [] h p q f = f.0
followed_run g (s ∷ steps) h p q f = (f.0, f.2, followed_run f.0 steps h f.1 q f.4)

-- the spot as it is told where so many steps more are left
abbrev later_by : ℕ → Spot → Spot
later_by zero spot = spot
later_by (suc n) spot = later_spot (later_by n spot)

later_at : (n v : ℕ) → later_by n (spot_at v) ≡ spot_at v
later_at zero v = refl
later_at (suc n) v = ap later_spot (later_at n v)

moved-by : (n : ℕ) (g : Graph) (s : Step) (spot : Spot) → moved n g s (later_by (suc n) spot) ≡ later_by n (moved 0 g s (later_spot spot))
moved-by zero g s spot = refl
moved-by (suc n) g s spot =
    moved-later n g s (later_by (suc n) spot).holder (later_by (suc n) spot).negated ∙ ap later_spot (moved-by n g s spot)

agrees-run : (phase : ℕ → ℕ) → AreBelow phase → (gates : List ℕ) (spot : ℕ → Spot) (g : Graph) (steps : List Step) (h : Graph) (p q : Phases) → WellFormed g →
    (f : FollowRun g steps h p q) → Agrees phase gates spot p → Agrees phase gates (λ i. carried g steps h (followed_run g steps h p q f) (later_by (length steps) (spot i))) q
agrees-run phase low gates spot g [] h p q w f A = subst (Agrees phase gates spot) f.1 A
agrees-run phase low gates spot g (s ∷ steps) h p q w f A =
    subst (λ (spots : ℕ → Spot). Agrees phase gates spots q)
    (λ j i. carried f.0 steps h (followed_run f.0 steps h f.1 q f.4) (sym (moved-by (length steps) g s (spot i)) j))
    (agrees-run phase low gates (λ i. moved 0 g s (later_spot (spot i))) f.0 steps h f.1 q (step_kept g s f.0 w f.2) f.4
    (agrees-step phase low gates spot p f.1 g f.0 s w f.2 A f.3))

-- gates that are held where they come are held at the end where the run carries their phases
pub agrees-ends : (phase : ℕ → ℕ) → AreBelow phase → (gates : List ℕ) (vertex_of : ℕ → ℕ) (g : Graph) (steps : List Step) (h : Graph) (p q : Phases) → WellFormed g →
    (f : FollowRun g steps h p q) → Agrees phase gates (λ i. spot_at (vertex_of i)) p → Agrees phase gates (ends_up g steps h (followed_run g steps h p q f) vertex_of) q
agrees-ends phase low gates vertex_of g steps h p q w f A =
    subst (λ (spots : ℕ → Spot). Agrees phase gates spots q)
    (λ j i. carried g steps h (followed_run g steps h p q f) (later_at (length steps) (vertex_of i) j))
    (agrees-run phase low gates (λ i. spot_at (vertex_of i)) g steps h p q w f A)
