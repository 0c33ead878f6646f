-- The conditions at a vertex as the code tests them.
use Rattle.std.specs.Prelude.{◌≡◌, Bool, true, not, ◌&&◌, ◌||◌, List, Option, Some, None}
use Rattle.std.specs.List.{list_all}
use Rattle.zx_calculus.specs.Graph.{Plane, XY, XZ, YZ, is_XY, is_XZ, is_YZ}
use Rattle.flow_check.specs.declared.verdict.Condition.{Condition}
use Rattle.flow_check.specs.declared.verdict.Condition.TheVariants as failing
use Rattle.flow_check.specs.Failures.{IsFirstToFail}

-- the first in a list that doesn't pass a test, if there is one
abbrev pub IsFirstOrNone : {A : Type 0} → (A → Bool) → List A → Option A → Type 0
IsFirstOrNone passes xs None = list_all passes xs ≡ true
IsFirstOrNone passes xs (Some x) = IsFirstToFail passes xs x

-- the condition of a plane, by whether the vertex is in its set, and whether it has an odd number of neighbours there
abbrev pub plane_test : Plane → Bool → Bool → Bool
plane_test XY inside odd = not inside && odd
plane_test XZ inside odd = inside && odd
plane_test YZ inside odd = inside && not odd

-- whether a condition holds of a vertex of a plane, by the same, where those that are not of a plane hold
abbrev pub holds_in_plane : Plane → Bool → Bool → Condition → Bool
holds_in_plane plane inside odd failing.XY = not (is_XY plane) || plane_test XY inside odd
holds_in_plane plane inside odd failing.XZ = not (is_XZ plane) || plane_test XZ inside odd
holds_in_plane plane inside odd failing.YZ = not (is_YZ plane) || plane_test YZ inside odd
holds_in_plane plane inside odd condition = true
