-- Lists of ids in rising order.
use Rattle.std.specs.Prelude.{ℕ, if◌then◌else◌, ltb, leb, List, [], ◌∷◌}
use Rattle.std.specs.Prelude.{filter}

-- the list with v before the first that is above it
abbrev pub inserted : ℕ → List ℕ → List ℕ
inserted v [] = v ∷ []
inserted v (w ∷ ws) = if ltb v w then v ∷ (w ∷ ws) else w ∷ inserted v ws

-- those that are no less than a number
abbrev pub not_below : ℕ → List ℕ → List ℕ
not_below start ids = filter (leb start) ids
