-- Formal names of gates by their places in a list.
use Rattle.std.specs.Prelude.{◌≡◌, ℕ, List}
use Rattle.std.specs.List.{position_from}
use Rattle.std.specs.Str.{bytes_eq}
use Rattle.qasm_scope.specs.Angles.{FormalPlaces}
use Rattle.qasm_names.specs.declared.places.Places.{Places}
use Rattle.qasm_names.specs.Kept.{found}

-- the place of a name, if it has one
abbrev pub place_in : Places → FormalPlaces
place_in places name = found name places.places

-- the places are those of these names; of equal names the first counts
abbrev pub ArePlaces : Places → List (List ℕ) → Type 0
ArePlaces places names = (name : List ℕ) → place_in places name ≡ position_from (λ other. bytes_eq other name) 0 names
