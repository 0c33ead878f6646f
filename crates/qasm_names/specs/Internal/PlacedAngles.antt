-- Expressions of a gate's body, all of which have trees.
use Rattle.std.specs.Prelude.{◌≡◌, Bool, false, ◌||◌, List, map}
use Rattle.std.specs.List.{list_any}
use Rattle.qasm_reader.specs.Syntax.{Formula}
use Rattle.qasm_scope.specs.Angles.{is_unsupported}
use Rattle.qasm_scope.specs.Faults.{has_other_name}
use Rattle.qasm_scope.specs.Angles.{numbered}
use Rattle.qasm_names.specs.declared.places.Places.{Places}
use Rattle.qasm_names.specs.Places.{place_in}
use Rattle.qasm_angle.specs.Trees as tree

-- one of the expressions holds `^`, a function or a name that has no place
abbrev pub any_other : Places → List Formula → Bool
any_other places fs = list_any is_unsupported fs || list_any (has_other_name (place_in places)) fs

-- none of the expressions holds `^`, a function or a name without a place, and these are their trees
pub record ArePlaced (places : Places) (fs : List Formula) (trees : List tree.Tree) : Type 0 where
  pub supported : list_any is_unsupported fs ≡ false
  pub all_placed : list_any (has_other_name (place_in places)) fs ≡ false
  pub same : trees ≡ map (numbered (place_in places)) fs
