-- The vertices that classes become, as a table.
use Rattle.std.specs.Prelude.{◌≡◌, ℕ, ◌<◌, ◌≤◌, ◌==◌, List, length, filter, slice_index_or}
use Rattle.zx_diagram.specs.Diagram.{Diagram, numbers_from}
use Rattle.graph_like.specs.declared.homes.Homes.{Homes}
use Rattle.graph_like.specs.Classes.{NamesClasses}
use Rattle.graph_like.specs.LikeForm.{place}

-- the smallest ones of the classes among the first n spiders, in order
abbrev pub leaders_below : (ℕ → ℕ) → ℕ → List ℕ
leaders_below least n = filter (λ u. least u == u) (numbers_from 0 n)

-- each number is named by one that isn't greater, and that is named by itself
pub record IsNaming (least : ℕ → ℕ) : Type 0 where
  pub low : (u : ℕ) → least u ≤ u
  pub named : (u : ℕ) → least (least u) ≡ least u

-- so many classes have the spiders that the table lists, and it has the vertex of each
pub record AreHomes (least : ℕ → ℕ) (homes : List ℕ) (count : ℕ) : Type 0 where
  pub counted : count ≡ length (leaders_below least (length homes))
  pub placed : (u o : ℕ) → u < length homes →
      slice_index_or homes u o ≡ place (least u) (leaders_below least (length homes))

-- one spider more, whose smallest one is `least`: whatever names the classes, the table stays theirs
abbrev pub TakesIn : Homes → ℕ → Homes → Type 0
TakesIn old least new =
    (name : ℕ → ℕ) → IsNaming name → name (length old.vertices.items) ≡ least →
    AreHomes name old.vertices.items old.count → AreHomes name new.vertices.items new.count

-- the vertex of a spider; what isn't a spider has the number behind all vertices
abbrev pub home_of : Homes → ℕ → ℕ
home_of homes u = slice_index_or homes.vertices.items u homes.count

-- the table of the vertices that the classes of a diagram become
pub record AreClassHomes (d : Diagram) (homes : Homes) : Type 0 where
  pub least : ℕ → ℕ
  pub classes : NamesClasses d least
  pub same : length homes.vertices.items ≡ length d.spiders
  pub table : AreHomes least homes.vertices.items homes.count

-- the table is of n spiders, and names vertices below `count`
pub record AreHomesOf (n count : ℕ) (homes : Homes) : Type 0 where
  pub same : length homes.vertices.items ≡ n
  pub within : (u : ℕ) → u < n → home_of homes u < count
