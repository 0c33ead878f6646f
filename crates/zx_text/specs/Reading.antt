-- Which texts are graph files, and what is wrong with those that aren't.
use Rattle.std.specs.Prelude.{◌≡◌, ℕ, ◌%◌, ◌≤◌, Bool, true, false, ◌==◌, ltb}
use Rattle.std.specs.Prelude.{List, length, Option, None, Some, IfSome}
use Rattle.std.specs.List.{list_all, range_with_len}
use Rattle.zx_calculus.specs.Graph.{Graph, WellFormed, ids, in_order}
use Rattle.gflow_laws.specs.Flow.{Correction, IsTableOf, order_of, set_of}
use Rattle.gflow_laws.specs.Seen.{seen}
use Rattle.zx_text.specs.Files.{Version, unit, spelled}
use Rattle.zx_text.specs.BadLines.{IsFirstBad}

abbrev pub most_bytes : ℕ
most_bytes = 16777216

abbrev pub most_ends : ℕ
most_ends = 1024

-- the order holds each vertex without an output once and nothing else, and the sets hold vertices, by rising id
pub record IsFlowOfFile (g : Graph) (table : List Correction) : Type 0 where
  pub order : IsTableOf (seen g) table
  pub rising : list_all (λ v. in_order ltb (set_of table v)) (order_of table) ≡ true

-- what a file may say: a graph whose ids are 0, 1, 2 and so on, with at most 1,024 inputs and as many outputs, phases
-- that the version can write, and where there is a flow, one of that graph's vertices
pub record IsFile (version : Version) (g : Graph) (table : Option (List Correction)) : Type 0 where
  pub graph : WellFormed g
  pub numbered : ids g.vertices ≡ range_with_len 0 (length g.vertices)
  pub phases : list_all (λ v. v.kind.phase % unit version == 0) g.vertices ≡ true
  pub few_inputs : length g.inputs ≤ most_ends
  pub few_outputs : length g.outputs ≤ most_ends
  pub flow : IfSome table (IsFlowOfFile g)

-- the text is a file of this graph, and of this table where it has a flow
pub record Spells (text : List ℕ) (g : Graph) (table : Option (List Correction)) : Type 0 where
  pub version : Version
  pub file : IsFile version g table
  pub bytes : text ≡ spelled version g table

-- which files are wanted: all, or only those that have a flow
pub data Wanted : Type 0 where
  AnyFile OnlyWithFlow : Wanted

abbrev pub is_wanted : Wanted → Option (List Correction) → Bool
is_wanted AnyFile table = true
is_wanted OnlyWithFlow None = false
is_wanted OnlyWithFlow (Some table) = true

-- the text is a wanted file of some graph
pub record IsFileText (wanted : Wanted) (text : List ℕ) : Type 0 where
  pub graph : Graph
  pub table : Option (List Correction)
  pub spells : Spells text graph table
  pub is_wanted : is_wanted wanted table ≡ true

-- the line is the first one with which no wanted file begins
abbrev pub IsBadLine : Wanted → List ℕ → ℕ → Type 0
IsBadLine wanted text line = IsFirstBad (IsFileText wanted) text line
