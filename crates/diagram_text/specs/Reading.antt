-- Which texts are diagram files, and what is wrong with those that aren't.
use Rattle.std.specs.Prelude.{◌≡◌, ℕ, ◌%◌, ◌≤◌, Bool, true, not, ◌||◌, ◌&&◌}
use Rattle.std.specs.Prelude.{◌==◌, ltb, nat_le, List, [], ◌∷◌, length}
use Rattle.std.specs.List.{list_all}
use Rattle.zx_model.specs.Phase.{turn}
use Rattle.zx_diagram.specs.declared.spider.Spider.{Spider}
use Rattle.zx_diagram.specs.declared.wire.Wire.{Wire}
use Rattle.zx_diagram.specs.Diagram.{Diagram}
use Rattle.zx_text.specs.Files.{Version, unit}
use Rattle.zx_text.specs.BadLines.{IsFirstBad}
use Rattle.zx_text.specs.Reading.{most_ends}
use Rattle.diagram_text.specs.Files.{spelled}

-- whether an edge may stand right before another: by the first spiders, then by the second ones, and of two edges
-- between the same spiders the plain one comes first
abbrev pub may_precede : Wire → Wire → Bool
may_precede d e =
    ltb d.a e.a || ((d.a == e.a) && (ltb d.b e.b || ((d.b == e.b) && (not d.hadamard || e.hadamard))))

abbrev pub are_sorted : List Wire → Bool
are_sorted [] = true
are_sorted (e ∷ []) = true
are_sorted (d ∷ e ∷ es) = may_precede d e && are_sorted (e ∷ es)

-- whether the version can write the phase
abbrev pub has_phase_of : Version → Spider → Bool
has_phase_of version s = ltb s.phase turn && (s.phase % unit version == 0)

-- whether an edge is between two of so many spiders, the lower one first
abbrev pub is_edge_among : ℕ → Wire → Bool
is_edge_among spiders e = nat_le e.a e.b && ltb e.b spiders

-- what a file may say: a diagram with phases that the version can write, edges in their order, and at most 1,024
-- inputs and as many outputs
pub record IsFile (version : Version) (d : Diagram) : Type 0 where
  pub phases : list_all (has_phase_of version) d.spiders ≡ true
  pub edges : list_all (is_edge_among (length d.spiders)) d.edges ≡ true
  pub sorted : are_sorted d.edges ≡ true
  pub inputs : list_all (λ leg. ltb leg.spider (length d.spiders)) d.inputs ≡ true
  pub outputs : list_all (λ leg. ltb leg.spider (length d.spiders)) d.outputs ≡ true
  pub few_inputs : length d.inputs ≤ most_ends
  pub few_outputs : length d.outputs ≤ most_ends

-- the text is a file of this diagram
pub record SpellsDiagram (text : List ℕ) (d : Diagram) : Type 0 where
  pub version : Version
  pub file : IsFile version d
  pub bytes : text ≡ spelled version d

-- the text is a file of some diagram
pub record IsFileText (text : List ℕ) : Type 0 where
  pub diagram : Diagram
  pub spells : SpellsDiagram text diagram

-- the line is the first one with which no file begins
abbrev pub IsBadLine : List ℕ → ℕ → Type 0
IsBadLine text line = IsFirstBad IsFileText text line
