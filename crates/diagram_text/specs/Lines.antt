-- The lines of a diagram file. The form is this project's own; docs/LANGUAGE.md has it on one page.
use Rattle.std.specs.Prelude.{ℕ, ◌++◌, List, [], ◌∷◌, codes, decimal}
use Rattle.std.specs.List.{join_with_byte}
use Rattle.zx_diagram.specs.declared.spider.Colour.{Colour}
use Rattle.zx_diagram.specs.declared.spider.Colour.TheVariants.{Z, X}
use Rattle.zx_text.specs.Lines.{mark}
use Rattle.diagram_text.specs.declared.line.Line.{Line}
use Rattle.diagram_text.specs.declared.line.Line.TheVariants.{Spider, Edge, Input, Output, End}

abbrev pub colour_name : Colour → List ℕ
colour_name Z = codes "Z"
colour_name X = codes "X"

-- the parts of a line; numbers are decimal, without leading zeros
abbrev pub parts : Line → List (List ℕ)
parts (Spider number colour phase) = codes "spider" ∷ decimal number ∷ colour_name colour ∷ decimal phase ∷ []
parts (Edge e) = codes "edge" ∷ decimal e.a ∷ decimal e.b ∷ mark e.hadamard ∷ []
parts (Input leg) = codes "input" ∷ decimal leg.spider ∷ mark leg.hadamard ∷ []
parts (Output leg) = codes "output" ∷ decimal leg.spider ∷ mark leg.hadamard ∷ []
parts End = codes "end" ∷ []

-- parts are separated by one space
abbrev pub text_of : Line → List ℕ
text_of line = join_with_byte 32 (parts line)

-- a line ends with a line feed
abbrev pub spelled_line : Line → List ℕ
spelled_line line = text_of line ++ codes "\n"
