-- The lines of a graph file. The form is this project's own; docs/LANGUAGE.md has it on one page.
use Rattle.std.specs.Prelude.{ℕ, Bool, true, false, ◌++◌, List, [], ◌∷◌, map, codes, decimal}
use Rattle.std.specs.List.{join_with_byte}
use Rattle.zx_calculus.specs.Graph.{Plane, XY, XZ, YZ}

-- what a line says; ids of vertices are numbers from 0, and the phase of a vertex stands as it is written
pub data Line : Type 0 where
  VertexLine : ℕ → Plane → ℕ → Line
  EdgeLine : ℕ → ℕ → Line
  InputLine : ℕ → Bool → Line
  OutputLine : ℕ → Bool → Line
  FlowLine : Line
  OrderLine : List ℕ → Line
  CorrectLine : ℕ → List ℕ → Line
  EndLine : Line

abbrev pub plane_name : Plane → List ℕ
plane_name XY = codes "XY"
plane_name XZ = codes "XZ"
plane_name YZ = codes "YZ"

-- whether the wire of an end carries a Hadamard
abbrev pub mark : Bool → List ℕ
mark true = codes "had"
mark false = codes "plain"

-- the parts of a line; numbers are decimal, without leading zeros
abbrev pub parts : Line → List (List ℕ)
parts (VertexLine i plane phase) = codes "vertex" ∷ decimal i ∷ plane_name plane ∷ decimal phase ∷ []
parts (EdgeLine a b) = codes "edge" ∷ decimal a ∷ decimal b ∷ []
parts (InputLine v hadamard) = codes "input" ∷ decimal v ∷ mark hadamard ∷ []
parts (OutputLine v hadamard) = codes "output" ∷ decimal v ∷ mark hadamard ∷ []
parts FlowLine = codes "flow" ∷ []
parts (OrderLine vs) = codes "order" ∷ map decimal vs
parts (CorrectLine v ws) = codes "correct" ∷ decimal v ∷ map decimal ws
parts EndLine = codes "end" ∷ []

-- parts are separated by one space, and a line ends with a line feed
abbrev pub spelled_line : Line → List ℕ
spelled_line line = join_with_byte 32 (parts line) ++ codes "\n"
