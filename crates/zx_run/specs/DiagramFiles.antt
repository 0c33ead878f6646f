-- Diagram files: the first fault of one, and what `graph` writes for it.
use Rattle.std.specs.Prelude.{◌≡◌, ◌<◌, ◌≤◌, ◌⊎◌, ℕ, List, length, None}
use Rattle.zx_model.specs.Proportional.{Proportional}
use Rattle.zx_calculus.specs.Graph.{Graph}
use Rattle.zx_calculus.specs.Sum.{graph_sum}
use Rattle.zx_diagram.specs.Diagram.{Diagram}
use Rattle.zx_diagram.specs.Sum.{diagram_sum}
use Rattle.graph_like.specs.LikeForm.{IsLikeForm}
use Rattle.zx_text.specs.Files.{Two, spelled}
use Rattle.diagram_text.specs.Reading.{SpellsDiagram, IsBadLine}
use Rattle.zx_run.specs.declared.status.Fault.{Fault}
use Rattle.zx_run.specs.declared.status.Fault.TheVariants.{TooLong, BadLine, NotSquare}
use Rattle.zx_run.specs.FirstFault.{most_bytes}

-- the text is a file of this diagram, and isn't too long
pub record IsDiagramFile (text : List ℕ) (diagram : Diagram) : Type 0 where
  pub short : length text ≤ most_bytes
  pub spells : SpellsDiagram text diagram

-- the first fault of a text that is to be a diagram file: too many bytes, or else the first line that doesn't fit
abbrev pub IsFirstDiagramFault : List ℕ → Fault → Type 0
IsFirstDiagramFault text fault =
    ((most_bytes < length text) × (fault ≡ TooLong))
    ⊎ ((length text ≤ most_bytes) × ((line : ℕ) × IsBadLine text line × (fault ≡ BadLine line)))

-- as many outputs as inputs
abbrev pub IsSquare : Diagram → Type 0
IsSquare diagram = length diagram.inputs ≡ length diagram.outputs

-- the first fault of a text that is to be the file of a diagram with as many outputs as inputs
abbrev pub IsFirstSquareFault : List ℕ → Fault → Type 0
IsFirstSquareFault text fault =
    IsFirstDiagramFault text fault
    ⊎ ((diagram : Diagram) × IsDiagramFile text diagram × (IsSquare diagram → ⊥) × (fault ≡ NotSquare))

-- the bytes are what `graph` writes for a text: a diagram's file, and they are the file of its graph-like form, which
-- has the diagram's linear map up to a nonzero scalar, without a flow
pub record IsGraphText (text bytes : List ℕ) : Type 0 where
  pub diagram : Diagram
  pub file : IsDiagramFile text diagram
  pub form : Graph
  pub is_form : IsLikeForm diagram form
  pub same_map : Proportional (length diagram.inputs) (length diagram.outputs) (diagram_sum diagram) (graph_sum form)
  pub spelled : bytes ≡ spelled Two form None
