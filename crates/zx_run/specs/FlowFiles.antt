-- Graph files with a flow: the first fault of one, and what `flow` and `reduce` write for it.
use Rattle.std.specs.Prelude.{◌≡◌, ◌<◌, ◌≤◌, ◌⊎◌, ◌++◌, ℕ, List, length, Some, codes, decimal}
use Rattle.zx_calculus.specs.Graph.{Graph}
use Rattle.zx_calculus.specs.Counts.{odd_phases}
use Rattle.zx_calculus.specs.StepScalars.{KeepsMap}
use Rattle.zx_calculus.specs.Reduced.{IsReduced}
use Rattle.zx_calculus.specs.Steps.{Step, IsRun}
use Rattle.gflow_laws.specs.Flow.{Correction, IsFlow}
use Rattle.gflow_laws.specs.Seen.{seen}
use Rattle.flow_check.specs.declared.verdict.Condition.{Condition}
use Rattle.flow_check.specs.declared.verdict.Condition.TheVariants.{Input, Order, Odd, XY, XZ, YZ}
use Rattle.flow_check.specs.Failures.{IsFirstFailure}
use Rattle.zx_text.specs.Files.{Two, spelled}
use Rattle.zx_text.specs.Numbered.{numbered, numbered_flow}
use Rattle.zx_text.specs.Reading.{Spells, OnlyWithFlow, IsBadLine}
use Rattle.zx_run.specs.declared.status.Fault.{Fault}
use Rattle.zx_run.specs.declared.status.Fault.TheVariants.{TooLong, BadLine}
use Rattle.zx_run.specs.declared.status.Status.{Status}
use Rattle.zx_run.specs.declared.status.Status.TheVariants.{Done, No}
use Rattle.zx_run.specs.FirstFault.{most_bytes}

-- the first fault of a text that is to be a graph file with a flow: too many bytes, or else the first line that
-- doesn't fit
abbrev pub IsFirstFileFault : List ℕ → Fault → Type 0
IsFirstFileFault text fault =
    ((most_bytes < length text) × (fault ≡ TooLong))
    ⊎ ((length text ≤ most_bytes) × ((line : ℕ) × IsBadLine OnlyWithFlow text line × (fault ≡ BadLine line)))

-- the text is a file of this graph and this table of corrections, and isn't too long
pub record IsFileOf (text : List ℕ) (graph : Graph) (table : List Correction) : Type 0 where
  pub short : length text ≤ most_bytes
  pub spells : Spells text graph (Some table)

-- the text is a graph file with a flow, which may hold or not
abbrev pub IsFlowFile : List ℕ → Type 0
IsFlowFile text = (graph : Graph) × (table : List Correction) × IsFileOf text graph table

-- the text is such a file, and its table is a flow of the graph
abbrev pub HoldsFlow : List ℕ → Type 0
HoldsFlow text = (graph : Graph) × (table : List Correction) × IsFileOf text graph table × IsFlow graph table

-- the text is such a file, but its table isn't a flow of the graph
abbrev pub HoldsNoFlow : List ℕ → Type 0
HoldsNoFlow text = IsFlowFile text × (HoldsFlow text → ⊥)

-- the answer is Done where the table is a flow, and No where it isn't
abbrev pub IsVerdictOn : List ℕ → Status → Type 0
IsVerdictOn text status = ((status ≡ Done) × HoldsFlow text) ⊎ ((status ≡ No) × HoldsNoFlow text)

-- ---- what is written

abbrev pub condition_name : Condition → List ℕ
condition_name Input = codes "input"
condition_name Order = codes "order"
condition_name Odd = codes "odd"
condition_name XY = codes "XY"
condition_name XZ = codes "XZ"
condition_name YZ = codes "YZ"

abbrev pub fails_line : ℕ → Condition → List ℕ
fails_line vertex condition = codes "fails " ++ decimal vertex ++ codes " " ++ condition_name condition ++ codes "\n"

-- the bytes name the first vertex of the order at which a condition fails, and the first that fails there
pub record IsFailureLine (graph : Graph) (table : List Correction) (bytes : List ℕ) : Type 0 where
  pub vertex : ℕ
  pub condition : Condition
  pub first : IsFirstFailure (seen graph) table vertex condition
  pub spelled : bytes ≡ fails_line vertex condition

-- the bytes are the file of a reduced graph and a flow of it; rewrites lead there from this graph, whose sum it has up
-- to a nonzero scalar, with no more odd phases
pub record IsReducedFile (graph : Graph) (bytes : List ℕ) : Type 0 where
  pub steps : List Step
  pub end : Graph
  pub flow : List Correction
  pub run : IsRun graph steps end
  pub reduced : IsReduced end
  pub map : KeepsMap graph end
  pub odd : odd_phases end ≤ odd_phases graph
  pub is_flow : IsFlow end flow
  pub spelled : bytes ≡ spelled Two (numbered end) (numbered_flow end (Some flow))

-- what `flow` and `reduce` write for a file whose table isn't a flow
pub record IsNoText (text bytes : List ℕ) : Type 0 where
  pub graph : Graph
  pub table : List Correction
  pub file : IsFileOf text graph table
  pub no_flow : IsFlow graph table → ⊥
  pub line : IsFailureLine graph table bytes

-- what `flow` writes for a file whose table is a flow
pub record IsFlowText (text bytes : List ℕ) : Type 0 where
  pub graph : Graph
  pub table : List Correction
  pub file : IsFileOf text graph table
  pub flow : IsFlow graph table
  pub spelled : bytes ≡ codes "flow\n"

-- what `reduce` writes for such a file
pub record IsReducedText (text bytes : List ℕ) : Type 0 where
  pub graph : Graph
  pub table : List Correction
  pub file : IsFileOf text graph table
  pub flow : IsFlow graph table
  pub reduced : IsReducedFile graph bytes
