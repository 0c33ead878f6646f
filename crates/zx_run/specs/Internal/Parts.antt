-- What the answers of parts of a run say.
use Rattle.std.specs.Prelude.{◌≡◌, ℕ, Bool, true, false, List, [], Some, Result, OnOk, IfOk, IfErr}
use Rattle.zx_calculus.specs.Graph.{Graph}
use Rattle.gflow_laws.specs.Flow.{Correction, IsFlow}
use Rattle.zx_io.specs.Causes.{Rose}
use Rattle.zx_words.specs.declared.words.Command.{Command}
use Rattle.zx_run.specs.declared.status.Status.{Status}
use Rattle.zx_run.specs.declared.status.Status.TheVariants.{Refused, ReadFault, NoMemory}
use Rattle.zx_run.specs.declared.status.Fault.{Fault}
use Rattle.zx_run.specs.declared.written.Written.{Written}
use Rattle.zx_run.specs.FlowFiles.{IsFailureLine}
use Rattle.zx_run.specs.Answers.{ToldSource, IsFailure, IsMade, IsRefusedBy}

-- the table is a flow and what has to be was written, or it isn't, and the line of its first failure was
abbrev pub IsVerdict : Graph → List Correction → Type 0 → List ℕ → Bool → Type 0
IsVerdict graph table good bytes false = IsFlow graph table × good
IsVerdict graph table good bytes true = (IsFlow graph table → ⊥) × IsFailureLine graph table bytes

-- nothing was read of a source, for this reason
abbrev pub IsReadFailure : (List ℕ → Fault → Type 0) → ToldSource → ToldSource → Status → Type 0
IsReadFailure first before after (Refused fault) =
    (after.faults ≡ before.faults) × IsRefusedBy first fault before after
IsReadFailure first before after ReadFault = Rose before.faults after.faults
IsReadFailure first before after NoMemory = after.faults ≡ before.faults
IsReadFailure first before after status = ⊥

-- a source was read to its end, and well, or nothing was read of it, for a reason that is told by its first fault
pub record IsRead {T : Type 0} (first : List ℕ → Fault → Type 0) (before after : ToldSource)
    (result : Result T Status) : Type 0 where
  pub reads_well : OnOk result (after.faults ≡ before.faults)
  pub end : (text : List ℕ) → before.left ≡ Some text → OnOk result (after.left ≡ Some [])
  pub failure : IfErr result (IsReadFailure first before after)

-- what a command writes was made of what its source gave, or nothing, for a reason
pub record Makes (command : Command) (before after : ToldSource) (result : Result Written Status) : Type 0 where
  pub made : IfOk result (λ output. IsMade (Some command) before after output.is_no output.bytes.items)
  pub failure : IfErr result (IsFailure (Some command) before after)
