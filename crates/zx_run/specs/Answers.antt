-- What the answer of a run says of the two streams.
use Rattle.std.specs.Prelude.{◌≡◌, ◌≢◌, ◌+◌, ℕ, Bool, true, false, List, [], drop, Option, None, Some}
use Rattle.zx_io.specs.Causes.{Rose}
use Rattle.zx_words.specs.declared.words.Command.{Command}
use Rattle.zx_run.specs.declared.status.Status.{Status}
use Rattle.zx_run.specs.declared.status.Status.TheVariants.{Done, Refused, Usage, ReadFault, WriteFault, NoMemory, No}
use Rattle.zx_run.specs.declared.status.Fault.{Fault}
use Rattle.zx_run.specs.declared.status.Fault.TheVariants.{TooLong}
use Rattle.zx_run.specs.FirstFault.{most_bytes}
use Rattle.zx_run.specs.Outcome.{Gains, GainsPrefix, IsFirstFaultFor, IsNoFor, IsOutputFor, ReadsSource}

-- what is told of a source: the bytes that are left, and how many calls failed
pub record ToldSource : Type 0 where
  pub left : Option (List ℕ)
  pub faults : ℕ

-- what is told of an output: the bytes that were taken, how many calls failed, and how many bytes wait
-- for a flush
pub record ToldOutput : Type 0 where
  pub taken : Option (List ℕ)
  pub faults : ℕ
  pub pending : ℕ

-- the same, by the functions that tell it
abbrev pub told_source : {S : Type 0} → (S → Option (List ℕ)) → (S → ℕ) → S → ToldSource
told_source left faults source = record { left = left source; faults = faults source }

abbrev pub told_output : {O : Type 0} → (O → Option (List ℕ)) → (O → ℕ) → (O → ℕ) → O → ToldOutput
told_output taken faults pending out = record { taken = taken out; faults = faults out; pending = pending out }

-- the bytes are what was asked for, with the answer No or with Done
abbrev pub IsOutputOf : Option Command → Bool → Option (List ℕ) → List ℕ → Type 0
IsOutputOf None says_no left bytes = ⊥
IsOutputOf (Some command) false left bytes = IsOutputFor command left bytes
IsOutputOf (Some command) true left bytes = IsNoFor command left bytes

-- what is asked for reads the source
abbrev pub Reads : Option Command → Type 0
Reads None = ⊥
Reads (Some command) = ReadsSource command

-- what is asked for finds this fault first in a text
abbrev pub IsFirstFaultOf : Option Command → List ℕ → Fault → Type 0
IsFirstFaultOf None text fault = ⊥
IsFirstFaultOf (Some command) text fault = IsFirstFaultFor command text fault

-- what reads the source has read a text that is told as left to its end
abbrev pub IsAllRead : Option Command → ToldSource → ToldSource → Type 0
IsAllRead given before after = Reads given → (text : List ℕ) → before.left ≡ Some text → after.left ≡ Some []

-- an output was made for the answer No or for Done, and no read failed
pub record IsMade (given : Option Command) (before after : ToldSource) (says_no : Bool) (bytes : List ℕ) : Type 0 where
  pub reads_well : after.faults ≡ before.faults
  pub output : IsOutputOf given says_no before.left bytes
  pub all_read : IsAllRead given before after

-- what follows one byte more than a text may have is left of it; of a text that isn't too long, nothing
abbrev pub IsLeftOf : List ℕ → Option (List ℕ) → Type 0
IsLeftOf text left = left ≡ Some (drop (most_bytes + 1) text)

-- a text was refused for its first fault, as `first` tells it, and but for one that is too long all was read
abbrev pub IsRefusedBy : (List ℕ → Fault → Type 0) → Fault → ToldSource → ToldSource → Type 0
IsRefusedBy first fault before after = (text : List ℕ) → before.left ≡ Some text →
    first text fault × (fault ≢ TooLong → after.left ≡ Some []) × IsLeftOf text after.left

-- what is asked for reads the source, and refused what it read
abbrev pub IsRefused : Fault → Option Command → ToldSource → ToldSource → Type 0
IsRefused fault given before after = Reads given × IsRefusedBy (IsFirstFaultOf given) fault before after

-- no output was made, for this reason
abbrev pub IsFailure : Option Command → ToldSource → ToldSource → Status → Type 0
IsFailure given before after Done = ⊥
IsFailure given before after (Refused fault) =
    (after.faults ≡ before.faults) × IsRefused fault given before after
IsFailure given before after Usage = (after.faults ≡ before.faults) × (given ≡ None)
IsFailure given before after ReadFault = Rose before.faults after.faults × Reads given
IsFailure given before after WriteFault = ⊥
IsFailure given before after NoMemory = after.faults ≡ before.faults
IsFailure given before after No = ⊥

-- all of the bytes were written and flushed
pub record IsWritten (before after : ToldOutput) (bytes : List ℕ) : Type 0 where
  pub writes_well : after.faults ≡ before.faults
  pub flushed : after.pending ≡ 0
  pub gains : Gains before.taken after.taken bytes

-- a write or a flush failed
pub record IsCutShort (before after : ToldOutput) (bytes : List ℕ) : Type 0 where
  pub rose : Rose before.faults after.faults
  pub gains : GainsPrefix before.taken after.taken bytes

-- what is told of both streams at one moment
pub record Streams : Type 0 where
  pub source : ToldSource
  pub output : ToldOutput

abbrev pub streams : ToldSource → ToldOutput → Streams
streams source output = record { source = source; output = output }

-- what an answer says of the streams before and after a run of the command that was given
abbrev pub IsAnswer : Option Command → Streams → Streams → Status → Type 0
IsAnswer given before after Done =
    (bytes : List ℕ) × IsMade given before.source after.source false bytes
    × IsWritten before.output after.output bytes
IsAnswer given before after No =
    (bytes : List ℕ) × IsMade given before.source after.source true bytes × IsWritten before.output after.output bytes
IsAnswer given before after WriteFault =
    (bytes : List ℕ) × (says_no : Bool) × IsMade given before.source after.source says_no bytes
    × IsCutShort before.output after.output bytes
IsAnswer given before after status =
    IsFailure given before.source after.source status × (after.output ≡ before.output)
