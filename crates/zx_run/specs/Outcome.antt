-- What a command finds in a text, what it may answer and write, and what a run did to the output.
use Rattle.std.specs.Prelude.{◌≡◌, ◌≢◌, ◌⊎◌, ◌++◌, ℕ, List, take}
use Rattle.std.specs.Prelude.{Option, Some}
use Rattle.zx_diagram.specs.Diagram.{Diagram}
use Rattle.zx_gates.specs.declared.elementary.Elementary.{Elementary}
use Rattle.zx_words.specs.declared.words.Command.{Command}
use Rattle.zx_words.specs.declared.words.Command.TheVariants.{Optimise, Reduce, Flow, Graph, Compile}
use Rattle.zx_words.specs.declared.words.Command.TheVariants.{Teleport, Same, Generate}
use Rattle.zx_run.specs.declared.status.Status.{Status}
use Rattle.zx_run.specs.declared.status.Status.TheVariants.{Done, Refused, ReadFault, WriteFault, NoMemory, No}
use Rattle.zx_run.specs.declared.status.Fault.{Fault}
use Rattle.zx_run.specs.declared.status.Fault.TheVariants.{TooLong}
use Rattle.zx_run.specs.FirstFault.{IsFaultless, IsFirstFault}
use Rattle.zx_run.specs.FlowFiles.{IsFirstFileFault, IsFlowFile, IsVerdictOn, IsReducedText, IsFlowText, IsNoText}
use Rattle.zx_run.specs.DiagramFiles.{IsFirstDiagramFault, IsFirstSquareFault, IsDiagramFile, IsSquare, IsGraphText}
use Rattle.zx_run.specs.Compiling.{IsCompiledText, IsNoFlowText, IsFormVerdict}
use Rattle.zx_run.specs.TwoTexts.{IsFirstFaultOfTwo, AreAccepted}
use Rattle.zx_run.specs.Comparing.{IsSameText, IsDifferentText, IsSamenessVerdict}
use Rattle.zx_run.specs.CircuitTexts.{IsOptimisedText, IsTeleportedText, IsGenerationReport}

-- the command reads the source
abbrev pub ReadsSource : Command → Type 0
ReadsSource (Optimise best report scalar) = Unit {0}
ReadsSource Teleport = Unit {0}
ReadsSource Reduce = Unit {0}
ReadsSource Flow = Unit {0}
ReadsSource Graph = Unit {0}
ReadsSource Compile = Unit {0}
ReadsSource Same = Unit {0}
ReadsSource (Generate seed qubits gates) = ⊥

-- the fault is the first one of the text, as the command reads it
abbrev pub IsFirstFaultFor : Command → List ℕ → Fault → Type 0
IsFirstFaultFor (Optimise best report scalar) text fault = IsFirstFault text fault
IsFirstFaultFor Teleport text fault = IsFirstFault text fault
IsFirstFaultFor Reduce text fault = IsFirstFileFault text fault
IsFirstFaultFor Flow text fault = IsFirstFileFault text fault
IsFirstFaultFor Graph text fault = IsFirstDiagramFault text fault
IsFirstFaultFor Compile text fault = IsFirstSquareFault text fault
IsFirstFaultFor Same text fault = IsFirstFaultOfTwo text fault
IsFirstFaultFor (Generate seed qubits gates) text fault = ⊥

-- the text has no fault, as the command reads it
abbrev pub IsFaultlessFor : Command → List ℕ → Type 0
IsFaultlessFor (Optimise best report scalar) text = IsFaultless text
IsFaultlessFor Teleport text = IsFaultless text
IsFaultlessFor Reduce text = IsFlowFile text
IsFaultlessFor Flow text = IsFlowFile text
IsFaultlessFor Graph text = (diagram : Diagram) × IsDiagramFile text diagram
IsFaultlessFor Compile text = (diagram : Diagram) × IsDiagramFile text diagram × IsSquare diagram
IsFaultlessFor Same text = (one : Elementary) × (other : Elementary) × AreAccepted text one other
IsFaultlessFor (Generate seed qubits gates) text = Unit {0}

-- the command may give this answer, Done or No, to a text without fault
abbrev pub MayAnswer : Command → List ℕ → Status → Type 0
MayAnswer (Optimise best report scalar) text status = status ≡ Done
MayAnswer Teleport text status = status ≡ Done
MayAnswer Reduce text status = IsVerdictOn text status
MayAnswer Flow text status = IsVerdictOn text status
MayAnswer Graph text status = status ≡ Done
MayAnswer Compile text status = IsFormVerdict text status
MayAnswer Same text status = IsSamenessVerdict text status
MayAnswer (Generate seed qubits gates) text status = status ≡ Done

-- the bytes are what a command may write with the answer Done, where this is told as left in the source
abbrev pub IsOutputFor : Command → Option (List ℕ) → List ℕ → Type 0
IsOutputFor (Optimise best report scalar) left bytes =
    (text : List ℕ) → left ≡ Some text → IsOptimisedText best report scalar text bytes
IsOutputFor Teleport left bytes = (text : List ℕ) → left ≡ Some text → IsTeleportedText text bytes
IsOutputFor Reduce left bytes = (text : List ℕ) → left ≡ Some text → IsReducedText text bytes
IsOutputFor Flow left bytes = (text : List ℕ) → left ≡ Some text → IsFlowText text bytes
IsOutputFor Graph left bytes = (text : List ℕ) → left ≡ Some text → IsGraphText text bytes
IsOutputFor Compile left bytes = (text : List ℕ) → left ≡ Some text → IsCompiledText text bytes
IsOutputFor Same left bytes = (text : List ℕ) → left ≡ Some text → IsSameText text bytes
IsOutputFor (Generate seed qubits gates) left bytes = IsGenerationReport seed qubits gates bytes

-- the bytes are what a command may write with the answer No, if it ever gives it
abbrev pub IsNoFor : Command → Option (List ℕ) → List ℕ → Type 0
IsNoFor (Optimise best report scalar) left bytes = ⊥
IsNoFor Teleport left bytes = ⊥
IsNoFor Reduce left bytes = (text : List ℕ) → left ≡ Some text → IsNoText text bytes
IsNoFor Flow left bytes = (text : List ℕ) → left ≡ Some text → IsNoText text bytes
IsNoFor Graph left bytes = ⊥
IsNoFor Compile left bytes = (text : List ℕ) → left ≡ Some text → IsNoFlowText text bytes
IsNoFor Same left bytes = (text : List ℕ) → left ≡ Some text → IsDifferentText text bytes
IsNoFor (Generate seed qubits gates) left bytes = ⊥

-- the words give `gen`
abbrev pub IsGen : Option Command → Type 0
IsGen given = (seed qubits gates : ℕ) × (given ≡ Some (Generate seed qubits gates))

-- what was told as taken gained all of these bytes
abbrev pub Gains : Option (List ℕ) → Option (List ℕ) → List ℕ → Type 0
Gains old new bytes = (before : List ℕ) → old ≡ Some before → new ≡ Some (before ++ bytes)

-- what was told as taken gained a prefix of these bytes
abbrev pub GainsPrefix : Option (List ℕ) → Option (List ℕ) → List ℕ → Type 0
GainsPrefix old new bytes =
    (before : List ℕ) → old ≡ Some before → (k : ℕ) × (new ≡ Some (before ++ take k bytes))

-- the output gained all that the command may write with the answer Done
abbrev pub GainsOutputFor : Command → Option (List ℕ) → Option (List ℕ) → Option (List ℕ) → Type 0
GainsOutputFor command left old new = (bytes : List ℕ) × IsOutputFor command left bytes × Gains old new bytes

-- the output gained all that the command may write with the answer No
abbrev pub GainsNoFor : Command → Option (List ℕ) → Option (List ℕ) → Option (List ℕ) → Type 0
GainsNoFor command left old new = (bytes : List ℕ) × IsNoFor command left bytes × Gains old new bytes

-- the output gained a prefix of what the command may write with either answer
abbrev pub GainsPrefixFor : Command → Option (List ℕ) → Option (List ℕ) → Option (List ℕ) → Type 0
GainsPrefixFor command left old new =
    (bytes : List ℕ) × (IsOutputFor command left bytes ⊎ IsNoFor command left bytes) × GainsPrefix old new bytes

-- the answers after which the output is as it was
abbrev pub LeavesOutput : Status → Type 0
LeavesOutput status = (status ≢ Done) × (status ≢ WriteFault) × (status ≢ No)

-- the answer is this one, or memory ran out
abbrev pub IsOrNoMemory : Status → Status → Type 0
IsOrNoMemory expected status = (status ≡ expected) ⊎ (status ≡ NoMemory)

-- the answer is this one, or a read failed, or memory ran out
abbrev pub IsOrFailedRead : Status → Status → Type 0
IsOrFailedRead expected status = IsOrNoMemory expected status ⊎ (status ≡ ReadFault)

-- a stream failed, or memory ran out
abbrev pub IsFailed : Status → Type 0
IsFailed status = (status ≡ ReadFault) ⊎ ((status ≡ WriteFault) ⊎ (status ≡ NoMemory))

-- the answers after which the source was read to its end
abbrev pub SaysEnd : Status → Type 0
SaysEnd status =
    (status ≡ Done) ⊎ ((status ≡ No) ⊎ ((status ≡ WriteFault)
    ⊎ ((fault : Fault) × (fault ≢ TooLong) × (status ≡ Refused fault))))

-- the answers that `gen` may give
abbrev pub IsAnswerOfGen : Status → Type 0
IsAnswerOfGen status = (status ≡ WriteFault) ⊎ IsOrNoMemory Done status
