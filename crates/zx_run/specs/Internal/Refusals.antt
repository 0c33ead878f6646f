-- What the answer about bytes says that were read whole.
use Rattle.std.specs.Prelude.{◌≡◌, ◌<◌, ℕ, ◌+◌, List, length}
use Rattle.qasm_inline.specs.declared.error.TextError.{TextError}
use Rattle.qasm_inline.specs.declared.error.TextError.TheVariants as error
use Rattle.zx_run.specs.declared.status.Fault.{Fault}
use Rattle.zx_run.specs.declared.status.Fault.TheVariants.{TooLong}
use Rattle.zx_run.specs.declared.status.Status.{Status}
use Rattle.zx_run.specs.declared.status.Status.TheVariants.{Refused, NoMemory}
use Rattle.zx_run.specs.FirstFault.{most_bytes, IsFirstFault}
use Rattle.zx_run.specs.TwoTexts.{shifted_fault}

-- the text is too long to be read
abbrev pub IsTooLong : List ℕ → Fault → Type 0
IsTooLong text fault = (most_bytes < length text) × (fault ≡ TooLong)

-- what was read is refused for such a fault, or memory ran out
abbrev pub IsRefusalFor : (Fault → Type 0) → Status → Type 0
IsRefusalFor why (Refused fault) = why fault
IsRefusalFor why NoMemory = Unit {0}
IsRefusalFor why status = ⊥

-- the first fault of a text that stands so many bytes further on
abbrev pub IsFaultFrom : ℕ → List ℕ → Fault → Type 0
IsFaultFrom from text fault = (own : Fault) × IsFirstFault text own × (fault ≡ shifted_fault from own)

-- the same of an answer
abbrev pub moved_answer : ℕ → Status → Status
moved_answer by (Refused fault) = Refused (shifted_fault by fault)
moved_answer by status = status

-- the error of a text that stands so many bytes further on
abbrev pub moved_error : ℕ → TextError → TextError
moved_error by (error.BadByte at) = error.BadByte (by + at)
moved_error by (error.TooDeep at) = error.TooDeep (by + at)
moved_error by (error.Syntax at) = error.Syntax (by + at)
moved_error by (error.Wrong cause at) = error.Wrong cause (by + at)
moved_error by error.NoMemory = error.NoMemory
