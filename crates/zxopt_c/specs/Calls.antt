-- What a call from C answers, what it tells beside that, and what it leaves in the room that it was lent.
use Rattle.std.specs.Prelude.{◌≡◌, ◌⊎◌, ◌<◌, ◌≤◌, ◌++◌, ℕ, List, [], length, drop, unwrap_or, Some}
use Rattle.zx_words.specs.declared.words.Command.{Command}
use Rattle.zx_run.specs.declared.status.Fault.{Fault}
use Rattle.zx_run.specs.declared.status.Status.{Status}
use Rattle.zx_run.specs.declared.status.Status.TheVariants.{Done, Refused, Usage, ReadFault, WriteFault, NoMemory, No}
use Rattle.zx_run.specs.Numbers.{fault_number, fault_place, status_number}
use Rattle.zx_run.specs.Outcome.{IsFaultlessFor, IsFirstFaultFor, IsNoFor, IsOrNoMemory, IsOutputFor, MayAnswer}
use Rattle.zxopt_c.specs.declared.told.Told.{Told}

-- ---- the answer, by the words of `run`

-- the bytes are what the command may write for the text with this answer: none with a refusal, for the first fault, and
-- none where memory ran out
abbrev pub MayWrite : Command → List ℕ → Status → List ℕ → Type 0
MayWrite command text Done bytes = IsOutputFor command (Some text) bytes
MayWrite command text No bytes = IsNoFor command (Some text) bytes
MayWrite command text (Refused fault) bytes = IsFirstFaultFor command text fault × (bytes ≡ [])
MayWrite command text NoMemory bytes = bytes ≡ []
MayWrite command text Usage bytes = ⊥
MayWrite command text ReadFault bytes = ⊥
MayWrite command text WriteFault bytes = ⊥

-- The answer is one that the command gives to the text, and these are its bytes. A text without fault is answered as it
-- decides, and one with a first fault is refused for it, unless memory runs out.
pub record IsAnswerTo (command : Command) (text : List ℕ) (answer : Status) (bytes : List ℕ) : Type 0 where
  pub writes : MayWrite command text answer bytes
  pub complete : IsFaultlessFor command text → MayAnswer command text answer ⊎ (answer ≡ NoMemory)
  pub refused_where : (fault : Fault) → IsFirstFaultFor command text fault → IsOrNoMemory (Refused fault) answer

-- ---- how it crosses

-- the number of the fault that an answer names, or 0
abbrev pub fault_in : Status → ℕ
fault_in (Refused fault) = fault_number fault
fault_in answer = 0

-- where that fault stands, or 0
abbrev pub place_in : Status → ℕ
place_in (Refused fault) = unwrap_or (fault_place fault) 0
place_in answer = 0

-- the number that a call answers where the bytes have no room; no answer of the program has it
abbrev pub no_room : ℕ
no_room = 8

-- What is told of an answer, and what becomes of the room, which was `old` and is `new`: where the bytes fit, they stand
-- at its start, what is behind them is as it was, and the number is that of the answer; else all is as it was.
pub record IsHandedOver (answer : Status) (bytes old new : List ℕ) (told : Told) (number : ℕ) : Type 0 where
  pub counted : told.length ≡ length bytes
  pub fault : told.fault ≡ fault_in answer
  pub place : told.place ≡ place_in answer
  pub fits : length bytes ≤ length old → (number ≡ status_number answer) × (new ≡ bytes ++ drop (length bytes) old)
  pub lacks_room : length old < length bytes → (number ≡ no_room) × (new ≡ old)

-- a call of the command on the text, with this room: an answer of the command to the text was handed over
abbrev pub IsCall : Command → List ℕ → List ℕ → List ℕ → Told → ℕ → Type 0
IsCall command text old new told number =
    (answer : Status) × (bytes : List ℕ) × IsAnswerTo command text answer bytes
    × IsHandedOver answer bytes old new told number
