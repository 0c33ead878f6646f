-- Two texts in one, parted by a line of its own: which they are, and what is wrong first in them.
use Rattle.std.specs.Prelude.{◌≡◌, ◌<◌, ◌≤◌, ◌⊎◌, ℕ, ◌+◌, List, ◌++◌, length, codes}
use Rattle.zx_gates.specs.declared.elementary.Elementary.{Elementary}
use Rattle.qasm_lexer.specs.Taken.{AreLines}
use Rattle.zx_run.specs.declared.status.Fault.{Fault}
use Rattle.zx_run.specs.declared.status.Fault.TheVariants.{TooLong, BadByte, TooDeep, Syntax, Include, Unsupported}
use Rattle.zx_run.specs.declared.status.Fault.TheVariants.{Redeclared, EmptyRegister, TooManyQubits, Unknown}
use Rattle.zx_run.specs.declared.status.Fault.TheVariants.{WrongCount, Index, Sizes, SameQubit, Divide, AngleTooLarge}
use Rattle.zx_run.specs.declared.status.Fault.TheVariants.{NotSixteenthTurn, TooManyGates, SecondVersion}
use Rattle.zx_run.specs.declared.status.Fault.TheVariants.{AfterMeasure, BitTwice, TooManyBits, NoSecond}
use Rattle.zx_run.specs.FirstFault.{most_bytes, IsAccepted, IsFaultless, IsFirstFault}

-- the line that parts two texts
abbrev pub parting_line : List ℕ
parting_line = codes "//// second\n"

-- this line stands between a first and a second text, and begins where a line of the text does
pub record IsParted (text first second : List ℕ) : Type 0 where
  pub whole : text ≡ first ++ (parting_line ++ second)
  pub lines : AreLines first

-- and it is the first such line
pub record AreTexts (text first second : List ℕ) : Type 0 where
  pub parted : IsParted text first second
  pub foremost : (before behind : List ℕ) → IsParted text before behind → length first ≤ length before

-- how many bytes stand before the second text
abbrev pub second_place : List ℕ → ℕ
second_place first = length first + length parting_line

-- the fault of a text that stands so many bytes further on, with its place in the whole
abbrev pub shifted_fault : ℕ → Fault → Fault
shifted_fault by (BadByte at) = BadByte (by + at)
shifted_fault by (TooDeep at) = TooDeep (by + at)
shifted_fault by (Syntax at) = Syntax (by + at)
shifted_fault by (Include at) = Include (by + at)
shifted_fault by (Unsupported at) = Unsupported (by + at)
shifted_fault by (Redeclared at) = Redeclared (by + at)
shifted_fault by (EmptyRegister at) = EmptyRegister (by + at)
shifted_fault by (TooManyQubits at) = TooManyQubits (by + at)
shifted_fault by (Unknown at) = Unknown (by + at)
shifted_fault by (WrongCount at) = WrongCount (by + at)
shifted_fault by (Index at) = Index (by + at)
shifted_fault by (Sizes at) = Sizes (by + at)
shifted_fault by (SameQubit at) = SameQubit (by + at)
shifted_fault by (Divide at) = Divide (by + at)
shifted_fault by (AngleTooLarge at) = AngleTooLarge (by + at)
shifted_fault by (NotSixteenthTurn at) = NotSixteenthTurn (by + at)
shifted_fault by (TooManyGates at) = TooManyGates (by + at)
shifted_fault by (SecondVersion at) = SecondVersion (by + at)
shifted_fault by (AfterMeasure at) = AfterMeasure (by + at)
shifted_fault by (BitTwice at) = BitTwice (by + at)
shifted_fault by (TooManyBits at) = TooManyBits (by + at)
shifted_fault by fault = fault

-- the first fault of the first text, or where it has none, of the second, with its place in the whole
abbrev pub IsFaultOfEither : List ℕ → List ℕ → Fault → Type 0
IsFaultOfEither first second fault =
    IsFirstFault first fault
    ⊎ (IsFaultless first × ((own : Fault) × IsFirstFault second own × (fault ≡ shifted_fault (second_place first) own)))

-- The first fault of a text that is to be two: it is too long as a whole; or no line parts it; or one of the two has a
-- fault.
abbrev pub IsFirstFaultOfTwo : List ℕ → Fault → Type 0
IsFirstFaultOfTwo text fault =
    ((most_bytes < length text) × (fault ≡ TooLong))
    ⊎ ((length text ≤ most_bytes)
    × ((((first second : List ℕ) → IsParted text first second → ⊥) × (fault ≡ NoSecond))
    ⊎ ((first : List ℕ) × (second : List ℕ) × AreTexts text first second × IsFaultOfEither first second fault)))

-- The two texts have no fault, and mean these circuits with their measurements.
pub record AreAccepted (text : List ℕ) (one other : Elementary) : Type 0 where
  pub short : length text ≤ most_bytes
  pub first : List ℕ
  pub second : List ℕ
  pub texts : AreTexts text first second
  pub first_means : IsAccepted first one
  pub second_means : IsAccepted second other
