-- The first fault of a text, and the circuit that a text without one means.
use Rattle.std.specs.Prelude.{◌≡◌, ◌<◌, ◌≤◌, ◌⊎◌, ℕ, List, length, None, Some}
use Rattle.zx_gates.specs.declared.elementary.Elementary.{Elementary}
use Rattle.qasm_lexer.specs.Tokens.{Lexeme, IsCut, IsBadByte}
use Rattle.qasm_reader.specs.Depth.{too_deep}
use Rattle.qasm_reader.specs.Grammar.{IsSyntaxFault}
use Rattle.qasm_reader.specs.Syntax.{Placed}
use Rattle.qasm_scope.specs.declared.causes.Cause.{Cause}
use Rattle.qasm_scope.specs.declared.causes.Cause.TheVariants as cause
use Rattle.qasm_scope.specs.Meaning.{first_fault, most_calls, Means}
use Rattle.qasm_scope.specs.Texts.{IsProgramText, TextMeans}
use Rattle.zx_run.specs.declared.status.Fault.{Fault}
use Rattle.zx_run.specs.declared.status.Fault.TheVariants.{TooLong, BadByte, Syntax, Version, Include, Unsupported}
use Rattle.zx_run.specs.declared.status.Fault.TheVariants.{Redeclared, EmptyRegister, TooManyQubits, Unknown}
use Rattle.zx_run.specs.declared.status.Fault.TheVariants.{WrongCount, Index, Sizes, SameQubit, Divide, AngleTooLarge}
use Rattle.zx_run.specs.declared.status.Fault.TheVariants.{NotSixteenthTurn, TooDeep, TooManyGates, SecondVersion}
use Rattle.zx_run.specs.declared.status.Fault.TheVariants.{AfterMeasure, BitTwice, TooManyBits}

-- the most bytes that a text may have
abbrev pub most_bytes : ℕ
most_bytes = 16777216

-- what is wrong with the statement at a place, as a fault
abbrev pub fault_of : Cause → ℕ → Fault
fault_of cause.Version at = Version
fault_of cause.Include at = Include at
fault_of cause.Unsupported at = Unsupported at
fault_of cause.Redeclared at = Redeclared at
fault_of cause.EmptyRegister at = EmptyRegister at
fault_of cause.TooManyQubits at = TooManyQubits at
fault_of cause.Unknown at = Unknown at
fault_of cause.WrongCount at = WrongCount at
fault_of cause.Index at = Index at
fault_of cause.Sizes at = Sizes at
fault_of cause.SameQubit at = SameQubit at
fault_of cause.Divide at = Divide at
fault_of cause.AngleTooLarge at = AngleTooLarge at
fault_of cause.NotSixteenthTurn at = NotSixteenthTurn at
fault_of cause.TooDeep at = TooDeep at
fault_of cause.TooManyGates at = TooManyGates at
fault_of cause.SecondVersion at = SecondVersion at
fault_of cause.AfterMeasure at = AfterMeasure at
fault_of cause.BitTwice at = BitTwice at
fault_of cause.TooManyBits at = TooManyBits at

-- tokens of the text have parentheses that are too deep, at this place
abbrev pub HasDeepParenthesis : List ℕ → ℕ → Type 0
HasDeepParenthesis text at = (tokens : List Lexeme) × IsCut 0 text tokens × (too_deep tokens ≡ Some at)

-- they have none of these, but a syntax fault at this place
abbrev pub HasSyntaxFault : List ℕ → ℕ → Type 0
HasSyntaxFault text at =
    (tokens : List Lexeme) × IsCut 0 text tokens × (too_deep tokens ≡ None) × IsSyntaxFault tokens at

-- the text is a program, in which this is wrong first
abbrev pub HasWrongStatement : List ℕ → Cause → ℕ → Type 0
HasWrongStatement text cause at =
    (program : List Placed) × IsProgramText text program × (first_fault most_calls program ≡ Some (cause, at))

-- The first fault of a text that isn't too long, in this order: a byte begins no token, parentheses are too deep, a
-- statement is none, or a statement is wrong.
abbrev pub IsShortFault : List ℕ → Fault → Type 0
IsShortFault text fault =
    ((at : ℕ) × IsBadByte text at × (fault ≡ BadByte at))
    ⊎ (((at : ℕ) × HasDeepParenthesis text at × (fault ≡ TooDeep at))
    ⊎ (((at : ℕ) × HasSyntaxFault text at × (fault ≡ Syntax at))
    ⊎ ((cause : Cause) × (at : ℕ) × HasWrongStatement text cause at × (fault ≡ fault_of cause at))))

-- the first fault of a text
abbrev pub IsFirstFault : List ℕ → Fault → Type 0
IsFirstFault text fault =
    ((most_bytes < length text) × (fault ≡ TooLong)) ⊎ ((length text ≤ most_bytes) × IsShortFault text fault)

-- The text has no fault, and means the circuit with its measurements.
pub record IsAccepted (text : List ℕ) (circuit : Elementary) : Type 0 where
  pub short : length text ≤ most_bytes
  pub program : List Placed
  pub is : IsProgramText text program
  pub faultless : first_fault most_calls program ≡ None
  pub means : Means program circuit.qubits circuit.gates circuit.bits circuit.measured

-- the text has no fault
abbrev pub IsFaultless : List ℕ → Type 0
IsFaultless text = (circuit : Elementary) × IsAccepted text circuit

-- the text means the circuit with its measurements; it may be longer, and make more calls, than one that is read
abbrev pub MeansCircuit : List ℕ → Elementary → Type 0
MeansCircuit text circuit = TextMeans text circuit.qubits circuit.gates circuit.bits circuit.measured
