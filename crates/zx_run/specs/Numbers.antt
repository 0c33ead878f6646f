-- The numbers by which answers and faults are told, and where a fault stands.
use Rattle.std.specs.Prelude.{ℕ, Option, None, Some}
use Rattle.zx_run.specs.declared.status.Fault.{Fault}
use Rattle.zx_run.specs.declared.status.Fault.TheVariants.{TooLong, BadByte, Syntax, Version, Include, Unsupported}
use Rattle.zx_run.specs.declared.status.Fault.TheVariants.{Redeclared, EmptyRegister, TooManyQubits, Unknown}
use Rattle.zx_run.specs.declared.status.Fault.TheVariants.{WrongCount, Index, Sizes, SameQubit, Divide, AngleTooLarge}
use Rattle.zx_run.specs.declared.status.Fault.TheVariants.{NotSixteenthTurn, TooDeep, TooManyGates, SecondVersion}
use Rattle.zx_run.specs.declared.status.Fault.TheVariants.{BadLine, AfterMeasure, BitTwice, TooManyBits}
use Rattle.zx_run.specs.declared.status.Fault.TheVariants.{NotSquare, NoSecond}
use Rattle.zx_run.specs.declared.status.Status.{Status}
use Rattle.zx_run.specs.declared.status.Status.TheVariants.{Done, Refused, Usage, ReadFault, WriteFault, NoMemory, No}

-- an answer's number, which is the exit status of the program
abbrev pub status_number : Status → ℕ
status_number Done = 0
status_number (Refused fault) = 1
status_number Usage = 2
status_number ReadFault = 3
status_number WriteFault = 4
status_number NoMemory = 5
status_number No = 6

-- a fault's number
abbrev pub fault_number : Fault → ℕ
fault_number TooLong = 1
fault_number (BadByte at) = 2
fault_number (Syntax at) = 3
fault_number Version = 4
fault_number (Include at) = 5
fault_number (Unsupported at) = 6
fault_number (Redeclared at) = 7
fault_number (EmptyRegister at) = 8
fault_number (TooManyQubits at) = 9
fault_number (Unknown at) = 10
fault_number (WrongCount at) = 11
fault_number (Index at) = 12
fault_number (Sizes at) = 13
fault_number (SameQubit at) = 14
fault_number (Divide at) = 15
fault_number (AngleTooLarge at) = 16
fault_number (NotSixteenthTurn at) = 17
fault_number (TooDeep at) = 18
fault_number (TooManyGates at) = 19
fault_number (SecondVersion at) = 20
fault_number (BadLine line) = 21
fault_number (AfterMeasure at) = 22
fault_number (BitTwice at) = 23
fault_number (TooManyBits at) = 24
fault_number NotSquare = 25
fault_number NoSecond = 26

-- where a fault stands, if that is told: a place in the text from 0, or a line from 1
abbrev pub fault_place : Fault → Option ℕ
fault_place TooLong = None
fault_place (BadByte at) = Some at
fault_place (Syntax at) = Some at
fault_place Version = None
fault_place (Include at) = Some at
fault_place (Unsupported at) = Some at
fault_place (Redeclared at) = Some at
fault_place (EmptyRegister at) = Some at
fault_place (TooManyQubits at) = Some at
fault_place (Unknown at) = Some at
fault_place (WrongCount at) = Some at
fault_place (Index at) = Some at
fault_place (Sizes at) = Some at
fault_place (SameQubit at) = Some at
fault_place (Divide at) = Some at
fault_place (AngleTooLarge at) = Some at
fault_place (NotSixteenthTurn at) = Some at
fault_place (TooDeep at) = Some at
fault_place (TooManyGates at) = Some at
fault_place (SecondVersion at) = Some at
fault_place (BadLine line) = Some line
fault_place (AfterMeasure at) = Some at
fault_place (BitTwice at) = Some at
fault_place (TooManyBits at) = Some at
fault_place NotSquare = None
fault_place NoSecond = None
