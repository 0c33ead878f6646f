-- The line about an answer that goes to the error output.
use Rattle.std.specs.Prelude.{ℕ, ◌++◌, List, [], codes, decimal, Option, None, Some}
use Rattle.zx_run.specs.declared.status.Fault.{Fault}
use Rattle.zx_run.specs.declared.status.Fault.TheVariants.{TooLong, BadByte, Syntax, Version, Include, Unsupported}
use Rattle.zx_run.specs.declared.status.Fault.TheVariants.{Redeclared, EmptyRegister, TooManyQubits, Unknown}
use Rattle.zx_run.specs.declared.status.Fault.TheVariants.{WrongCount, Index, Sizes, SameQubit, Divide, AngleTooLarge}
use Rattle.zx_run.specs.declared.status.Fault.TheVariants.{NotSixteenthTurn, TooDeep, TooManyGates, SecondVersion}
use Rattle.zx_run.specs.declared.status.Fault.TheVariants.{BadLine, AfterMeasure, BitTwice, TooManyBits}
use Rattle.zx_run.specs.declared.status.Fault.TheVariants.{NotSquare, NoSecond}
use Rattle.zx_run.specs.declared.status.Status.{Status}
use Rattle.zx_run.specs.declared.status.Status.TheVariants.{Refused, Usage, ReadFault, WriteFault, NoMemory}
use Rattle.zx_run.specs.Numbers.{fault_number, fault_place}

-- where something stands, if that is told
abbrev pub place_text : Option ℕ → List ℕ
place_text None = []
place_text (Some at) = codes " at " ++ decimal at

-- a fault's name
abbrev pub fault_name : Fault → List ℕ
fault_name TooLong = codes "TooLong"
fault_name (BadByte at) = codes "BadByte"
fault_name (Syntax at) = codes "Syntax"
fault_name Version = codes "Version"
fault_name (Include at) = codes "Include"
fault_name (Unsupported at) = codes "Unsupported"
fault_name (Redeclared at) = codes "Redeclared"
fault_name (EmptyRegister at) = codes "EmptyRegister"
fault_name (TooManyQubits at) = codes "TooManyQubits"
fault_name (Unknown at) = codes "Unknown"
fault_name (WrongCount at) = codes "WrongCount"
fault_name (Index at) = codes "Index"
fault_name (Sizes at) = codes "Sizes"
fault_name (SameQubit at) = codes "SameQubit"
fault_name (Divide at) = codes "Divide"
fault_name (AngleTooLarge at) = codes "AngleTooLarge"
fault_name (NotSixteenthTurn at) = codes "NotSixteenthTurn"
fault_name (TooDeep at) = codes "TooDeep"
fault_name (TooManyGates at) = codes "TooManyGates"
fault_name (SecondVersion at) = codes "SecondVersion"
fault_name (BadLine line) = codes "BadLine"
fault_name (AfterMeasure at) = codes "AfterMeasure"
fault_name (BitTwice at) = codes "BitTwice"
fault_name (TooManyBits at) = codes "TooManyBits"
fault_name NotSquare = codes "NotSquare"
fault_name NoSecond = codes "NoSecond"

-- a fault's number and name, and where it stands, if that is told
abbrev pub fault_text : Fault → List ℕ
fault_text fault =
    decimal (fault_number fault) ++ codes " " ++ fault_name fault ++ place_text (fault_place fault)

-- the line, with its line end; Done and No have none
abbrev pub error_line : Status → List ℕ
error_line (Refused fault) = codes "zxopt: fault " ++ fault_text fault ++ codes "\n"
error_line Usage = codes "usage: zxopt opt [--best] [--report] [--scalar] | reduce | flow | graph | gen SEED QUBITS GATES | compile | teleport | same\n"
error_line ReadFault = codes "zxopt: read fault\n"
error_line WriteFault = codes "zxopt: write fault\n"
error_line NoMemory = codes "zxopt: no memory\n"
error_line status = []
