-- What the types of the reader are as the statements of Syntax.
use Rattle.std.specs.Prelude.{List, map}
use Rattle.std.specs.Option.{option_map}
use Rattle.qasm_reader.specs.declared.program.Program.{Program}
use Rattle.qasm_reader.specs.declared.program.ProgramElement.{ProgramElement}
use Rattle.qasm_reader.specs.declared.program.ProgramElement.TheVariants as element
use Rattle.qasm_reader.specs.declared.program.Statement.{Statement}
use Rattle.qasm_reader.specs.declared.program.StatementKind.{StatementKind}
use Rattle.qasm_reader.specs.declared.program.StatementKind.TheVariants.{Version, Include, QubitRegister, BitRegister}
use Rattle.qasm_reader.specs.declared.program.StatementKind.TheVariants.{Opaque, If, Barrier, Operation}
use Rattle.qasm_reader.specs.declared.program.GateDeclaration.{GateDeclaration}
use Rattle.qasm_reader.specs.declared.program.GateHeading.{GateHeading}
use Rattle.qasm_reader.specs.declared.program.GateName.{GateName}
use Rattle.qasm_reader.specs.declared.program.GateName.TheVariants.{Declared, U, Cx}
use Rattle.qasm_reader.specs.declared.program.Argument.{Argument}
use Rattle.qasm_reader.specs.declared.program.Application.{Application}
use Rattle.qasm_reader.specs.declared.program.Operation as operation
use Rattle.qasm_reader.specs.declared.program.Operation.TheVariants.{Apply, Measure, Reset}
use Rattle.qasm_reader.specs.declared.program.BodyStatement.{BodyStatement}
use Rattle.qasm_reader.specs.declared.program.BodyStatement.TheVariants as body
use Rattle.qasm_reader.specs.Postfix.{formula_of}
use Rattle.qasm_reader.specs.Syntax as syntax

-- the bytes that a name stands for
abbrev pub callee : GateName → syntax.Callee
callee (Declared name) = syntax.Declared name.now
callee U = syntax.U
callee Cx = syntax.Cx

abbrev pub operand : Argument → syntax.Operand
operand argument = record { register = argument.register.now; index = option_map (λ index. index.now) argument.index }

abbrev pub application : Application → syntax.Apply
application a = record {
  gate = callee a.gate;
  angles = map formula_of a.angles.items;
  qubits = map operand a.qubits.items;
}

abbrev pub action : operation.Operation → syntax.Action
action (Apply a) = syntax.Applied (application a)
action (Measure from to) = syntax.Measured (operand from) (operand to)
action (Reset argument) = syntax.Reset (operand argument)

abbrev pub body_sentence : BodyStatement → syntax.BodySentence
body_sentence (body.Apply a) =
    syntax.BodyApplied (record {
      gate = callee a.gate;
      angles = map formula_of a.angles.items;
      qubits = map (λ name. name.now) a.qubits.items;
    })
body_sentence (body.Barrier qubits) = syntax.BodyBarrier (map (λ name. name.now) qubits.items)

-- the gate with this heading and this body
abbrev pub form_of : GateHeading → List syntax.BodySentence → syntax.GateForm
form_of heading body = record {
  name = heading.name.now;
  parameters = map (λ name. name.now) heading.parameters.items;
  qubits = map (λ name. name.now) heading.qubits.items;
  body = body;
}

abbrev pub gate_form : GateDeclaration → syntax.GateForm
gate_form gate = form_of gate.heading (map body_sentence gate.body.items)

abbrev pub sentence : StatementKind → syntax.Sentence
sentence (Version real) = syntax.Version real.now
sentence (Include text) = syntax.Include text.now
sentence (QubitRegister name size) = syntax.QubitRegister name.now size.now
sentence (BitRegister name size) = syntax.BitRegister name.now size.now
sentence (Opaque gate) =
    syntax.Opaque gate.name.now (map (λ name. name.now) gate.parameters.items)
    (map (λ name. name.now) gate.qubits.items)
sentence (If register value operation) = syntax.If register.now value.now (action operation)
sentence (Barrier arguments) = syntax.Barrier (map operand arguments.items)
sentence (Operation operation) = syntax.Act (action operation)

abbrev pub placed : Statement → syntax.Placed
placed statement = record { place = statement.place; sentence = sentence statement.kind }

-- a gate's declaration is a statement too
abbrev pub statement_of : ProgramElement → syntax.Placed
statement_of (element.Statement statement) = placed statement
statement_of (element.Gate place gate) =
    record { place = place; sentence = syntax.DeclareGate (gate_form gate) }

-- the statements of a program
abbrev pub statements_of : Program → List syntax.Placed
statements_of program = map statement_of program.elements.items
