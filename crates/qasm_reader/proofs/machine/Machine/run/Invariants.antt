-- What is left is read as all was.
use Rattle.std.proofs.Common.{◌≡◌, length}
use Rattle.qasm_lexer.specs.Tokens.{lexemes}
use Rattle.qasm_reader.specs.Internal.Machine.{machine_state}
use Rattle.qasm_reader.specs.Internal.Machine as spec
use Rattle.qasm_reader.proofs.machine.Machine.run.Given as goal

abbrev pub invariant-loop-rest : goal.invariant-loop-rest
invariant-loop-rest l = spec.run (lexemes l.rest) (machine_state l.self) ≡ spec.run (lexemes l.tokens) (machine_state l.initial.self)

abbrev pub decreases-loop-rest : goal.decreases-loop-rest
decreases-loop-rest l = length l.rest
