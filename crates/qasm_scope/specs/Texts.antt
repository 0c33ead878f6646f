-- What a text means: the circuit of its program.
use Rattle.std.specs.Prelude.{ℕ, ◌+◌, List, [], ◌∷◌, length}
use Rattle.zx_gates.specs.declared.elementary.ElementaryGate.{ElementaryGate}
use Rattle.zx_gates.specs.declared.elementary.Measure.{Measure}
use Rattle.qasm_reader.specs.Syntax.{Applied, Sentence, Act, Placed}
use Rattle.qasm_scope.specs.Applications.{instances, ranges_of}
use Rattle.qasm_scope.specs.Meaning.{Means, after_statement}
pub use Rattle.qasm_scope.specs.ProgramTexts.{IsProgramText}
use Rattle.qasm_scope.specs.Scope.{Scope, lookup_in}

-- The text means the circuit of so many qubits and these gates, with these measurements into so many bits. It may make
-- any number of calls.
pub record TextMeans (text : List ℕ) (qubits : ℕ) (gates : List ElementaryGate) (bits : ℕ)
    (measured : List Measure) : Type 0 where
  pub program : List Placed
  pub is : IsProgramText text program
  pub means : Means program qubits gates bits measured

-- how many gates a program applies in its statements: the instances of its applications
abbrev pub instances_in : Scope → Sentence → ℕ
instances_in scope (Act (Applied a)) = length (instances (ranges_of (lookup_in scope) a.qubits))
instances_in scope sentence = 0

abbrev pub size_after : Scope → List Placed → ℕ
size_after scope [] = 0
size_after scope (s ∷ statements) =
    instances_in scope s.sentence + size_after (after_statement scope s.sentence) statements

abbrev pub program_size : List Placed → ℕ
program_size program = size_after [] program
