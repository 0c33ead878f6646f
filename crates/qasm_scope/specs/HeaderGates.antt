-- The gates of the header: those that its texts declare. What is trusted is the texts alone: a value of `GatesOf text`
-- is a proof of what the text declares, and which proof it is doesn't matter, since all have the same gates.
use Rattle.std.specs.Prelude.{List}
use Rattle.qasm_reader.specs.Syntax.{GateForm}
use Rattle.qasm_scope.specs.Header.{first_text, further_text}
use Rattle.qasm_scope.specs.ProgramTexts.{GatesOf}
use Rattle.qasm_scope.specs.Internal.HeaderText.{first_declarations, further_declarations}

-- no text that includes the header declares these names
abbrev pub first_gates : List GateForm
first_gates = let first : GatesOf first_text = first_declarations in first.gates

-- further gates, whose names a text may declare itself
abbrev pub further_gates : List GateForm
further_gates = let further : GatesOf further_text = further_declarations in further.gates
