-- All of it, one after the other.
use Rattle.std.proofs.Common.{map}
use Rattle.std.specs.Option.{option_to_list}
use Rattle.qasm_reader.specs.Views.{callee, operand}
use Rattle.qasm_reader.specs.Grammar.{IsQuantumOperation}
use Rattle.qasm_reader.specs.Syntax.{Applied}
use Rattle.qasm_inline.proofs.SpellLemmas.{spelled-shorter}
use Rattle.qasm_inline.proofs.PlainLemmas.{operation-some, plainly, spelled-plain}
use Rattle.qasm_inline.proofs.plain.first_plain.Goals as goal

pub returns-clause-plain : goal.returns-clause-plain
returns-clause-plain c =
    spelled-plain (callee c.in_ok-gate.gate) (operand c.in_ok-first.first) (map operand (option_to_list c.in_ok-second.second)) c.behind_spaces.ensures c.in_ok-gate.ensures c.in_ok-first.ensures c.in_ok-second.ensures c.in_ok-rest.ensures

pub returns-clause-shorter : goal.returns-clause-shorter
returns-clause-shorter c =
    let a = plainly (callee c.in_ok-gate.gate) (operand c.in_ok-first.first) (map operand (option_to_list c.in_ok-second.second)) in
    spelled-shorter (IsQuantumOperation (Applied a)) c.args.text.now c.in_ok-rest.rest.now
    (spelled-plain (callee c.in_ok-gate.gate) (operand c.in_ok-first.first) (map operand (option_to_list c.in_ok-second.second)) c.behind_spaces.ensures c.in_ok-gate.ensures c.in_ok-first.ensures c.in_ok-second.ensures c.in_ok-rest.ensures) (operation-some a)
