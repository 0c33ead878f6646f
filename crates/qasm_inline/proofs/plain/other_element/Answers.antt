-- A comma and an element.
use Rattle.qasm_inline.proofs.SpellLemmas.{spelled-more}
use Rattle.qasm_inline.proofs.plain.other_element.Goals as goal

pub returns-in_ok-argument-in-Some : goal.returns-in_ok-argument-in-Some
returns-in_ok-argument-in-Some c = spelled-more c.args.text.now c.in-Some.rest.now c.in_ok-argument-in-Some.rest.now _ c.in-Some.ensures c.in_ok-argument-in-Some.ensures
