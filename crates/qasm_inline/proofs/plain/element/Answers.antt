-- White space, the register and the index.
use Rattle.qasm_inline.proofs.SpellLemmas.{spelled-behind, spelled-then}
use Rattle.qasm_inline.proofs.plain.element.Goals as goal

pub returns : goal.returns
returns c = spelled-behind c.behind_spaces.ensures (spelled-then c.in_ok-register.ensures c.in_ok-index.ensures)
