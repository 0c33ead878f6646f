-- A word that is no keyword.
use Rattle.std.proofs.Common.{sym, ◌∙◌}
use Rattle.qasm_inline.proofs.SpellLemmas.{first-identifier}
use Rattle.qasm_inline.proofs.plain.identifier.Goals as goal

pub returns-then-is_free : goal.returns-then-is_free
returns-then-is_free c = first-identifier c.args.text.now c.word_bytes-count.result c.word_bytes-count.ensures.count (sym c.is_free.ensures ∙ c.if-is_free.true)
