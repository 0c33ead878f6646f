-- A word that is no keyword, or `CX`.
use Rattle.std.proofs.Common.{sym, ◌∙◌}
use Rattle.qasm_inline.proofs.SpellLemmas.{first-identifier, first-cx}
use Rattle.qasm_inline.proofs.plain.gate_name.Goals as goal

pub returns-then-is_free : goal.returns-then-is_free
returns-then-is_free c = first-identifier c.args.text.now c.word_bytes-count.result c.word_bytes-count.ensures.count (sym c.is_free.ensures ∙ c.if-is_free.true)

pub returns-then-is_cx : goal.returns-then-is_cx
returns-then-is_cx c = first-cx c.args.text.now c.word_bytes-count.result c.word_bytes-count.ensures.count (sym c.is_cx.ensures ∙ c.if-is_cx.true)
