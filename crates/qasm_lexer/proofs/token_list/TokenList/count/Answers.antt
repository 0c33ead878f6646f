use Rattle.std.proofs.Common.{length, sym, ap, ◌∙◌}
use Rattle.qasm_lexer.proofs.Listed.{length-listed}
use Rattle.qasm_lexer.proofs.token_list.TokenList.count.Goals as goal

pub returns : goal.returns
returns c =
    c.len.ensures ∙ c.self.inside.entries.ok.0 ∙ sym (length-listed c.self.inside.pool.items c.self.inside.entries.items) ∙ ap length c.self.view_is
