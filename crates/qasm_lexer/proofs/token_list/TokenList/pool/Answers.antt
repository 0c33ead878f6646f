use Rattle.std.proofs.Common.{sym, ap, ◌∙◌}
use Rattle.std.specs.List.{concat}
use Rattle.qasm_lexer.specs.TokenLists.{texts}
use Rattle.qasm_lexer.proofs.Listed.{concat-listed}
use Rattle.qasm_lexer.proofs.token_list.TokenList.pool.Goals as goal

pub returns : goal.returns
returns c =
    c.as_slice.ensures.value ∙ sym (concat-listed c.self.inside.pool.items c.self.inside.entries.items c.self.invariant)
    ∙ ap (λ tokens. concat (texts tokens)) c.self.view_is
