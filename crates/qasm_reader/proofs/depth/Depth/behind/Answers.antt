-- One token more.
use Rattle.std.proofs.Common.{◌++◌, ◌∷◌, [], sym, subst}
use Rattle.qasm_lexer.specs.Tokens.{lexeme}
use Rattle.qasm_reader.specs.Depth.{IsDepth}
use Rattle.qasm_reader.proofs.DepthSteps.{depth-deep, depth-open}
use Rattle.qasm_reader.proofs.depth.Depth.behind.Goals as goal

pub returns-in-Open : goal.returns-in-Open
returns-in-Open c = λ before is.
    subst (λ d. IsDepth d (before ++ lexeme c.args.token.now ∷ [])) (sym c.depth_at.ensures)
    (depth-open _ before (lexeme c.args.token.now) _ c.open_after.ensures (subst (λ d. IsDepth d before) c.in-Open.is is))

pub returns-in-TooDeep : goal.returns-in-TooDeep
returns-in-TooDeep c = λ before is. depth-deep _ before (lexeme c.args.token.now ∷ []) (subst (λ d. IsDepth d before) c.in-TooDeep.is is)
