use Rattle.std.proofs.Common.{◌++◌, codes, refl}
use Rattle.qasm_lexer.proofs.Feeds.{IsCut-append}
use Rattle.qasm_lexer.proofs.laws.cuts_of_lines_go_together.Goals as goal

pub returns : goal.returns
returns c = λ place line after these those d e. IsCut-append place (line ++ codes "\n") after these those line refl d e
