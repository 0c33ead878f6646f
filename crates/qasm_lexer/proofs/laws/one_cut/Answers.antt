-- The laws of `Cuts`, and the scan of a text, which finds a cut or a bad byte.
use Rattle.qasm_lexer.proofs.Cuts.{same_tokens, same_byte, not_both, in_place}
use Rattle.qasm_lexer.proofs.Scan.{either}
use Rattle.qasm_lexer.proofs.laws.one_cut.Goals as goal

pub returns-clause-either : goal.returns-clause-either
returns-clause-either c = either

pub returns-clause-same_tokens : goal.returns-clause-same_tokens
returns-clause-same_tokens c = same_tokens

pub returns-clause-same_byte : goal.returns-clause-same_byte
returns-clause-same_byte c = same_byte

pub returns-clause-not_both : goal.returns-clause-not_both
returns-clause-not_both c = not_both

pub returns-clause-in_place : goal.returns-clause-in_place
returns-clause-in_place c = in_place
