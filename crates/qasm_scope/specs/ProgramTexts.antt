-- Texts that are programs.
use Rattle.std.specs.Prelude.{◌≡◌, ℕ, List, map, None}
use Rattle.qasm_lexer.specs.Tokens.{Lexeme, IsCut}
use Rattle.qasm_reader.specs.Depth.{too_deep}
use Rattle.qasm_reader.specs.Grammar.{IsProgram}
use Rattle.qasm_reader.specs.Syntax.{GateForm, DeclareGate, Placed}

-- the text is this program
pub record IsProgramText (text : List ℕ) (program : List Placed) : Type 0 where
  pub tokens : List Lexeme
  pub cut : IsCut 0 text tokens
  pub shallow : too_deep tokens ≡ None
  pub grammar : IsProgram tokens program

-- The gates that a text declares, in order, where it is a program of declarations of gates alone. There is one such
-- list at most: the law `a_text_declares_one_list_of_gates`.
pub record GatesOf (text : List ℕ) : Type 0 where
  pub gates : List GateForm
  pub program : List Placed
  pub is : IsProgramText text program
  pub declares : map (λ s. s.sentence) program ≡ map DeclareGate gates
