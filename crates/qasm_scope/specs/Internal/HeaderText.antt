-- The texts of the header are the programs of their gates' declarations: each line's tokens and statement are computed,
-- and the lines go together.
use Rattle.std.proofs.Common.{◌≡◌, ℕ, ◌+◌, Bool, true, false, ◌&&◌, not, eqb, List, [], ◌∷◌, ◌++◌, map, length}
use Rattle.std.proofs.Common.{Option, None, Some, refl, sym, ap, ◌∙◌, subst, append-nil}
use Rattle.std.specs.Prelude.{if◌then◌else◌, nat_lt}
use Rattle.std.specs.List.{concat, list_all}
use Rattle.std.proofs.lemmas.Bool.{false≢true, and_parts, eqb-true}
use Rattle.qasm_lexer.specs.Tokens.{Lexeme, IsCut}
use Rattle.qasm_lexer.proofs.Building.{IsCut-nil}
use Rattle.qasm_lexer.proofs.Feeds.{IsCut-append}
use Rattle.qasm_lexer.proofs.Scan.{tokens_of, IsCut-tokens_of}
use Rattle.qasm_reader.specs.Depth.{most_open, open_after, too_deep_from}
use Rattle.qasm_reader.specs.Grammar.{BeginsAt, IsProgram, IsStatement}
use Rattle.qasm_reader.specs.Internal.Machine.{step, finished, run, take_entries, take_expression}
use Rattle.qasm_reader.specs.Syntax.{GateForm, Sentence, DeclareGate, Placed}
use Rattle.qasm_reader.specs.Internal.Taking.{◌>>=◌, same_kind, after, text, repeated, comma_items, comma_list}
use Rattle.qasm_reader.specs.Internal.Taking.{optional_list, identifiers, parameters, gate_name, angles}
use Rattle.qasm_reader.specs.Internal.Taking.{body_application, body_statement, body, heading, opening, gate}
use Rattle.qasm_reader.specs.Internal.Taking.{statement}
use Rattle.qasm_reader.proofs.Statements.{statement_takes}
use Rattle.qasm_reader.proofs.Steps.{bind_some}
use Rattle.qasm_scope.specs.Header.{first_lines, further_lines, first_text, further_text}
use Rattle.qasm_scope.specs.HeaderTrees.{first_trees, further_trees}
use Rattle.qasm_scope.specs.ProgramTexts.{IsProgramText, GatesOf}

-- ---- lines and texts
-- a line at a place declares a gate
record IsLine (place : ℕ) (line : List ℕ) (form : GateForm) : Type 0 where
  pub prefix : List ℕ
  pub ends : line ≡ prefix ++ 10 ∷ []
  pub tokens : List Lexeme
  pub cut : IsCut place line tokens
  pub at : ℕ
  pub begins : BeginsAt tokens at
  pub closed : (rest : List Lexeme) → too_deep_from 0 (tokens ++ rest) ≡ too_deep_from 0 rest
  pub statement : IsStatement (DeclareGate form) tokens

-- a text at a place declares gates
record AreLines (place : ℕ) (text : List ℕ) (forms : List GateForm) : Type 0 where
  pub program : List Placed
  pub tokens : List Lexeme
  pub cut : IsCut place text tokens
  pub shallow : too_deep_from 0 tokens ≡ None
  pub grammar : IsProgram tokens program
  pub sentences : map (λ s. s.sentence) program ≡ map DeclareGate forms

no_line : (place : ℕ) → AreLines place [] []
no_line place = record {
  program = [];
  tokens = [];
  cut = IsCut-nil place;
  shallow = refl;
  grammar = refl;
  sentences = refl;
}

line_then : (place : ℕ) (line after : List ℕ) (form : GateForm) (forms : List GateForm) → IsLine place line form
    → AreLines (place + length line) after forms
    → AreLines place (line ++ after) (form ∷ forms)
line_then place line after form forms l m = record {
  program = record { place = l.at; sentence = DeclareGate form } ∷ m.program;
  tokens = l.tokens ++ m.tokens;
  cut = IsCut-append place line after l.tokens m.tokens l.prefix l.ends l.cut m.cut;
  shallow = l.closed m.tokens ∙ m.shallow;
  grammar = (l.tokens, m.tokens, refl, l.begins, l.statement, m.grammar);
  sentences = ap (λ (sentences : List Sentence). DeclareGate form ∷ sentences) m.sentences;
}

-- ---- the statement of a line, computed
abbrev ends_with_feed : List ℕ → Bool
ends_with_feed [] = false
ends_with_feed (b ∷ []) = eqb b 10
ends_with_feed (b ∷ c ∷ line) = ends_with_feed (c ∷ line)

ends_from : (line : List ℕ) → ends_with_feed line ≡ true → (prefix : List ℕ) × (line ≡ prefix ++ 10 ∷ [])
ends_from [] e = absurd (false≢true e)
ends_from (b ∷ []) e = ([], ap (λ c. c ∷ []) (eqb-true b 10 e))
ends_from (b ∷ c ∷ line) e = let f = ends_from (c ∷ line) e in (b ∷ f.0, ap (λ (r : List ℕ). b ∷ r) f.1)

-- no parenthesis is one too many, and none stays open, where so many were open before
abbrev closes : ℕ → List Lexeme → Bool
closes n [] = eqb n 0
closes n (t ∷ ts) = not (nat_lt most_open (open_after n t.kind)) && closes (open_after n t.kind) ts

closes_then : (n : ℕ) (ts rest : List Lexeme) → closes n ts ≡ true → too_deep_from n (ts ++ rest) ≡ too_deep_from 0 rest
closes_then n [] rest e = ap (λ m. too_deep_from m rest) (eqb-true n 0 e)
closes_then n (t ∷ ts) rest e =
    let p : (not (nat_lt most_open (open_after n t.kind)) ≡ true) × (closes (open_after n t.kind) ts ≡ true) =
    and_parts (not (nat_lt most_open (open_after n t.kind))) (closes (open_after n t.kind) ts) e in
    not_deep (nat_lt most_open (open_after n t.kind)) p.0 (closes_then (open_after n t.kind) ts rest p.1) where
      not_deep : (deep : Bool) → not deep ≡ true
          → too_deep_from (open_after n t.kind) (ts ++ rest) ≡ too_deep_from 0 rest
          → (if deep then Some t.place else too_deep_from (open_after n t.kind) (ts ++ rest)) ≡ too_deep_from 0 rest
      not_deep true e r = absurd (false≢true e)
      not_deep false e r = r

abbrev where_closed : List Lexeme → Option (Sentence × List Lexeme)
where_closed tokens = if closes 0 tokens then statement tokens else None

abbrev reading : ℕ → List ℕ → Option (Sentence × List Lexeme)
reading place line = tokens_of place line >>= where_closed

if_some : {X : Type 0} (b : Bool) (o : Option X) (x : X) → (if b then o else None) ≡ Some x → (b ≡ true) × (o ≡ Some x)
if_some true o x e = (refl, e)
if_some false o x e = absurd cc

begins_from : (ts : List Lexeme) (x : Sentence × List Lexeme) → statement ts ≡ Some x → (at : ℕ) × BeginsAt ts at
unfolding statement
begins_from [] x e = absurd cc
begins_from (t ∷ ts) x e = (t.place, (t, ts, refl, refl))

line_from : (place : ℕ) (line : List ℕ) (form : GateForm) → ends_with_feed line ≡ true
    → reading place line ≡ Some (DeclareGate form, []) → IsLine place line form
line_from place line form ends e =
    let found = bind_some (tokens_of place line) where_closed (DeclareGate form, []) e in
    let read : (closes 0 found.0 ≡ true) × (statement found.0 ≡ Some (DeclareGate form, [])) =
    if_some (closes 0 found.0) (statement found.0) (DeclareGate form, []) found.2 in
    let took = statement_takes found.0 (DeclareGate form) [] read.1 in
    let begins = begins_from found.0 (DeclareGate form, []) read.1 in
    let prefix = ends_from line ends in
    record {
      prefix = prefix.0;
      ends = prefix.1;
      tokens = found.0;
      cut = IsCut-tokens_of place line found.0 found.1;
      at = begins.0;
      begins = begins.1;
      closed = λ rest. closes_then 0 found.0 rest read.0;
      statement = subst (λ ts. IsStatement (DeclareGate form) ts) (sym (took.1 ∙ append-nil took.0)) took.2;
    }

-- ---- the lines of the header
-- each line declares a gate, wherever it stands
are_lines : (place : ℕ) (lines : List (List ℕ)) (forms : List GateForm) → list_all ends_with_feed lines ≡ true
    → ((place : ℕ) → map (reading place) lines ≡ map (λ form. Some (DeclareGate form, [])) forms)
    → AreLines place (concat lines) forms
are_lines place [] [] ends read = no_line place
are_lines place [] (form ∷ forms) ends read = absurd (let e = read 0 in cc)
are_lines place (line ∷ lines) [] ends read = absurd (let e = read 0 in cc)
are_lines place (line ∷ lines) (form ∷ forms) ends read =
    let p : (ends_with_feed line ≡ true) × (list_all ends_with_feed lines ≡ true) =
    and_parts (ends_with_feed line) (list_all ends_with_feed lines) ends in
    let here : (place : ℕ) → reading place line ≡ Some (DeclareGate form, []) = λ place. let e = read place in cc in
    line_then place line (concat lines) form forms (line_from place line form p.0 (here place))
    (are_lines (place + length line) lines forms p.1 (λ place. let e = read place in cc))

first_read : (place : ℕ) → map (reading place) first_lines ≡ map (λ form. Some (DeclareGate form, [])) first_trees
unfolding step finished run take_entries take_expression same_kind after text repeated comma_items comma_list
    optional_list identifiers parameters gate_name angles body_application body_statement body heading opening gate
    statement
first_read place = refl

further_read : (place : ℕ) → map (reading place) further_lines ≡ map (λ form. Some (DeclareGate form, [])) further_trees
unfolding step finished run take_entries take_expression same_kind after text repeated comma_items comma_list
    optional_list identifiers parameters gate_name angles body_application body_statement body heading opening gate
    statement
further_read place = refl

-- a text is the program of the declarations of these gates
abbrev pub IsDeclared : List ℕ → List GateForm → Type 0
IsDeclared text forms =
    (program : List Placed) × IsProgramText text program
    × (map (λ s. s.sentence) program ≡ map DeclareGate forms)

are_declared : (lines : List (List ℕ)) (forms : List GateForm) → list_all ends_with_feed lines ≡ true
    → ((place : ℕ) → map (reading place) lines ≡ map (λ form. Some (DeclareGate form, [])) forms)
    → IsDeclared (concat lines) forms
are_declared lines forms ends read =
    let are : AreLines 0 (concat lines) forms = are_lines 0 lines forms ends read in
    let is : IsProgramText (concat lines) are.program =
    record { tokens = are.tokens; cut = are.cut; shallow = are.shallow; grammar = are.grammar } in
    (are.program, is, are.sentences)

pub first_is : IsDeclared first_text first_trees
first_is = are_declared first_lines first_trees refl first_read

pub further_is : IsDeclared further_text further_trees
further_is = are_declared further_lines further_trees refl further_read

-- the gates that the texts declare
abbrev pub first_declarations : GatesOf first_text
first_declarations =
    record { gates = first_trees; program = first_is.0; is = first_is.1; declares = first_is.2 }

abbrev pub further_declarations : GatesOf further_text
further_declarations =
    record { gates = further_trees; program = further_is.0; is = further_is.1; declares = further_is.2 }
