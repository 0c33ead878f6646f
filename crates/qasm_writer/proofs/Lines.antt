-- Each line of a circuit's text is one statement: its tokens, and their grammar.
use Rattle.std.specs.Prelude.{◌≡◌, ◌<◌, ℕ, ◌+◌, ◌^◌, true, List, [], ◌∷◌, ◌++◌, length, codes, decimal, Some, None}
use Rattle.std.proofs.Common.{refl, sym, ap, ◌∙◌, arith, subst, append_assoc, inl}
use Rattle.std.proofs.lemmas.List.{append-nil}
use Rattle.std.specs.List.{list_all}
use Rattle.qasm_lexer.specs.declared.token.TokenKind.{TokenKind}
use Rattle.qasm_lexer.specs.declared.token.TokenKind.TheVariants as kind
use Rattle.std.specs.Char.{is_ascii_digit}
use Rattle.qasm_lexer.specs.Forms.{is_natural, is_word}
use Rattle.qasm_lexer.specs.Tokens.{Lexeme, IsCut, word_kind}
use Rattle.qasm_lexer.specs.Worked.{token}
use Rattle.qasm_lexer.proofs.Building.{IsCut-nil, IsCut-space, IsCut-token, IsCut-word, IsCut-sign, IsCut-plain_sign, IsCut-natural, IsCut-decimal}
use Rattle.qasm_lexer.proofs.Pieces.{ends_sign, long_sign_piece}
use Rattle.qasm_lexer.proofs.Feeds.{IsCut-append}
use Rattle.qasm_lexer.proofs.Scan.{IsCut-tokens_of}
use Rattle.qasm_reader.specs.Depth.{too_deep, too_deep_from}
use Rattle.qasm_reader.specs.Grammar.{IsProgram, IsStatement, IsArgument, IsArguments, IsAngles, IsExpression, BeginsAt, OneTerm, Product, Quotient, OnePower, OneFactor, WholeNumber, PiWord, Sign, Word, IsIdentifier, IsIndex, IsNatural, ◌⋅◌}
use Rattle.qasm_reader.specs.Syntax.{Formula, Operand, Sentence, Version, Include, QubitRegister, BitRegister, Placed}
use Rattle.qasm_writer.specs.Written.{bit_name, measure_line, on_one, on_two, qubit_name}
use Rattle.qasm_writer.proofs.Statements.{application, bit_operand, measurement, operand, pi_over, pi_times_over}

-- ---- texts and programs
-- the line at a place is this statement
pub record IsLine (place : ℕ) (line : List ℕ) (s : Sentence) : Type 0 where
  pub prefix : List ℕ
  pub ends : line ≡ prefix ++ 10 ∷ []
  pub tokens : List Lexeme
  pub cut : IsCut place line tokens
  pub begins : BeginsAt tokens place
  pub closed : (rest : List Lexeme) → too_deep_from 0 (tokens ++ rest) ≡ too_deep_from 0 rest
  pub statement : IsStatement s tokens

-- the text at a place is this program
pub record AreLines (place : ℕ) (text : List ℕ) (program : List Placed) : Type 0 where
  pub tokens : List Lexeme
  pub cut : IsCut place text tokens
  pub shallow : too_deep tokens ≡ None
  pub grammar : IsProgram tokens program

pub no_line : (place : ℕ) → AreLines place [] []
no_line place = record { tokens = []; cut = IsCut-nil place; shallow = refl; grammar = refl }

pub line_then : (place : ℕ) (line after : List ℕ) (s : Sentence) (program : List Placed) → IsLine place line s → AreLines (place + length line) after program
    → AreLines place (line ++ after) (record { place = place; sentence = s } ∷ program)
line_then place line after s program l m = record {
  tokens = l.tokens ++ m.tokens;
  cut = IsCut-append place line after l.tokens m.tokens l.prefix l.ends l.cut m.cut;
  shallow = l.closed m.tokens ∙ m.shallow;
  grammar = (l.tokens, m.tokens, refl, l.begins, l.statement, m.grammar);
}

-- ---- grammar
-- a sign or a word and what follows, and a sign behind what stands before
sign_then : (k : TokenKind) (Back : List Lexeme → Type 0) (t : Lexeme) (vs : List Lexeme) → t.kind ≡ k → Back vs → (Sign k ⋅ Back) (t ∷ vs)
sign_then k Back t vs is back = (t ∷ [], vs, refl, (t, is, refl), back)

word_then : (k : TokenKind) (text : List ℕ) (Back : List Lexeme → Type 0) (t : Lexeme) (vs : List Lexeme) → t.kind ≡ k → t.text ≡ text → Back vs → (Word k text ⋅ Back) (t ∷ vs)
word_then k text Back t vs is same back = (t ∷ [], vs, refl, (t, is, same, refl), back)

then_sign : (Front : List Lexeme → Type 0) (k : TokenKind) (us : List Lexeme) (t : Lexeme) → Front us → t.kind ≡ k → (Front ⋅ Sign k) (us ++ t ∷ [])
then_sign Front k us t front is = (us, t ∷ [], refl, front, (t, is, refl))

index_is : (i : List ℕ) (a b c : Lexeme) → a.kind ≡ kind.LeftBracket → b.kind ≡ kind.Natural → b.text ≡ i → c.kind ≡ kind.RightBracket → IsIndex (Some i) (a ∷ b ∷ c ∷ [])
index_is i a b c ka kb tb kc = sign_then kind.LeftBracket (IsNatural i ⋅ Sign kind.RightBracket) a (b ∷ c ∷ []) ka (word_then kind.Natural i (Sign kind.RightBracket) b (c ∷ []) kb tb (c, kc, refl))

argument_is : (r i : List ℕ) (a b c d : Lexeme) → a.kind ≡ kind.Identifier → a.text ≡ r → b.kind ≡ kind.LeftBracket
    → c.kind ≡ kind.Natural → c.text ≡ i → d.kind ≡ kind.RightBracket → IsArgument (record { register = r; index = Some i }) (a ∷ b ∷ c ∷ d ∷ [])
argument_is r i a b c d ka ta kb kc tc kd =
    word_then kind.Identifier r (IsIndex (Some i)) a (b ∷ c ∷ d ∷ []) ka ta (index_is i b c d kb kc tc kd)

applied_is : (name : List ℕ) (angles : List Formula) (operands : List Operand) (t s : Lexeme) (us vs : List Lexeme)
    → t.kind ≡ kind.Identifier → t.text ≡ name → IsAngles angles us → IsArguments operands vs → s.kind ≡ kind.Semicolon
    → IsStatement (application name angles operands) (t ∷ us ++ (vs ++ s ∷ []))
applied_is name angles operands t s us vs k e a b l =
    (t ∷ [], us ++ (vs ++ s ∷ []), refl, (t, k, e, refl), (us, vs ++ s ∷ [], refl, a, (vs, s ∷ [], refl, b, (s, l, refl))))

-- the tokens of an element of a register whose name is one letter, at a place
abbrev element_tokens : ℕ → ℕ → ℕ → List Lexeme
element_tokens letter place q =
    token kind.Identifier (letter ∷ []) place ∷ token kind.LeftBracket (codes "[") (place + 1)
    ∷ token kind.Natural (decimal q) (place + 2) ∷ token kind.RightBracket (codes "]") (place + 2 + length (decimal q)) ∷ []

abbrev qubit_tokens : ℕ → ℕ → List Lexeme
qubit_tokens = element_tokens 113

qubit_is : (place q : ℕ) → IsArgument (operand (decimal q)) (qubit_tokens place q)
qubit_is place q = argument_is (codes "q") (decimal q) _ _ _ _ refl refl refl refl refl refl

one_argument : (place q : ℕ) → IsArguments (operand (decimal q) ∷ []) (qubit_tokens place q)
one_argument place q = (qubit_tokens place q, [], refl, qubit_is place q, refl)

two_arguments : (place at next q r : ℕ) → IsArguments (operand (decimal q) ∷ operand (decimal r) ∷ [])
    (qubit_tokens place q ++ token kind.Comma (codes ",") at ∷ qubit_tokens next r)
two_arguments place at next q r =
    let comma : Lexeme = token kind.Comma (codes ",") at in (
      qubit_tokens place q,
      comma ∷ qubit_tokens next r,
      refl,
      qubit_is place q,
      (comma ∷ qubit_tokens next r, [], refl, (comma ∷ [], qubit_tokens next r, refl, (comma, refl, refl), qubit_is next r), refl),
    )

-- ---- cuts
abbrev element_then : ℕ → ℕ → List ℕ → List ℕ
element_then letter q after = letter ∷ 91 ∷ (decimal q ++ 93 ∷ after)

abbrev qubit_then : ℕ → List ℕ → List ℕ
qubit_then = element_then 113

element_cut : (letter : ℕ) → is_word (letter ∷ []) ≡ true → word_kind (letter ∷ []) ≡ Some kind.Identifier
    → (place q next : ℕ) (after : List ℕ) (tokens : List Lexeme) → q < 2 ^ 64 → next ≡ place + 3 + length (decimal q)
    → IsCut next after tokens → IsCut place (element_then letter q after) (element_tokens letter place q ++ tokens)
element_cut letter word identifier place q next after tokens small there c =
    IsCut-word (letter ∷ []) (place + 1) word identifier refl (omega arith)
    (IsCut-plain_sign 91 (place + 2) refl refl (omega arith)
    (IsCut-decimal q (place + 2 + length (decimal q)) small refl refl
    (IsCut-plain_sign 93 next refl refl (omega arith) c)))

qubit_cut : (place q next : ℕ) (after : List ℕ) (tokens : List Lexeme) → q < 2 ^ 64 → next ≡ place + 3 + length (decimal q)
    → IsCut next after tokens → IsCut place (qubit_then q after) (qubit_tokens place q ++ tokens)
qubit_cut = element_cut 113 refl refl

-- the end of a line
end_cut : (place : ℕ) → IsCut place (59 ∷ 10 ∷ []) (token kind.Semicolon (codes ";") place ∷ [])
end_cut place = IsCut-plain_sign 59 (place + 1) refl refl refl (IsCut-space 10 (place + 2) refl (omega arith) (IsCut-nil (place + 2)))

-- after the name of a gate
abbrev one_tokens : ℕ → ℕ → List Lexeme
one_tokens place q = qubit_tokens (place + 1) q ++ token kind.Semicolon (codes ";") (place + 4 + length (decimal q)) ∷ []

one_cut : (place q : ℕ) → q < 2 ^ 64 → IsCut place (32 ∷ qubit_then q (59 ∷ 10 ∷ [])) (one_tokens place q)
one_cut place q small =
    IsCut-space 32 (place + 1) refl refl
    (qubit_cut (place + 1) q (place + 4 + length (decimal q)) (59 ∷ 10 ∷ []) _ small (omega arith) (end_cut (place + 4 + length (decimal q))))

abbrev two_tokens : ℕ → ℕ → ℕ → List Lexeme
two_tokens place q r =
    qubit_tokens (place + 1) q ++ token kind.Comma (codes ",") (place + 4 + length (decimal q))
    ∷ qubit_tokens (place + 5 + length (decimal q)) r
    ++ token kind.Semicolon (codes ";") (place + 8 + length (decimal q) + length (decimal r)) ∷ []

two_cut : (place q r : ℕ) → q < 2 ^ 64 → r < 2 ^ 64
    → IsCut place (32 ∷ qubit_then q (44 ∷ qubit_then r (59 ∷ 10 ∷ []))) (two_tokens place q r)
two_cut place q r small slight =
    let at : ℕ = place + 4 + length (decimal q) in
    IsCut-space 32 (place + 1) refl refl
    (qubit_cut (place + 1) q (place + 4 + length (decimal q)) (44 ∷ qubit_then r (59 ∷ 10 ∷ [])) _ small (omega arith)
    (IsCut-plain_sign 44 (place + 5 + length (decimal q)) refl refl (omega arith)
    (qubit_cut (place + 5 + length (decimal q)) r (place + 8 + length (decimal q) + length (decimal r)) (59 ∷ 10 ∷ []) _ slight (omega arith)
    (end_cut (place + 8 + length (decimal q) + length (decimal r))))))

-- ---- texts of lines
abbrev one_text : List ℕ → ℕ → List ℕ
one_text name q = name ++ 32 ∷ qubit_then q (59 ∷ 10 ∷ [])

grouped : (a b c d : List ℕ) → a ++ b ++ c ++ d ≡ a ++ (b ++ (c ++ d))
grouped a b c d = simp append_assoc

on_one-text : (name : List ℕ) (q : ℕ) → on_one name q ≡ one_text name q
on_one-text name q =
    grouped name (codes " ") (qubit_name q) (codes ";\n")
    ∙ ap (λ t. name ++ 32 ∷ 113 ∷ 91 ∷ t) (append_assoc (decimal q) (codes "]") (59 ∷ 10 ∷ []))

abbrev two_text : List ℕ → ℕ → ℕ → List ℕ
two_text name q r = name ++ 32 ∷ qubit_then q (44 ∷ qubit_then r (59 ∷ 10 ∷ []))

on_two-text : (name : List ℕ) (q r : ℕ) → on_two name q r ≡ two_text name q r
on_two-text name q r =
    grouped (name ++ codes " " ++ qubit_name q) (codes ",") (qubit_name r) (codes ";\n")
    ∙ grouped name (codes " ") (qubit_name q) (codes "," ++ (qubit_name r ++ codes ";\n"))
    ∙ ap (λ t. name ++ 32 ∷ 113 ∷ 91 ∷ t) (append_assoc (decimal q) (codes "]") (44 ∷ (qubit_name r ++ 59 ∷ 10 ∷ [])))
    ∙ ap (λ t. name ++ 32 ∷ qubit_then q (44 ∷ 113 ∷ 91 ∷ t)) (append_assoc (decimal r) (codes "]") (59 ∷ 10 ∷ []))

-- a line without its end
line_ends : (line : List ℕ) → line ++ codes ";\n" ≡ (line ++ codes ";") ++ 10 ∷ []
line_ends line = sym (append_assoc line (codes ";") (10 ∷ []))

-- ---- lines of gates whose name is a word
module _ (place : ℕ) (name : List ℕ) (is : is_word name ≡ true) (identifier : word_kind name ≡ Some kind.Identifier) where
  pub on_one_line : (q : ℕ) → q < 2 ^ 64 → IsLine place (on_one name q) (application name [] (operand (decimal q) ∷ []))
  on_one_line q small =
      let t : Lexeme = token kind.Identifier name place in
      let c : IsCut place (one_text name q) (t ∷ one_tokens (place + length name) q) =
      IsCut-word name (place + length name) is identifier refl refl (one_cut (place + length name) q small) in
      record {
        prefix = name ++ codes " " ++ qubit_name q ++ codes ";";
        ends = line_ends (name ++ codes " " ++ qubit_name q);
        tokens = t ∷ one_tokens (place + length name) q;
        cut = subst (λ text. IsCut place text (t ∷ one_tokens (place + length name) q)) (sym (on_one-text name q)) c;
        begins = (t, one_tokens (place + length name) q, refl, refl);
        closed = λ rest. refl;
        statement = applied_is name [] (operand (decimal q) ∷ []) t _ [] (qubit_tokens (place + length name + 1) q)
            refl refl (inl refl) (one_argument (place + length name + 1) q) refl;
      }

  pub on_two_line : (q r : ℕ) → q < 2 ^ 64 → r < 2 ^ 64
      → IsLine place (on_two name q r) (application name [] (operand (decimal q) ∷ operand (decimal r) ∷ []))
  on_two_line q r small slight =
      let t : Lexeme = token kind.Identifier name place in
      let more : List Lexeme = two_tokens (place + length name) q r in
      let c : IsCut place (two_text name q r) (t ∷ more) =
      IsCut-word name (place + length name) is identifier refl refl (two_cut (place + length name) q r small slight) in
      record {
        prefix = name ++ codes " " ++ qubit_name q ++ codes "," ++ qubit_name r ++ codes ";";
        ends = line_ends (name ++ codes " " ++ qubit_name q ++ codes "," ++ qubit_name r);
        tokens = t ∷ more;
        cut = subst (λ text. IsCut place text (t ∷ more)) (sym (on_two-text name q r)) c;
        begins = (t, more, refl, refl);
        closed = λ rest. refl;
        statement = applied_is name [] (operand (decimal q) ∷ operand (decimal r) ∷ []) t _ []
            (qubit_tokens (place + length name + 1) q ++ token kind.Comma (codes ",") (place + length name + 4 + length (decimal q))
            ∷ qubit_tokens (place + length name + 5 + length (decimal q)) r)
            refl refl (inl refl) (two_arguments (place + length name + 1) _ _ q r) refl;
      }

-- ---- lines of u1 at pi/d and at n*pi/d, for a digit d
-- a digit that is a natural number, and no sign with a slash before it
abbrev pub IsDigit : ℕ → Type 0
IsDigit d = (list_all is_ascii_digit (d ∷ []) ≡ true) × (is_natural (d ∷ []) ≡ true) × (ends_sign 47 (d ∷ []) ≡ true)

abbrev pub u1_text : List ℕ → List ℕ
u1_text angle = 117 ∷ 49 ∷ 40 ∷ angle

-- up to the parenthesis behind the angle
abbrev pub over_text : ℕ → List ℕ
over_text d = 112 ∷ 105 ∷ 47 ∷ d ∷ 41 ∷ []

abbrev pub times_text : List ℕ → ℕ → List ℕ
times_text n d = n ++ 42 ∷ over_text d

abbrev over_tokens : ℕ → ℕ → List Lexeme
over_tokens place d =
    token kind.Pi (codes "pi") place ∷ token kind.Slash (codes "/") (place + 2) ∷ token kind.Natural (d ∷ []) (place + 3)
    ∷ token kind.RightParenthesis (codes ")") (place + 4) ∷ []

over_cut : (place d next : ℕ) (after : List ℕ) (tokens : List Lexeme) → IsDigit d → next ≡ place + 5 → IsCut next after tokens
    → IsCut place (over_text d ++ after) (over_tokens place d ++ tokens)
over_cut place d next after tokens digit there c =
    IsCut-word (codes "pi") (place + 2) refl refl refl refl
    (IsCut-sign 47 (place + 3) refl digit.2 (omega arith)
    (IsCut-natural (d ∷ []) (place + 4) digit.0 digit.1 refl (omega arith)
    (IsCut-plain_sign 41 next refl refl (omega arith) c)))

angles_are : (f : Formula) (left right : Lexeme) (inside : List Lexeme) → left.kind ≡ kind.LeftParenthesis → right.kind ≡ kind.RightParenthesis
    → IsExpression f inside → IsAngles (f ∷ []) (left ∷ (inside ++ right ∷ []))
angles_are f left right inside l r e =
    (left ∷ [], inside ++ right ∷ [], refl, (left, l, refl), (inside, right ∷ [], refl, (inside, [], sym (append-nil inside), e, refl), (right, r, refl)))

-- from the tokens of the angle on
module _ (place next : ℕ) (angle : List ℕ) (f : Formula) (inside : List Lexeme) (q : ℕ) where
  u1_line : q < 2 ^ 64
      → ((after : List ℕ) (tokens : List Lexeme) → IsCut next after tokens → IsCut (place + 3) (angle ++ after) (inside ++ tokens))
      → IsAngles (f ∷ []) (token kind.LeftParenthesis (codes "(") (place + 2) ∷ inside)
      → ((tokens : List Lexeme) → too_deep_from 1 (inside ++ tokens) ≡ too_deep_from 0 tokens)
      → IsLine place (on_one (u1_text angle) q) (application (codes "u1") (f ∷ []) (operand (decimal q) ∷ []))
  u1_line small cut angles closes =
      let t : Lexeme = token kind.Identifier (codes "u1") place in
      let left : Lexeme = token kind.LeftParenthesis (codes "(") (place + 2) in
      let more : List Lexeme = left ∷ (inside ++ one_tokens next q) in
      record {
        prefix = u1_text angle ++ codes " " ++ qubit_name q ++ codes ";";
        ends = line_ends (u1_text angle ++ codes " " ++ qubit_name q);
        tokens = t ∷ more;
        cut = subst (λ text. IsCut place text (t ∷ more)) (sym (on_one-text (u1_text angle) q))
            (IsCut-word (codes "u1") (place + 2) refl refl refl refl
            (IsCut-plain_sign 40 (place + 3) refl refl (omega arith) (cut (32 ∷ qubit_then q (59 ∷ 10 ∷ [])) (one_tokens next q) (one_cut next q small))));
        begins = (t, more, refl, refl);
        closed = λ rest. ap (too_deep_from 1) (append_assoc inside (one_tokens next q) rest) ∙ closes (one_tokens next q ++ rest);
        statement = applied_is (codes "u1") (f ∷ []) (operand (decimal q) ∷ []) t (token kind.Semicolon (codes ";") (next + 4 + length (decimal q)))
            (left ∷ inside) (qubit_tokens (next + 1) q) refl refl angles (one_argument (next + 1) q) refl;
      }

pub over_line : (place d q : ℕ) → IsDigit d → q < 2 ^ 64
    → IsLine place (on_one (u1_text (over_text d)) q) (application (codes "u1") (pi_over (d ∷ []) ∷ []) (operand (decimal q) ∷ []))
over_line place d q digit small =
    let pi : Lexeme = token kind.Pi (codes "pi") (place + 3) in
    let slash : Lexeme = token kind.Slash (codes "/") (place + 3 + 2) in
    let under : Lexeme = token kind.Natural (d ∷ []) (place + 3 + 3) in
    u1_line place (place + 8) (over_text d) (pi_over (d ∷ [])) (over_tokens (place + 3) d) q small
    (λ after tokens c. over_cut (place + 3) d (place + 8) after tokens digit (omega arith) c)
    (angles_are (pi_over (d ∷ [])) _ (token kind.RightParenthesis (codes ")") (place + 3 + 4)) (pi ∷ slash ∷ under ∷ []) refl refl
    (OneTerm (Quotient slash (OnePower (OneFactor (PiWord pi refl))) refl (OneFactor (WholeNumber under refl)))))
    (λ tokens. refl)

pub times_line : (place : ℕ) (n : List ℕ) (d q : ℕ) → list_all is_ascii_digit n ≡ true → is_natural n ≡ true → IsDigit d → q < 2 ^ 64
    → IsLine place (on_one (u1_text (times_text n d)) q) (application (codes "u1") (pi_times_over n (d ∷ []) ∷ []) (operand (decimal q) ∷ []))
times_line place n d q digits natural digit small =
    let at : ℕ = place + 3 + length n + 1 in
    let count : Lexeme = token kind.Natural n (place + 3) in
    let star : Lexeme = token kind.Star (codes "*") (place + 3 + length n) in
    let pi : Lexeme = token kind.Pi (codes "pi") at in
    let slash : Lexeme = token kind.Slash (codes "/") (at + 2) in
    let under : Lexeme = token kind.Natural (d ∷ []) (at + 3) in
    u1_line place (at + 5) (times_text n d) (pi_times_over n (d ∷ [])) (count ∷ star ∷ over_tokens at d) q small
    (λ after tokens c. subst (λ text. IsCut (place + 3) text (count ∷ star ∷ over_tokens at d ++ tokens)) (sym (append_assoc n (42 ∷ over_text d) after))
    (IsCut-natural n (place + 3 + length n) digits natural refl refl
    (IsCut-plain_sign 42 at refl refl refl (over_cut at d (at + 5) after tokens digit refl c))))
    (angles_are (pi_times_over n (d ∷ [])) _ (token kind.RightParenthesis (codes ")") (at + 4)) (count ∷ star ∷ pi ∷ slash ∷ under ∷ []) refl refl
    (OneTerm (Quotient slash (Product star (OnePower (OneFactor (WholeNumber count refl))) refl (OneFactor (PiWord pi refl))) refl (OneFactor (WholeNumber under refl)))))
    (λ tokens. refl)

-- the lines before the register
abbrev pub version_line : List ℕ
version_line = codes "OPENQASM 2.0;\n"

abbrev pub include_line : List ℕ
include_line = codes "include \"qelib1.inc\";\n"

-- ---- the lines at the head
-- a line of a keyword, one word and the semicolon
head_is : (place m n : ℕ) (line prefix u v : List ℕ) (j k : TokenKind) (s : Sentence) → line ≡ prefix ++ 10 ∷ []
    → IsCut place line (token j u place ∷ token k v m ∷ token kind.Semicolon (codes ";") n ∷ [])
    → ((rest : List Lexeme) → too_deep_from 0 (token j u place ∷ token k v m ∷ token kind.Semicolon (codes ";") n ∷ rest) ≡ too_deep_from 0 rest)
    → ((us : List Lexeme) → (Sign j ⋅ Word k v ⋅ Sign kind.Semicolon) us → IsStatement s us) → IsLine place line s
head_is place m n line prefix u v j k s ends cut closed grammar =
    let a : Lexeme = token j u place in
    let b : Lexeme = token k v m in
    let c : Lexeme = token kind.Semicolon (codes ";") n in
    record {
      prefix = prefix;
      ends = ends;
      tokens = a ∷ b ∷ c ∷ [];
      cut = cut;
      begins = (a, b ∷ c ∷ [], refl, refl);
      closed = closed;
      statement = grammar (a ∷ b ∷ c ∷ []) (a ∷ [], b ∷ c ∷ [], refl, (a, refl, refl), (b ∷ [], c ∷ [], refl, (b, refl, refl, refl), (c, refl, refl)));
    }

pub version_is : IsLine 0 version_line (Version (codes "2.0"))
version_is =
    head_is 0 9 12 version_line (codes "OPENQASM 2.0;") (codes "OPENQASM") (codes "2.0") kind.Openqasm kind.Real (Version (codes "2.0")) refl
    (IsCut-tokens_of 0 version_line _ refl) (λ rest. refl) (λ us is. is)

pub include_is : IsLine 14 include_line (Include (codes "\"qelib1.inc\""))
include_is =
    head_is 14 22 34 include_line (codes "include \"qelib1.inc\";") (codes "include") (codes "\"qelib1.inc\"") kind.Include kind.Text (Include (codes "\"qelib1.inc\"")) refl
    (IsCut-tokens_of 14 include_line _ refl) (λ rest. refl) (λ us is. is)

-- ---- the lines of registers, of four letters and a name of one
module _ (place n : ℕ) (word name : List ℕ) (k : TokenKind) (s : Sentence) where
  abbrev line_text : List ℕ
  line_text = word ++ (32 ∷ (name ++ (91 ∷ (decimal n ++ codes "];\n"))))

  abbrev line_tokens : List Lexeme
  line_tokens =
      token k word place ∷ token kind.Identifier name (place + 5) ∷ token kind.LeftBracket (codes "[") (place + 6)
      ∷ token kind.Natural (decimal n) (place + 7) ∷ token kind.RightBracket (codes "]") (place + 7 + length (decimal n))
      ∷ token kind.Semicolon (codes ";") (place + 8 + length (decimal n)) ∷ []

  line_parts : (Sign k ⋅ IsIdentifier name ⋅ IsIndex (Some (decimal n)) ⋅ Sign kind.Semicolon) line_tokens
  line_parts =
      let bracket : Lexeme = token kind.LeftBracket (codes "[") (place + 6) in
      let number : Lexeme = token kind.Natural (decimal n) (place + 7) in
      let closing : Lexeme = token kind.RightBracket (codes "]") (place + 7 + length (decimal n)) in
      let end : Lexeme = token kind.Semicolon (codes ";") (place + 8 + length (decimal n)) in
      sign_then k (IsIdentifier name ⋅ IsIndex (Some (decimal n)) ⋅ Sign kind.Semicolon) (token k word place) _ refl
      (word_then kind.Identifier name (IsIndex (Some (decimal n)) ⋅ Sign kind.Semicolon) (token kind.Identifier name (place + 5)) _ refl refl
      (then_sign (IsIndex (Some (decimal n))) kind.Semicolon (bracket ∷ number ∷ closing ∷ []) end (index_is (decimal n) bracket number closing refl refl refl refl) refl))

  register_line_is : ((rest : List Lexeme) → too_deep_from 0 (line_tokens ++ rest) ≡ too_deep_from 0 rest)
      → is_word word ≡ true → word_kind word ≡ Some k → length word ≡ 4 → is_word name ≡ true → word_kind name ≡ Some kind.Identifier → length name ≡ 1
      → IsStatement s line_tokens → n < 2 ^ 64 → IsLine place line_text s
  register_line_is closed is keyword four named identifier one statement small = record {
    prefix = word ++ (32 ∷ (name ++ (91 ∷ (decimal n ++ codes "];"))));
    ends =
        ap (λ t. word ++ (32 ∷ (name ++ (91 ∷ t)))) (sym (append_assoc (decimal n) (codes "];") (10 ∷ [])))
        ∙ ap (λ t. word ++ (32 ∷ t)) (sym (append_assoc name (91 ∷ (decimal n ++ codes "];")) (10 ∷ [])))
        ∙ sym (append_assoc word (32 ∷ (name ++ (91 ∷ (decimal n ++ codes "];")))) (10 ∷ []));
    tokens = line_tokens;
    cut =
        IsCut-word word (place + 4) is keyword refl (omega (arith, four))
        (IsCut-space 32 (place + 5) refl (omega arith)
        (IsCut-word name (place + 6) named identifier refl (omega (arith, one))
        (IsCut-plain_sign 91 (place + 7) refl refl (omega arith)
        (IsCut-decimal n (place + 7 + length (decimal n)) small refl refl
        (IsCut-plain_sign 93 (place + 8 + length (decimal n)) refl refl (omega arith)
        (end_cut (place + 8 + length (decimal n))))))));
    begins = (token k word place, _, refl, refl);
    closed = closed;
    statement = statement;
  }

-- the line of a register of qubits, and that of one of bits
abbrev pub register_text : ℕ → List ℕ
register_text n = codes "qreg q[" ++ decimal n ++ codes "];\n"

abbrev pub bits_text : ℕ → List ℕ
bits_text m = codes "creg c[" ++ decimal m ++ codes "];\n"

pub register_is : (place n : ℕ) → n < 2 ^ 64 → IsLine place (register_text n) (QubitRegister (codes "q") (decimal n))
register_is place n small =
    register_line_is place n (codes "qreg") (codes "q") kind.Qreg (QubitRegister (codes "q") (decimal n)) (λ rest. refl)
    refl refl refl refl refl refl (line_parts place n (codes "qreg") (codes "q") kind.Qreg (QubitRegister (codes "q") (decimal n))) small

pub bits_are : (place m : ℕ) → m < 2 ^ 64 → IsLine place (bits_text m) (BitRegister (codes "c") (decimal m))
bits_are place m small =
    register_line_is place m (codes "creg") (codes "c") kind.Creg (BitRegister (codes "c") (decimal m)) (λ rest. refl)
    refl refl refl refl refl refl (line_parts place m (codes "creg") (codes "c") kind.Creg (BitRegister (codes "c") (decimal m))) small

-- ---- the line of a measurement
abbrev measure_text : ℕ → ℕ → List ℕ
measure_text q b = codes "measure " ++ qubit_then q (32 ∷ 45 ∷ 62 ∷ 32 ∷ element_then 99 b (59 ∷ 10 ∷ []))

all_grouped : (a b c d e : List ℕ) → a ++ b ++ c ++ d ++ e ≡ a ++ (b ++ (c ++ (d ++ e)))
all_grouped a b c d e = simp append_assoc

measure-text : (q b : ℕ) → measure_line (record { qubit = q; bit = b }) ≡ measure_text q b
measure-text q b =
    all_grouped (codes "measure ") (qubit_name q) (codes " -> ") (bit_name b) (codes ";\n")
    ∙ ap (λ t. codes "measure " ++ 113 ∷ 91 ∷ t) (append_assoc (decimal q) (codes "]") (32 ∷ 45 ∷ 62 ∷ 32 ∷ (bit_name b ++ 59 ∷ 10 ∷ [])))
    ∙ ap (λ t. codes "measure " ++ qubit_then q (32 ∷ 45 ∷ 62 ∷ 32 ∷ 99 ∷ 91 ∷ t)) (append_assoc (decimal b) (codes "]") (59 ∷ 10 ∷ []))

pub measure_is : (place q b : ℕ) → q < 2 ^ 64 → b < 2 ^ 64 → IsLine place (measure_line (record { qubit = q; bit = b })) (measurement q b)
measure_is place q b small slight =
    let word : Lexeme = token kind.Measure (codes "measure") place in
    let arrow : Lexeme = token kind.Arrow (codes "->") (place + 12 + length (decimal q)) in
    let bits : List Lexeme = element_tokens 99 (place + 15 + length (decimal q)) b in
    let end : Lexeme = token kind.Semicolon (codes ";") (place + 18 + length (decimal q) + length (decimal b)) in
    let more : List Lexeme = qubit_tokens (place + 8) q ++ arrow ∷ (bits ++ end ∷ []) in
    let c : IsCut place (measure_text q b) (word ∷ more) =
    IsCut-word (codes "measure") (place + 7) refl refl refl refl
    (IsCut-space 32 (place + 8) refl (omega arith)
    (qubit_cut (place + 8) q (place + 11 + length (decimal q)) (32 ∷ 45 ∷ 62 ∷ 32 ∷ element_then 99 b (59 ∷ 10 ∷ [])) _ small (omega arith)
    (IsCut-space 32 (place + 12 + length (decimal q)) refl (omega arith)
    (IsCut-token (place + 12 + length (decimal q)) (codes "->") _ kind.Arrow _ (long_sign_piece 45 62 _ kind.Arrow refl refl)
    (IsCut-space 32 (place + 15 + length (decimal q)) refl (omega arith)
    (element_cut 99 refl refl (place + 15 + length (decimal q)) b (place + 18 + length (decimal q) + length (decimal b)) (59 ∷ 10 ∷ []) _ slight (omega arith)
    (end_cut (place + 18 + length (decimal q) + length (decimal b))))))))) in
    record {
      prefix = codes "measure " ++ qubit_name q ++ codes " -> " ++ bit_name b ++ codes ";";
      ends = line_ends (codes "measure " ++ qubit_name q ++ codes " -> " ++ bit_name b);
      tokens = word ∷ more;
      cut = subst (λ text. IsCut place text (word ∷ more)) (sym (measure-text q b)) c;
      begins = (word, more, refl, refl);
      closed = λ rest. refl;
      statement =
          sign_then kind.Measure (IsArgument (operand (decimal q)) ⋅ Sign kind.Arrow ⋅ IsArgument (bit_operand (decimal b)) ⋅ Sign kind.Semicolon) word more refl (
            qubit_tokens (place + 8) q,
            arrow ∷ (bits ++ end ∷ []),
            refl,
            qubit_is (place + 8) q,
            sign_then kind.Arrow (IsArgument (bit_operand (decimal b)) ⋅ Sign kind.Semicolon) arrow (bits ++ end ∷ []) refl
                (then_sign (IsArgument (bit_operand (decimal b))) kind.Semicolon bits end (argument_is (codes "c") (decimal b) _ _ _ _ refl refl refl refl refl refl) refl),
          );
    }
