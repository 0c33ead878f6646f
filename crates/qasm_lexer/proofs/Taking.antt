-- The steps of the lexer that takes pieces.
use Rattle.std.proofs.Common.{◌≡◌, ℕ, ◌<◌, List, [], ◌∷◌, ◌++◌, length, map, sym, ap, ◌∙◌, subst, arith, inl, inr, ◌⊎◌, Some, Result, Ok, Err, append_assoc, length-drop}
use Rattle.std.specs.Prelude.{IfOk, IfErr, IsErrAnd, MatchResult}
use Rattle.std.proofs.lemmas.List.{append-nil, map-append}
use Rattle.qasm_lexer.specs.declared.token.Token.{Token}
use Rattle.qasm_lexer.specs.declared.errors.LexError.{LexError}
use Rattle.qasm_lexer.specs.declared.errors.LexError.TheVariants.{BadByte, NoMemory}
use Rattle.qasm_lexer.specs.declared.piece_lexer.PieceLexer.{PieceLexer}
use Rattle.qasm_lexer.specs.Tokens.{Lexeme, lexemes, IsCut, IsCutUpTo, IsBadByte}
use Rattle.qasm_lexer.specs.Internal.Moved.{moved}
use Rattle.qasm_lexer.specs.Taken.{AreLines, IsLineBegun, HasBadLine, CameWith}
use Rattle.qasm_lexer.proofs.Cuts.{same_tokens, not_both}
use Rattle.qasm_lexer.proofs.Lexing.{only_memory, bad_or_memory}
use Rattle.qasm_lexer.proofs.LineCuts.{bad_byte_stays}

-- ---- tokens added batch by batch
pub no_batch_yet : (text rest : List ℕ) (before : List Lexeme) (tokens : List Token) → tokens ≡ [] → IsCutUpTo 0 text rest before
    → IsCutUpTo 0 text rest (before ++ lexemes tokens)
no_batch_yet text rest before tokens none c = rw none (subst (IsCutUpTo 0 text rest) (sym (append-nil before)) c)

pub one_batch_more : (old list new before more : List Lexeme) (place : ℕ) → list ≡ old ++ map (moved place) before → new ≡ list ++ map (moved place) more
    → new ≡ old ++ map (moved place) (before ++ more)
one_batch_more old list new before more place e f =
    f ∙ ap (λ l. l ++ map (moved place) more) e ∙ append_assoc old (map (moved place) before) (map (moved place) more)
    ∙ ap (λ l. old ++ l) (sym (map-append (moved place) before more))

pub bad_within : (text : List ℕ) (at : ℕ) → IsBadByte text at → at < length text
bad_within text at bad = omega (arith, length-drop at text, bad.2.0)

-- ---- bytes that come
pub line_longer : (tokens : List Lexeme) (line more : List ℕ) (place : ℕ) (bytes : List ℕ) → IsLineBegun tokens line place bytes
    → IsLineBegun tokens (line ++ more) place (bytes ++ more)
line_longer tokens line more place bytes b = record {
  lines = b.lines;
  whole = ap (λ l. l ++ more) b.whole ∙ append_assoc b.lines line more;
  are = b.are;
  cut = b.cut;
  there = b.there;
}

pub line_over : (tokens : List Lexeme) (line : List ℕ) (place : ℕ) (bytes : List ℕ) → IsCut 0 bytes tokens × (place ≡ length bytes) → line ≡ [] → AreLines bytes
    → IsLineBegun tokens line place bytes
line_over tokens line place bytes c none are = record {
  lines = bytes;
  whole = sym (append-nil bytes) ∙ ap (λ l. bytes ++ l) (sym none);
  are = are;
  cut = c.0;
  there = c.1;
}

pub lines_behind : (bytes more : List ℕ) → AreLines more → 0 < length more → AreLines (bytes ++ more)
lines_behind bytes more (inl none) some = absurd (omega (arith, ap length none))
lines_behind bytes more (inr (before, end)) some = inr (bytes ++ before, ap (λ l. bytes ++ l) end ∙ sym (append_assoc bytes before (10 ∷ [])))

pub bad_line : (at : ℕ) (bytes : List ℕ) → AreLines bytes → IsBadByte bytes at → HasBadLine at bytes
bad_line at bytes are bad = record { lines = bytes; rest = []; whole = sym (append-nil bytes); are = are; bad = bad }

pub bad_line_stays : (at : ℕ) (bytes more : List ℕ) → HasBadLine at bytes → HasBadLine at (bytes ++ more)
bad_line_stays at bytes more b = record {
  lines = b.lines;
  rest = b.rest ++ more;
  whole = ap (λ l. l ++ more) b.whole ∙ append_assoc b.lines b.rest more;
  are = b.are;
  bad = b.bad;
}

-- ---- answers at the end
pub bad_told : (fault : LexError) (lexer : PieceLexer) (bytes : List ℕ) (at : ℕ) → CameWith (Some fault) lexer bytes
    → fault ≡ BadByte at → IsBadByte bytes at
bad_told (BadByte this) lexer bytes at b e =
    let same : this ≡ at = cc in
    rw b.whole (subst (IsBadByte (b.lines ++ b.rest)) same (bad_byte_stays b.lines b.rest this b.are b.bad))
bad_told NoMemory lexer bytes at b e = absurd b

pub cut_or_memory : (result : Result (List Lexeme) LexError) (bytes : List ℕ) (tokens : List Lexeme)
    → IfOk result (λ given. IsCut 0 bytes given) → ((at : ℕ) → result ≡ Err (BadByte at) → IsBadByte bytes at) → IsCut 0 bytes tokens
    → MatchResult result (λ given. given ≡ tokens) (λ error. error ≡ NoMemory)
cut_or_memory (Ok given) bytes tokens c bad cut = same_tokens bytes 0 given tokens c cut
cut_or_memory (Err error) bytes tokens c bad cut = only_memory bytes tokens error (λ at e. bad at (ap Err e)) cut

pub byte_told : (result : Result (List Lexeme) LexError) (bytes : List ℕ) (at : ℕ) → (result ≡ Err (BadByte at) → IsBadByte bytes at)
    → IfErr result (λ error. error ≡ BadByte at → IsBadByte bytes at)
byte_told (Ok given) bytes at bad = tt
byte_told (Err error) bytes at bad = λ e. bad (ap Err e)

pub byte_or_memory : (result : Result (List Lexeme) LexError) (bytes : List ℕ) (at : ℕ)
    → IfOk result (λ given. IsCut 0 bytes given) → ((at : ℕ) → result ≡ Err (BadByte at) → IsBadByte bytes at) → IsBadByte bytes at
    → IsErrAnd result (λ error. (error ≡ BadByte at) ⊎ (error ≡ NoMemory))
byte_or_memory (Ok given) bytes at c bad b = absurd (not_both bytes given at c b)
byte_or_memory (Err error) bytes at c bad b = bad_or_memory bytes error (λ at e. bad at (ap Err e)) at b
