-- The steps of the reader that takes pieces.
use Rattle.std.proofs.Common.{◌≡◌, ℕ, ◌+◌, List, [], ◌++◌, map, Result, Err, refl, sym, ap, ◌∙◌, subst, inl, append_assoc, append-nil}
use Rattle.std.specs.Prelude.{OnOk}
use Rattle.std.proofs.lemmas.List.{map-append}
use Rattle.std.proofs.lemmas.Result.{on_ok_weaker}
use Rattle.qasm_lexer.specs.declared.errors.LexError.{LexError}
use Rattle.qasm_lexer.specs.declared.errors.LexError.TheVariants.{BadByte}
use Rattle.qasm_lexer.specs.Tokens.{Lexeme, IsCut, IsBadByte}
use Rattle.qasm_lexer.specs.Internal.Moved.{moved}
use Rattle.qasm_lexer.specs.Taken.{IsLineBegun, HasBadLine}
use Rattle.qasm_lexer.proofs.Cuts.{IsCutUpTo-none}
use Rattle.qasm_lexer.proofs.LineCuts.{bad_byte_stays, line_cut, line_bad}
use Rattle.qasm_lexer.proofs.Taking.{line_longer}
use Rattle.qasm_inline.specs.declared.piece_reader.PieceReader.{PieceReader}
use Rattle.qasm_inline.specs.declared.reading.Reader.{Reader}
use Rattle.qasm_inline.specs.Internal.Readings.{KeepsTokens, ReadsOn}
use Rattle.qasm_inline.specs.PieceReadings.{IsReadOff}

-- nothing more is read
pub reads_none : (reader : Reader) → ReadsOn reader [] reader
reads_none reader = λ before is. subst (λ l. KeepsTokens l reader) (sym (append-nil before)) is

-- tokens after tokens
pub reads_then : (reader middle later : Reader) (these those : List Lexeme) (from : ℕ) → ReadsOn reader (map (moved from) these) middle
    → ReadsOn middle (map (moved from) those) later → ReadsOn reader (map (moved from) (these ++ those)) later
reads_then reader middle later these those from first next = λ before is.
    subst (λ l. KeepsTokens l later) (append_assoc before (map (moved from) these) (map (moved from) those) ∙ ap (λ l. before ++ l) (sym (map-append (moved from) these those)))
    (next (before ++ map (moved from) these) (first before is))

-- bytes that aren't read yet
pub unread_longer : (old new : PieceReader) (bytes more : List ℕ) → new.unread.items ≡ old.unread.items ++ more → new.place ≡ old.place → new.reader ≡ old.reader
    → IsReadOff old bytes → IsReadOff new (bytes ++ more)
unread_longer old new bytes more unread place reader off = record {
  all = off.all;
  begun = rw (unread, place) (line_longer off.all old.unread.items more old.place bytes off.begun);
  keeps = subst (KeepsTokens off.all) (sym reader) off.keeps;
}

-- a text that nothing stands before
pub first_line : (text : List ℕ) → IsLineBegun [] text 0 text
first_line text = record { lines = []; whole = refl; are = inl refl; cut = IsCutUpTo-none 0 []; there = refl }

-- a bad byte among lines is told
pub bad_line_told : (at : ℕ) (bytes : List ℕ) → HasBadLine at bytes → IsBadByte bytes at
bad_line_told at bytes bad = rw bad.whole (bad_byte_stays bad.lines bad.rest at bad.are bad.bad)

-- the text is read from its start
pub read_whole : (text : List ℕ) (old new : Reader) (told : Result (Unit {0}) LexError) → KeepsTokens [] old
    → OnOk told ((tokens : List Lexeme) × IsCut 0 text tokens × ReadsOn old (map (moved 0) tokens) new) → OnOk told ((all : List Lexeme) × IsCut 0 text all × KeepsTokens all new)
read_whole text old new told start read = on_ok_weaker told (λ r. (_, line_cut [] r.0 text 0 text (first_line text) r.1, r.2 [] start)) read

pub bad_whole : (text : List ℕ) (told : Result (Unit {0}) LexError) → ((at : ℕ) → told ≡ Err (BadByte at) → (there : ℕ) × IsBadByte text there × (at ≡ 0 + there))
    → (at : ℕ) → told ≡ Err (BadByte at) → IsBadByte text at
bad_whole text told bad at e = let b = bad at e in subst (IsBadByte text) (sym b.2) (line_bad [] text 0 b.0 text (first_line text) b.1)
