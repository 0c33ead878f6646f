-- The steps of the loop of `lex`.
use Rattle.std.proofs.Common.{◌≡◌, ◌⊎◌, inl, inr, ℕ, ◌+◌, ◌-◌, ◌<◌, ◌≤◌, List, ◌++◌, length, take, drop, refl, sym, ap, ◌∙◌, subst, arith, Option, None, Some, length-drop, append_assoc}
use Rattle.std.proofs.lemmas.List.{take_rest, drop-drop, length-take-le}
use Rattle.qasm_lexer.specs.declared.first_piece.Sort.{Sort}
use Rattle.qasm_lexer.specs.Tokens.{Lexeme, IsCut, IsCutUpTo, IsBadByte, IsBegun}
use Rattle.qasm_lexer.specs.declared.errors.LexError.{LexError}
use Rattle.qasm_lexer.specs.declared.errors.LexError.TheVariants.{BadByte, NoMemory}
use Rattle.qasm_lexer.specs.Internal.FirstPiece.{first_piece, piece_tokens}
use Rattle.qasm_lexer.proofs.Cuts.{IsCutUpTo-then, not_both, same_byte}
use Rattle.qasm_lexer.proofs.First.{IsFirst, IsFirstPiece, first_piece_is, first_cut, first_fits}

-- the first piece at a place of a text, of which the code takes the slice from there on
module _ (text : List ℕ) (place : ℕ) (here : place < length text) (o : Option (Sort × ℕ))
    (found : o ≡ first_piece (take (length text - place) (drop place text))) where
  first_of_rest : IsFirstPiece (drop place text) o
  first_of_rest =
      subst (λ p. IsFirstPiece (drop place text) p) (sym (found ∙ ap first_piece (take_rest text place)))
      (first_piece_is (drop place text) (omega (arith, length-drop place text)))

  pub bad_here : (tokens : List Lexeme) → o ≡ None → IsCutUpTo 0 text (drop place text) tokens → IsBadByte text place
  bad_here tokens is c =
      (tokens, c, (omega (arith, length-drop place text), subst (λ p. IsFirstPiece (drop place text) p) is first_of_rest))

  module _ (sort : Sort) (count : ℕ) (is : o ≡ Some (sort, count)) where
    first_is : IsFirst (drop place text) sort count
    first_is = subst (λ p. IsFirstPiece (drop place text) p) is first_of_rest

    pub piece_fits : (0 < count) × (place + count ≤ length text)
    piece_fits =
        let n : (0 < count) × (count ≤ length (drop place text)) = first_fits (drop place text) sort count first_is in
        (n.0, omega (arith, n.1, length-drop place text))

    pub piece_length : count ≡ length (take count (take (length text - place) (drop place text)))
    piece_length =
        sym (ap (λ r. length (take count r)) (take_rest text place) ∙ length-take-le count (drop place text) (first_fits (drop place text) sort count first_is).1)

    pub cut_more : (tokens more : List Lexeme) → IsCutUpTo 0 text (drop place text) tokens
        → more ≡ tokens ++ piece_tokens sort place (take count (take (length text - place) (drop place text)))
        → IsCutUpTo 0 text (drop (place + count) text) more
    cut_more tokens more c more_is =
        let following : IsCutUpTo place (drop place text) (drop count (drop place text)) (piece_tokens sort place (take count (drop place text))) =
        first_cut place (drop place text) sort count first_is in
        let both : IsCutUpTo 0 text (drop count (drop place text)) (tokens ++ piece_tokens sort place (take count (drop place text))) =
        IsCutUpTo-then 0 place text (drop place text) (drop count (drop place text)) tokens (piece_tokens sort place (take count (drop place text))) c following
        (omega (arith, length-drop place text)) in
        subst (λ r. IsCutUpTo 0 text r more) (drop-drop count place text)
        (subst (λ ts. IsCutUpTo 0 text (drop count (drop place text)) ts)
        (ap (λ r. tokens ++ piece_tokens sort place (take count r)) (sym (take_rest text place)) ∙ sym more_is) both)

-- ---- errors
pub only_memory : (text : List ℕ) (tokens : List Lexeme) (error : LexError) → ((at : ℕ) → error ≡ BadByte at → IsBadByte text at) → IsCut 0 text tokens → error ≡ NoMemory
only_memory text tokens (BadByte at) bad cut = absurd (not_both text tokens at cut (bad at refl))
only_memory text tokens NoMemory bad cut = refl

pub bad_or_memory : (text : List ℕ) (error : LexError) → ((at : ℕ) → error ≡ BadByte at → IsBadByte text at) → (at : ℕ) → IsBadByte text at
    → (error ≡ BadByte at) ⊎ (error ≡ NoMemory)
bad_or_memory text (BadByte this) bad at b = inl (ap BadByte (same_byte text this at (bad this refl) b))
bad_or_memory text NoMemory bad at b = inr refl

-- ---- pieces one after the other
pub begun_further : (a b c : List Lexeme) → IsBegun a b → IsBegun b c → IsBegun a c
begun_further a b c (more, is) (further, are) = (more ++ further, are ∙ ap (λ ts. ts ++ further) is ∙ append_assoc a more further)

pub gets_on : {A : Type 0} (place end later : ℕ) → (place < end) ⊎ ((end ≡ place) × A) → end < later → place < later
gets_on place end later (inl h) l = omega (arith, h, l)
gets_on place end later (inr h) l = omega (arith, h.0, l)
