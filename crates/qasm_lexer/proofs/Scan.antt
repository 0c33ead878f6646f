-- The tokens of a text, computed piece by piece.
use Rattle.std.proofs.Common.{◌≡◌, ℕ, ◌+◌, ◌<◌, ◌≤◌, List, [], ◌∷◌, ◌++◌, length, take, drop, refl, sym, subst, arith, inl, inr, ◌⊎◌, Option, None, Some, Result, Ok, Err, length-drop}
use Rattle.std.proofs.lemmas.List.{nil_from_length}
use Rattle.qasm_lexer.specs.declared.first_piece.Sort.{Sort}
use Rattle.qasm_lexer.specs.Tokens.{Lexeme, IsCut, IsCutUpTo, IsBadByte}
use Rattle.qasm_lexer.specs.Internal.FirstPiece.{first_piece, piece_tokens}
use Rattle.qasm_lexer.proofs.Cuts.{IsCutUpTo-then, IsCutUpTo-none, IsBadAt, IsBadByte-from}
use Rattle.qasm_lexer.proofs.First.{IsFirstPiece, first_piece_is, first_cut, first_fits}

abbrev pub with_tokens : List Lexeme → Result (List Lexeme) ℕ → Result (List Lexeme) ℕ
with_tokens tokens (Ok more) = Ok (tokens ++ more)
with_tokens tokens (Err at) = Err at

-- The tokens of a text that stands at a place, or the place of its bad byte. The first list is at least as long as
-- the text, and only counts the steps.
abbrev pub scan : List ℕ → ℕ → List ℕ → Result (List Lexeme) ℕ
scan [] place text = Ok []
scan (s ∷ steps) place text = elim text as (λ t. Result (List Lexeme) ℕ) [
  | [] ↦ Ok []
  | b ∷ t ↦ elim (first_piece (b ∷ t)) as (λ o. Result (List Lexeme) ℕ) [
    | None ↦ Err place
    | Some p ↦ with_tokens (piece_tokens p.0 place (take p.1 (b ∷ t))) (scan steps (place + p.1) (drop p.1 (b ∷ t)))
  ]
]

abbrev pub tokens_of : ℕ → List ℕ → Option (List Lexeme)
tokens_of place text = elim (scan text place text) as (λ r. Option (List Lexeme)) [ Ok tokens ↦ Some tokens | Err at ↦ None ]

abbrev IsScan : ℕ → List ℕ → Result (List Lexeme) ℕ → Type 0
IsScan place text (Ok tokens) = IsCut place text tokens
IsScan place text (Err at) = IsBadAt place text at

-- what is found after a first piece
scan_on : (place count : ℕ) (text : List ℕ) (tokens : List Lexeme) → count ≤ length text → IsCutUpTo place text (drop count text) tokens
    → (r : Result (List Lexeme) ℕ) → IsScan (place + count) (drop count text) r → IsScan place text (with_tokens tokens r)
scan_on place count text tokens fits c (Ok more) d =
    IsCutUpTo-then place (place + count) text (drop count text) [] tokens more c d (omega (arith, length-drop count text))
scan_on place count text tokens fits c (Err at) b = record {
  rest = b.rest;
  tokens = tokens ++ b.tokens;
  before = IsCutUpTo-then place (place + count) text (drop count text) b.rest tokens b.tokens c b.before (omega (arith, length-drop count text));
  there = omega (arith, b.there, length-drop count text);
  stuck = b.stuck;
}

scan_is : (steps : List ℕ) (place : ℕ) (text : List ℕ) → length text ≤ length steps → IsScan place text (scan steps place text)
scan_is [] place text h = let z : text ≡ [] = nil_from_length text (omega arith) in subst (λ t. IsCut place t []) (sym z) (IsCutUpTo-none place [])
scan_is (s ∷ steps) place [] h = IsCutUpTo-none place []
scan_is (s ∷ steps) place (b ∷ t) h = go (first_piece (b ∷ t)) (first_piece_is (b ∷ t) (omega arith))
    (λ count some fits. scan_is steps (place + count) (drop count (b ∷ t)) (omega (arith, length-drop count (b ∷ t)))) where
      go : (o : Option (Sort × ℕ)) → IsFirstPiece (b ∷ t) o
          → ((count : ℕ) → 0 < count → count ≤ length (b ∷ t) → IsScan (place + count) (drop count (b ∷ t)) (scan steps (place + count) (drop count (b ∷ t))))
          → IsScan place (b ∷ t) (elim o as (λ o. Result (List Lexeme) ℕ) [
            | None ↦ Err place
            | Some p ↦ with_tokens (piece_tokens p.0 place (take p.1 (b ∷ t))) (scan steps (place + p.1) (drop p.1 (b ∷ t)))
          ])
      go None end rest = record {
        rest = b ∷ t;
        tokens = [];
        before = IsCutUpTo-none place (b ∷ t);
        there = refl;
        stuck = (omega arith, end);
      }
      go (Some p) f rest =
          let n : (0 < p.1) × (p.1 ≤ length (b ∷ t)) = first_fits (b ∷ t) p.0 p.1 f in
          scan_on place p.1 (b ∷ t) (piece_tokens p.0 place (take p.1 (b ∷ t))) n.1 (first_cut place (b ∷ t) p.0 p.1 f)
          (scan steps (place + p.1) (drop p.1 (b ∷ t))) (rest p.1 n.0 n.1)

-- each text has a cut or a bad byte
pub either : (text : List ℕ) → ((tokens : List Lexeme) × IsCut 0 text tokens) ⊎ ((at : ℕ) × IsBadByte text at)
either text = go (scan text 0 text) (scan_is text 0 text (omega arith)) where
  go : (r : Result (List Lexeme) ℕ) → IsScan 0 text r → ((tokens : List Lexeme) × IsCut 0 text tokens) ⊎ ((at : ℕ) × IsBadByte text at)
  go (Ok tokens) c = inl (tokens, c)
  go (Err at) b = inr (at, IsBadByte-from text at b)

-- what is computed is the cut
pub IsCut-tokens_of : (place : ℕ) (text : List ℕ) (tokens : List Lexeme) → tokens_of place text ≡ Some tokens → IsCut place text tokens
IsCut-tokens_of place text tokens e = go (scan text place text) (scan_is text place text (omega arith)) e where
  go : (r : Result (List Lexeme) ℕ) → IsScan place text r
      → elim r as (λ r. Option (List Lexeme)) [ Ok tokens ↦ Some tokens | Err at ↦ None ] ≡ Some tokens → IsCut place text tokens
  go (Ok these) c f = let k : these ≡ tokens = cc in subst (λ ts. IsCut place text ts) k c
  go (Err at) b f = absurd (cc)
