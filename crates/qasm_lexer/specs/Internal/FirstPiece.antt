-- What stands first in a text, found from its first bytes: what the private functions find. The contract of
-- `lex` cites none of it.
use Rattle.std.specs.Prelude.{ℕ, ◌+◌, Bool, not, ◌&&◌, ◌||◌, ◌==◌, List, [], ◌∷◌, length, take, drop, Option, None}
use Rattle.std.specs.Prelude.{Some, if◌then◌else◌}
use Rattle.std.specs.List.{prefix_len}
use Rattle.qasm_lexer.specs.declared.first_piece.Sort.{Sort}
use Rattle.qasm_lexer.specs.declared.first_piece.Sort.TheVariants.{Blank, Digits, Token}
use Rattle.qasm_lexer.specs.declared.token.TokenKind.{TokenKind}
use Rattle.qasm_lexer.specs.declared.token.TokenKind.TheVariants.{Real, Text, Natural}
use Rattle.std.specs.Char.{is_ascii_digit, is_ascii_alphabetic}
use Rattle.qasm_lexer.specs.Forms.{is_word_byte, is_space, is_no_feed, begins, is_mark}
use Rattle.qasm_lexer.specs.Forms.{is_sign_byte}
use Rattle.qasm_lexer.specs.Tokens.{Lexeme, signs, kind_in, word_kind}

-- the kind of token that so many bytes are
abbrev pub as_token : Option TokenKind → ℕ → Option (Sort × ℕ)
as_token None count = None
as_token (Some kind) count = Some (Token kind, count)

abbrev pub word_piece : List ℕ → Option (Sort × ℕ)
word_piece text = as_token (word_kind (take (prefix_len is_word_byte text) text)) (prefix_len is_word_byte text)

abbrev pub sign_len : List ℕ → ℕ
sign_len [] = 0
sign_len (b ∷ rest) = if is_sign_byte b then 1 else 0

-- so many digits after so many bytes of a sign make an exponent, if there are any
abbrev pub with_mark : ℕ → ℕ → ℕ
with_mark sign digits = if digits == 0 then 0 else 1 + sign + digits

-- the length of an exponent at the start, or 0
abbrev pub exponent_len : List ℕ → ℕ
exponent_len [] = 0
exponent_len (b ∷ rest) =
    if is_mark b then with_mark (sign_len rest) (prefix_len is_ascii_digit (drop (sign_len rest) rest)) else 0

-- the length of what belongs to a real after its point
abbrev pub fraction_len : List ℕ → ℕ
fraction_len rest = prefix_len is_ascii_digit rest + exponent_len (drop (prefix_len is_ascii_digit rest) rest)

-- so many digits, and the rest after them
abbrev pub number : ℕ → List ℕ → Sort × ℕ
number count [] = (Digits, count)
number count (b ∷ rest) = if b == 46 then (Token Real, count + 1 + fraction_len rest) else (Digits, count)

abbrev pub number_piece : List ℕ → Sort × ℕ
number_piece text = number (prefix_len is_ascii_digit text) (drop (prefix_len is_ascii_digit text) text)

-- after a point
abbrev pub point_piece : List ℕ → Option (Sort × ℕ)
point_piece rest = if begins is_ascii_digit rest then Some (Token Real, 1 + fraction_len rest) else None

abbrev pub is_inside : ℕ → Bool
is_inside b = not (b == 34) && is_no_feed b

-- so many bytes inside a text, and the rest after them
abbrev pub closing : ℕ → List ℕ → Option (Sort × ℕ)
closing count [] = None
closing count (b ∷ rest) = if b == 34 then Some (Token Text, count + 2) else None

-- after a `"`
abbrev pub text_piece : List ℕ → Option (Sort × ℕ)
text_piece rest = closing (prefix_len is_inside rest) (drop (prefix_len is_inside rest) rest)

abbrev pub two_or_one : Option TokenKind → Option TokenKind → Option (Sort × ℕ)
two_or_one (Some kind) one = Some (Token kind, 2)
two_or_one None one = as_token one 1

abbrev pub sign_piece : List ℕ → Option (Sort × ℕ)
sign_piece [] = None
sign_piece (a ∷ []) = as_token (kind_in signs (a ∷ [])) 1
sign_piece (a ∷ b ∷ rest) =
    if a == 47 && b == 47 then Some (Blank, prefix_len is_no_feed (a ∷ b ∷ rest))
    else two_or_one (kind_in signs (a ∷ b ∷ [])) (kind_in signs (a ∷ []))

-- a byte that begins no sign of two bytes and no comment
abbrev pub is_plain : ℕ → Bool
is_plain b = not (b == 45 || b == 61 || b == 47)

-- such a byte, where it is a sign
abbrev pub plain_piece : ℕ → Option (Sort × ℕ)
plain_piece b = as_token (kind_in signs (b ∷ [])) 1

-- the first piece of a text: its sort and length; digits that no point follows count as one piece, though they
-- are several where the first of them is 0
abbrev pub first_piece : List ℕ → Option (Sort × ℕ)
first_piece [] = None
first_piece (b ∷ rest) =
    if is_space b then Some (Blank, 1) else
    if is_ascii_alphabetic b then word_piece (b ∷ rest) else
    if is_ascii_digit b then Some (number_piece (b ∷ rest)) else
    if b == 46 then point_piece rest else
    if b == 34 then text_piece rest else
    if is_plain b then plain_piece b else sign_piece (b ∷ rest)

-- the naturals that digits are which no point follows: each 0 at the start alone, and the others together
abbrev pub naturals : List ℕ → List (List ℕ)
naturals [] = []
naturals (b ∷ digits) = if b == 48 then (b ∷ []) ∷ naturals digits else (b ∷ digits) ∷ []

-- the tokens of naturals, of which the first stands at a place
abbrev pub natural_tokens : ℕ → List (List ℕ) → List Lexeme
natural_tokens place [] = []
natural_tokens place (piece ∷ pieces) =
    record { kind = Natural; text = piece; place = place } ∷ natural_tokens (place + length piece) pieces

-- the tokens of a first piece
abbrev pub piece_tokens : Sort → ℕ → List ℕ → List Lexeme
piece_tokens Blank place piece = []
piece_tokens Digits place piece = natural_tokens place (naturals piece)
piece_tokens (Token kind) place piece = record { kind = kind; text = piece; place = place } ∷ []
