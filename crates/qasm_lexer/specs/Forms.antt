-- What may stand as one piece in an OpenQASM text: white space, comments, words, numbers, texts and signs.
-- The tokens are those of the appendix of Cross, Bishop, Smolin, Gambetta, "Open quantum assembly language"
-- (arXiv 1707.03429): identifiers, keywords, nonnegative integers, reals, file names and signs.
use Rattle.std.specs.Prelude.{ℕ, Bool, true, false, not, ◌&&◌, ◌||◌, ◌==◌, List, [], ◌∷◌, if◌then◌else◌}
use Rattle.std.specs.Char.{is_ascii_digit, is_ascii_alphabetic}
use Rattle.std.specs.List.{list_all}

-- letters, digits and `_`
abbrev pub is_word_byte : ℕ → Bool
is_word_byte b = is_ascii_alphabetic b || is_ascii_digit b || b == 95

-- space, tab, carriage return and line feed
abbrev pub is_space : ℕ → Bool
is_space b = b == 32 || b == 9 || b == 13 || b == 10

abbrev pub is_no_feed : ℕ → Bool
is_no_feed b = not (b == 10)

abbrev pub is_empty : List ℕ → Bool
is_empty [] = true
is_empty (b ∷ rest) = false

-- one byte of white space
abbrev pub is_white : List ℕ → Bool
is_white [] = false
is_white (b ∷ rest) = is_space b && is_empty rest

-- `//` and bytes other than a line feed
abbrev pub is_comment : List ℕ → Bool
is_comment (a ∷ b ∷ rest) = a == 47 && b == 47 && list_all is_no_feed rest
is_comment form = false

-- [A-Za-z][A-Za-z0-9_]*
abbrev pub is_word : List ℕ → Bool
is_word [] = false
is_word (b ∷ rest) = is_ascii_alphabetic b && list_all is_word_byte rest

-- 0|[1-9][0-9]*
abbrev pub is_natural : List ℕ → Bool
is_natural [] = false
is_natural (b ∷ rest) = if b == 48 then is_empty rest else is_ascii_digit b && list_all is_ascii_digit rest

-- what follows the bytes at the start that pass a test
abbrev pub following : (ℕ → Bool) → List ℕ → List ℕ
following test [] = []
following test (b ∷ rest) = if test b then following test rest else b ∷ rest

abbrev pub begins : (ℕ → Bool) → List ℕ → Bool
begins test [] = false
begins test (b ∷ rest) = test b

-- [0-9]+
abbrev pub are_digits : List ℕ → Bool
are_digits bytes = begins is_ascii_digit bytes && list_all is_ascii_digit bytes

-- e or E
abbrev pub is_mark : ℕ → Bool
is_mark b = b == 101 || b == 69

-- + or -
abbrev pub is_sign_byte : ℕ → Bool
is_sign_byte b = b == 43 || b == 45

-- what follows a sign, if one stands at the start
abbrev pub after_sign : List ℕ → List ℕ
after_sign [] = []
after_sign (b ∷ rest) = if is_sign_byte b then rest else b ∷ rest

-- ([eE][-+]?[0-9]+)?
abbrev pub is_exponent : List ℕ → Bool
is_exponent [] = true
is_exponent (b ∷ rest) = is_mark b && are_digits (after_sign rest)

-- a point, digits and maybe an exponent; with no digits before the point there is one after it
abbrev pub is_fraction : Bool → List ℕ → Bool
is_fraction digits_before [] = false
is_fraction digits_before (b ∷ rest) =
    b == 46 && (digits_before || begins is_ascii_digit rest) && is_exponent (following is_ascii_digit rest)

-- ([0-9]+\.[0-9]*|[0-9]*\.[0-9]+)([eE][-+]?[0-9]+)?
abbrev pub is_real : List ℕ → Bool
is_real form = is_fraction (begins is_ascii_digit form) (following is_ascii_digit form)

-- bytes other than `"` and a line feed, and a `"` at the end
abbrev pub is_closed : List ℕ → Bool
is_closed [] = false
is_closed (b ∷ rest) = if b == 34 then is_empty rest else is_no_feed b && is_closed rest

-- the same after a `"`
abbrev pub is_text : List ℕ → Bool
is_text [] = false
is_text (b ∷ rest) = b == 34 && is_closed rest
