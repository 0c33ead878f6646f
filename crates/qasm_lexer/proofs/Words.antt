-- Of a table only the rows as long as a word can hold it.
use Rattle.std.proofs.Common.{◌≡◌, ℕ, ◌==◌, Bool, true, false, List, [], ◌∷◌, length, Some, refl, sym, ap, ◌∙◌}
use Rattle.std.specs.Prelude.{if◌then◌else◌}
use Rattle.std.specs.Str.{bytes_eq}
use Rattle.std.proofs.lemmas.Bool.{eqb-false}
use Rattle.std.proofs.lemmas.Slice.Eq.{bytes_eq-Decides}
use Rattle.qasm_lexer.specs.declared.token.TokenKind.{TokenKind}
use Rattle.qasm_lexer.specs.Tokens.{kind_in}

other_length : (xs ys : List ℕ) → (length xs ≡ length ys → ⊥) → bytes_eq xs ys ≡ false
other_length xs ys differ = by_value (bytes_eq xs ys) refl where
  by_value : (b : Bool) → bytes_eq xs ys ≡ b → bytes_eq xs ys ≡ false
  by_value true e = absurd (differ (ap length ((bytes_eq-Decides xs ys).0 e)))
  by_value false e = e

-- the rows of this length
abbrev pub with_length : ℕ → List (List ℕ × TokenKind) → List (List ℕ × TokenKind)
with_length n [] = []
with_length n (row ∷ rows) = if length row.0 == n then row ∷ with_length n rows else with_length n rows

pub by_length : (rows : List (List ℕ × TokenKind)) (word : List ℕ) (n : ℕ) → length word ≡ n → kind_in (with_length n rows) word ≡ kind_in rows word
by_length [] word n e = refl
by_length (row ∷ rows) word n e = go (length row.0 == n) refl (by_length rows word n e) where
  go : (b : Bool) → (length row.0 == n) ≡ b → kind_in (with_length n rows) word ≡ kind_in rows word
      → kind_in (if b then row ∷ with_length n rows else with_length n rows) word ≡ kind_in (row ∷ rows) word
  go true h r = ap (λ o. if bytes_eq word row.0 then Some row.1 else o) r
  go false h r =
      r ∙ sym (ap (λ b. if b then Some row.1 else kind_in rows word) (other_length word row.0 (λ k. eqb-false (length row.0) n h (sym k ∙ e))))
