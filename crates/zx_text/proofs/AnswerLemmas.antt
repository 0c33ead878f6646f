-- What comes of a whole text is what comes of its lines, behind the first one, and what can't be beside it.
use Rattle.std.proofs.Common.{◌≡◌, ℕ, ◌≤◌, ◌⊎◌, inl, inr, List, ◌∷◌, ◌++◌, length, refl, sym, ap, ◌∙◌, subst, arith, length-append, Result, Ok, Err, IsOk, IsErrOf, IsErrAnd}
use Rattle.zx_text.specs.Files.{Version}
use Rattle.zx_text.specs.BadLines.{IsFirstBad}
use Rattle.zx_text.specs.Reading.{most_bytes}
use Rattle.zx_text.specs.Formats.{Format, IsFormat}
use Rattle.zx_text.specs.Internal.Answers.{IsLinesAnswer, IsTextAnswer}
use Rattle.zx_text.specs.declared.error.TextError.{TextError}
use Rattle.zx_text.specs.declared.error.TextError.TheVariants.{BadLine, TooLong, NoMemory}
use Rattle.zx_text.proofs.BadLineLemmas.{no_file, one_bad_line, whole_file, stopped_bad}

-- ---- an answer that is passed on
pub no_refusal : {R P : Type 0} {reader : R} {line : ℕ} → IsErrOf {T = R} {E = TextError} (Ok reader) (BadLine line) ⊎ IsErrOf {T = R} {E = TextError} (Ok reader) NoMemory → P
no_refusal (inl e) = absurd (cc)
no_refusal (inr e) = absurd (cc)

pub passed_on : {R T : Type 0} {error : TextError} {line : ℕ} (r : Result T TextError) → IsErrAnd r (λ e. e ≡ error)
    → IsErrOf {T = R} {E = TextError} (Err error) (BadLine line) ⊎ IsErrOf {T = R} {E = TextError} (Err error) NoMemory
    → IsErrOf r (BadLine line) ⊎ IsErrOf r NoMemory
passed_on (Ok x) same is = absurd same
passed_on {R} {T} {error} {line} (Err e) same (inl is) =
    let there : error ≡ BadLine line = cc in inl (ap Err (same ∙ there))
passed_on {R} {T} {error} {line} (Err e) same (inr is) =
    let there : error ≡ NoMemory = cc in inr (ap Err (same ∙ there))

-- ---- a whole text
module _ (F : Format) (laws : IsFormat F) {R : Type 0} (state : R → F.State) where
  with_word : (version : Version) (text : List ℕ) (r : Result R TextError) → IsLinesAnswer F state version text r → length text ≤ most_bytes
      → IsTextAnswer F state (F.word version ++ 10 ∷ text) r
  with_word version text (Ok reader) is short = whole_file F laws version text (state reader) is
  with_word version text (Err (BadLine line)) is short = stopped_bad F laws version text line is short
  with_word version text (Err TooLong) is short = absurd is
  with_word version text (Err NoMemory) is short = tt

  pub text_answer : (version : Version) (text line rest : List ℕ) (r : Result R TextError) → text ≡ line ++ 10 ∷ rest → F.word version ≡ line
      → length text ≤ most_bytes → IsLinesAnswer F state version rest r → IsTextAnswer F state text r
  text_answer version text line rest r cut first short is =
      let whole : text ≡ F.word version ++ 10 ∷ rest = cut ∙ ap (λ l. l ++ 10 ∷ rest) (sym first) in
      let size = ap length whole ∙ length-append (F.word version) (10 ∷ rest) in
      subst (λ t. IsTextAnswer F state t r) (sym whole) (with_word version rest r is (omega (arith, size, short)))

  -- ---- what each answer means
  pub accepted : {text : List ℕ} (r : Result R TextError) → IsTextAnswer F state text r → F.IsFile text → IsOk r ⊎ IsErrOf r NoMemory
  accepted (Ok reader) is file = inl refl
  accepted (Err (BadLine line)) is file = absurd (no_file is file)
  accepted (Err TooLong) is file = absurd is
  accepted (Err NoMemory) is file = inr refl

  pub refusal : {text : List ℕ} (r : Result R TextError) → IsTextAnswer F state text r → (line : ℕ) → IsFirstBad F.IsFile text line
      → IsErrOf r (BadLine line) ⊎ IsErrOf r NoMemory
  refusal {text} (Ok reader) is line bad = absurd (no_file bad (laws.is_file text (state reader) is))
  refusal (Err (BadLine other)) is line bad = inl (ap (λ n. Err (BadLine n)) (one_bad_line is bad))
  refusal (Err TooLong) is line bad = absurd is
  refusal (Err NoMemory) is line bad = inr refl
