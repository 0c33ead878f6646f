-- A text is cut in one manner at most, and cuts go on after one another.
use Rattle.std.proofs.Common.{◌≡◌, ℕ, ◌+◌, ◌-◌, ◌<◌, ◌≤◌, true, List, [], ◌∷◌, ◌++◌, length, take, drop, slice_range, refl, sym, ap, ◌∙◌, subst, arith, Option, None, Some, append_assoc, length-append, length-drop}
use Rattle.std.specs.List.{concat}
use Rattle.std.specs.Option.{option_map, option_to_list}
use Rattle.std.proofs.lemmas.Bool.{false≢true}
use Rattle.std.proofs.lemmas.List.{drop_at, take_at, nil_from_length}
use Rattle.std.proofs.lemmas.List.Folds.{concat-append}
use Rattle.qasm_lexer.specs.declared.token.TokenKind.{TokenKind}
use Rattle.qasm_lexer.specs.Tokens.{is_form, token_kind, IsPiece, ArePieces, Lexeme, tokens_in, IsCutUpTo, IsCut, HasNoPiece, IsBadByte, AreInPlace}
use Rattle.qasm_lexer.proofs.Leads.{IsLongest, piece_form}

pub form_some : (form : List ℕ) → is_form form ≡ true → 0 < length form
form_some [] e = absurd (false≢true e)
form_some (b ∷ rest) e = omega arith

-- prefixes as long as each other, and what follows them
pub same_prefix : (a b x y : List ℕ) → a ++ x ≡ b ++ y → length a ≡ length b → (a ≡ b) × (x ≡ y)
same_prefix [] [] x y e h = (refl, e)
same_prefix (c ∷ a) (d ∷ b) x y e h =
    let k : c ≡ d = cc in
    let t : a ++ x ≡ b ++ y = cc in
    let r : (a ≡ b) × (x ≡ y) = same_prefix a b x y t (omega arith) in
    (cc, r.1)
same_prefix _ _ x y e h = absurd (omega arith)

-- the longest form at a place is one
pub same_longest : (a b x y : List ℕ) → a ++ x ≡ b ++ y → is_form a ≡ true → is_form b ≡ true
    → IsLongest a x → IsLongest b y → (a ≡ b) × (x ≡ y)
same_longest a b x y e f g l m = same_prefix a b x y e (omega (arith, l b y (sym e) g, m a x e f))

-- no piece begins here
abbrev pub IsEnd : List ℕ → Type 0
IsEnd rest = (form after : List ℕ) → form ++ after ≡ rest → IsPiece form after → ⊥

pub IsEnd-nil : IsEnd []
IsEnd-nil form after e p = omega (arith, form_some form (piece_form form after p), length-append form after, ap length e)

pub same_pieces : (ps qs : List (List ℕ)) (x y : List ℕ) → concat ps ++ x ≡ concat qs ++ y → ArePieces ps x → ArePieces qs y
    → IsEnd x → IsEnd y → (ps ≡ qs) × (x ≡ y)
same_pieces [] [] x y e a b v w = (refl, e)
same_pieces [] (q ∷ qs) x y e a b v w = absurd (v q (concat qs ++ y) (sym (append_assoc q (concat qs) y) ∙ sym e) b.0)
same_pieces (p ∷ ps) [] x y e a b v w = absurd (w p (concat ps ++ x) (sym (append_assoc p (concat ps) x) ∙ e) a.0)
same_pieces (p ∷ ps) (q ∷ qs) x y e a b v w =
    let first : (p ≡ q) × (concat ps ++ x ≡ concat qs ++ y) =
    same_longest p q (concat ps ++ x) (concat qs ++ y) (sym (append_assoc p (concat ps) x) ∙ e ∙ append_assoc q (concat qs) y)
    (piece_form p (concat ps ++ x) a.0) (piece_form q (concat qs ++ y) b.0) a.0.longest b.0.longest in
    let others : (ps ≡ qs) × (x ≡ y) = same_pieces ps qs x y first.1 a.1 b.1 v w in
    (cc, others.1)

pub one_cut_up_to : (place : ℕ) (text x y : List ℕ) (these those : List Lexeme) → IsCutUpTo place text x these → IsCutUpTo place text y those
    → IsEnd x → IsEnd y → (these ≡ those) × (x ≡ y)
one_cut_up_to place text x y these those c d v w =
    let r : (c.pieces ≡ d.pieces) × (x ≡ y) = same_pieces c.pieces d.pieces x y (sym c.whole ∙ d.whole) c.each d.each v w in
    (c.tokens_are ∙ ap (tokens_in place) r.0 ∙ sym d.tokens_are, r.1)

pub same_tokens : (text : List ℕ) (place : ℕ) (these those : List Lexeme) → IsCut place text these → IsCut place text those → these ≡ those
same_tokens text place these those c d = (one_cut_up_to place text [] [] these those c d IsEnd-nil IsEnd-nil).0

pub not_both : (text : List ℕ) (tokens : List Lexeme) (at : ℕ) → IsCut 0 text tokens → IsBadByte text at → ⊥
not_both text tokens at c b =
    let r : [] ≡ drop at text = (one_cut_up_to 0 text [] (drop at text) tokens b.0 c b.1 IsEnd-nil b.2.1).1 in
    omega (arith, ap length r, b.2.0)

pub same_byte : (text : List ℕ) (this that : ℕ) → IsBadByte text this → IsBadByte text that → this ≡ that
same_byte text this that a b =
    let r : drop this text ≡ drop that text =
    (one_cut_up_to 0 text (drop this text) (drop that text) a.0 b.0 a.1 b.1 a.2.1 b.2.1).1 in
    omega (arith, ap length r, length-drop this text, length-drop that text, a.2.0, b.2.0)

-- pieces after pieces
pub ArePieces-append : (ps qs : List (List ℕ)) (rest : List ℕ) → ArePieces ps (concat qs ++ rest) → ArePieces qs rest → ArePieces (ps ++ qs) rest
ArePieces-append [] qs rest a b = b
ArePieces-append (p ∷ ps) qs rest a b = (
  subst (λ after. IsPiece p after) (sym (append_assoc (concat ps) (concat qs) rest) ∙ ap (λ r. r ++ rest) (sym (concat-append ps qs))) a.0,
  ArePieces-append ps qs rest a.1 b,
)

pub tokens_in-append : (place : ℕ) (ps qs : List (List ℕ))
    → tokens_in place (ps ++ qs) ≡ tokens_in place ps ++ tokens_in (place + length (concat ps)) qs
tokens_in-append place [] qs = ap (λ k. tokens_in k qs) (omega arith)
tokens_in-append place (p ∷ ps) qs =
    let here : List Lexeme = option_to_list (option_map (λ kind. record { kind = kind; text = p; place = place }) (token_kind p)) in
    let e : (place + length p) + length (concat ps) ≡ place + length (p ++ concat ps) = omega (arith, length-append p (concat ps)) in
    ap (λ r. here ++ r) (tokens_in-append (place + length p) ps qs)
    ∙ sym (append_assoc here (tokens_in (place + length p) ps) (tokens_in ((place + length p) + length (concat ps)) qs))
    ∙ ap (λ k. (here ++ tokens_in (place + length p) ps) ++ tokens_in k qs) e

-- a cut goes on: what follows is pieces too
pub IsCutUpTo-more : (place at : ℕ) (text middle rest : List ℕ) (tokens more : List Lexeme) (ps : List (List ℕ))
    → IsCutUpTo place text middle tokens → middle ≡ concat ps ++ rest → ArePieces ps rest
    → at + length middle ≡ place + length text → more ≡ tokens_in at ps → IsCutUpTo place text rest (tokens ++ more)
IsCutUpTo-more place at text middle rest tokens more ps c is each there more_are =
    let all : text ≡ concat (c.pieces ++ ps) ++ rest =
    c.whole ∙ ap (λ r. concat c.pieces ++ r) is ∙ sym (append_assoc (concat c.pieces) (concat ps) rest) ∙ ap (λ r. r ++ rest) (sym (concat-append c.pieces ps)) in
    let where_ : at ≡ place + length (concat c.pieces) = omega (arith, ap length c.whole, length-append (concat c.pieces) middle) in
    record {
      pieces = c.pieces ++ ps;
      whole = all;
      each = ArePieces-append c.pieces ps rest (subst (λ r. ArePieces c.pieces r) is c.each) each;
      tokens_are =
          ap (λ r. r ++ more) c.tokens_are ∙ ap (λ r. tokens_in place c.pieces ++ r) (more_are ∙ ap (λ k. tokens_in k ps) where_)
          ∙ sym (tokens_in-append place c.pieces ps);
    }

pub IsCutUpTo-none : (place : ℕ) (text : List ℕ) → IsCutUpTo place text text []
IsCutUpTo-none place text = record { pieces = []; whole = refl; each = tt; tokens_are = refl }

-- one cut after another
pub IsCutUpTo-then : (place at : ℕ) (text middle rest : List ℕ) (tokens more : List Lexeme) → IsCutUpTo place text middle tokens → IsCutUpTo at middle rest more
    → at + length middle ≡ place + length text → IsCutUpTo place text rest (tokens ++ more)
IsCutUpTo-then place at text middle rest tokens more c d there =
    IsCutUpTo-more place at text middle rest tokens more d.pieces c d.whole d.each there d.tokens_are

-- what is cut up to its end is cut
pub cut_at_end : (text rest : List ℕ) (tokens : List Lexeme) → IsCutUpTo 0 text rest tokens → length rest ≡ 0 → IsCut 0 text tokens
cut_at_end text rest tokens c e = let z : rest ≡ [] = nil_from_length rest e in subst (λ r. IsCutUpTo 0 text r tokens) z c

-- a bad byte of a text that stands at a place
pub record IsBadAt (place : ℕ) (text : List ℕ) (at : ℕ) : Type 0 where
  pub rest : List ℕ
  pub tokens : List Lexeme
  pub before : IsCutUpTo place text rest tokens
  pub there : at + length rest ≡ place + length text
  pub stuck : HasNoPiece rest

pub IsBadByte-from : (text : List ℕ) (at : ℕ) → IsBadAt 0 text at → IsBadByte text at
IsBadByte-from text at b =
    let n : length (concat b.before.pieces) ≡ at = omega (arith, b.there, ap length b.before.whole, length-append (concat b.before.pieces) b.rest) in
    let is : b.rest ≡ drop at text = sym (ap (drop at) b.before.whole ∙ drop_at (concat b.before.pieces) b.rest at n) in
    (b.tokens, subst (λ r. IsCutUpTo 0 text r b.tokens) is b.before, subst (λ r. HasNoPiece r) is b.stuck)

-- each token stands where it is told
module _ (text : List ℕ) where
  in_place_here : (o : Option TokenKind) (p : List ℕ) (from place : ℕ) (more : List Lexeme) → from ≤ place
      → slice_range text place (place + length p) ≡ p → ((start : ℕ) → start ≤ place + length p → AreInPlace start text more)
      → AreInPlace from text (option_to_list (option_map (λ kind. record { kind = kind; text = p; place = place }) o) ++ more)
  in_place_here None p from place more le is rest = rest from (omega arith)
  in_place_here (Some kind) p from place more le is rest = (le, is, rest (place + length p) (omega arith))

  in_place_from : (ps : List (List ℕ)) (start rest : List ℕ) (from place : ℕ) → text ≡ start ++ (concat ps ++ rest) → length start ≡ place → from ≤ place
      → AreInPlace from text (tokens_in place ps)
  in_place_from [] start rest from place e n le = tt
  in_place_from (p ∷ ps) start rest from place e n le =
      let there : drop place text ≡ p ++ (concat ps ++ rest) =
      ap (drop place) e ∙ drop_at start ((p ++ concat ps) ++ rest) place n ∙ append_assoc p (concat ps) rest in
      let is : slice_range text place (place + length p) ≡ p =
      ap (λ r. take (place + length p - place) r) there ∙ take_at p (concat ps ++ rest) (place + length p - place) (omega arith) in
      let on : text ≡ (start ++ p) ++ (concat ps ++ rest) =
      e ∙ ap (λ r. start ++ r) (append_assoc p (concat ps) rest) ∙ sym (append_assoc start p (concat ps ++ rest)) in
      in_place_here (token_kind p) p from place (tokens_in (place + length p) ps) le is
      (λ next h. in_place_from ps (start ++ p) rest next (place + length p) on (omega (arith, length-append start p)) h)

pub in_place : (text : List ℕ) (tokens : List Lexeme) → IsCut 0 text tokens → AreInPlace 0 text tokens
in_place text tokens c =
    subst (λ ts. AreInPlace 0 text ts) (sym c.tokens_are) (in_place_from text c.pieces [] [] 0 0 c.whole refl (omega arith))
