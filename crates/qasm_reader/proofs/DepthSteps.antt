-- The depth behind one token more.
use Rattle.std.proofs.Common.{◌≡◌, ℕ, ◌≤◌, Bool, true, false, List, [], ◌∷◌, ◌++◌, Option, None, Some, refl, sym, ap, ◌∙◌, subst}
use Rattle.std.specs.Prelude.{nat_lt, if◌then◌else◌}
use Rattle.qasm_lexer.specs.Tokens.{Lexeme}
use Rattle.qasm_reader.specs.declared.depth.Depth.TheVariants.{Open, TooDeep}
use Rattle.qasm_reader.specs.Depth.{most_open, open_after, open_at_end, too_deep, too_deep_from, IsDepth}
use Rattle.qasm_reader.proofs.Depths.{by_test}

-- ---- tokens behind tokens
open_behind : (n : ℕ) (ts us : List Lexeme) → open_at_end n (ts ++ us) ≡ open_at_end (open_at_end n ts) us
open_behind n [] us = refl
open_behind n (t ∷ ts) us = open_behind (open_after n t.kind) ts us

none_some : {A B : Type 0} (x : A) → ◌≡◌ {A = Option A} (Some x) None → B
none_some x e = absurd (cc)

-- what is found at a token
turn : (n : ℕ) (t : Lexeme) (ts : List Lexeme) (b : Bool) → nat_lt most_open (open_after n t.kind) ≡ b
    → too_deep_from n (t ∷ ts) ≡ (if b then Some t.place else too_deep_from (open_after n t.kind) ts)
turn n t ts b h = ap (λ c. if c then Some t.place else too_deep_from (open_after n t.kind) ts) h

shallow_behind : (n : ℕ) (ts us : List Lexeme) → too_deep_from n ts ≡ None → too_deep_from n (ts ++ us) ≡ too_deep_from (open_at_end n ts) us
shallow_behind n [] us e = refl
shallow_behind n (t ∷ ts) us e = by_test (open_after n t.kind) (too_deep_from n (t ∷ ts ++ us) ≡ too_deep_from (open_at_end (open_after n t.kind) ts) us)
    (λ more h. none_some t.place (sym (turn n t ts true h) ∙ e))
    (λ few h. turn n t (ts ++ us) false h ∙ shallow_behind (open_after n t.kind) ts us (sym (turn n t ts false h) ∙ e))

deep_behind : (n at : ℕ) (ts us : List Lexeme) → too_deep_from n ts ≡ Some at → too_deep_from n (ts ++ us) ≡ Some at
deep_behind n at [] us e = absurd (cc)
deep_behind n at (t ∷ ts) us e = by_test (open_after n t.kind) (too_deep_from n (t ∷ ts ++ us) ≡ Some at)
    (λ more h. turn n t (ts ++ us) true h ∙ sym (turn n t ts true h) ∙ e)
    (λ few h. turn n t (ts ++ us) false h ∙ deep_behind (open_after n t.kind) at ts us (sym (turn n t ts false h) ∙ e))

-- ---- one token more
pub depth-deep : (at : ℕ) (before more : List Lexeme) → IsDepth (TooDeep at) before → IsDepth (TooDeep at) (before ++ more)
depth-deep at before more e = deep_behind 0 at before more e

pub depth-open : (count : ℕ) (before : List Lexeme) (t : Lexeme) (later : ℕ) → (count ≤ most_open → later ≡ open_after count t.kind) → IsDepth (Open count) before
    → IsDepth (if nat_lt most_open later then TooDeep t.place else Open later) (before ++ t ∷ [])
depth-open count before t later step (none, here, few) =
    let same : later ≡ open_after (open_at_end 0 before) t.kind = step few ∙ ap (λ n. open_after n t.kind) here in
    let deep : too_deep (before ++ t ∷ []) ≡ (if nat_lt most_open later then Some t.place else None) =
    shallow_behind 0 before (t ∷ []) none ∙ ap (λ n. if nat_lt most_open n then Some t.place else None) (sym same) in
    let end : later ≡ open_at_end 0 (before ++ t ∷ []) = same ∙ sym (open_behind 0 before (t ∷ [])) in
    by_test later (IsDepth (if nat_lt most_open later then TooDeep t.place else Open later) (before ++ t ∷ []))
    (λ more h.
    subst (λ c. IsDepth (if c then TooDeep t.place else Open later) (before ++ t ∷ [])) (sym h) (deep ∙ ap (λ c. if c then Some t.place else None) h))
    (λ less h.
    subst (λ c. IsDepth (if c then TooDeep t.place else Open later) (before ++ t ∷ [])) (sym h)
    (deep ∙ ap (λ c. if c then Some t.place else None) h, end, less))
