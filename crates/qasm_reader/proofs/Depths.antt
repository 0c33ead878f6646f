-- The first place that is too deep, by prefixes of the tokens.
use Rattle.std.proofs.Common.{◌≡◌, ℕ, ◌<◌, ◌≤◌, Bool, true, false, cond, ltb, ltb-true, ltb-false, lt-ltb, le-ltb, List, [], ◌∷◌, ◌++◌, None, Some, refl, sym, ap, ◌∙◌, subst, arith}
use Rattle.qasm_lexer.specs.declared.token.TokenKind.{TokenKind}
use Rattle.qasm_lexer.specs.declared.token.TokenKind.TheVariants.{LeftParenthesis}
use Rattle.qasm_lexer.specs.Tokens.{Lexeme}
use Rattle.qasm_reader.specs.Depth.{most_open, open_after, too_deep_from, open_at_end}
use Rattle.qasm_reader.proofs.Steps.{none_some, same}

abbrev ShallowFrom : ℕ → List Lexeme → Type 0
ShallowFrom n ts = (prefix more : List Lexeme) → ts ≡ prefix ++ more → open_at_end n prefix ≤ most_open

abbrev DeepFrom : ℕ → List Lexeme → ℕ → Type 0
DeepFrom n ts at =
    (before : List Lexeme) × (left : Lexeme) × (more : List Lexeme) × (ts ≡ before ++ left ∷ more) × (left.kind ≡ LeftParenthesis) × (left.place ≡ at)
    × ShallowFrom n before × (most_open < open_at_end n (before ++ left ∷ []))

-- a test, with what it says
by_value : (b : Bool) (m : ℕ) (P : Type 0) → ltb most_open m ≡ b → (most_open < m → ltb most_open m ≡ true → P) → (m ≤ most_open → ltb most_open m ≡ false → P) → P
by_value true m P e deep shallow = deep (ltb-true _ _ e) e
by_value false m P e deep shallow = shallow (ltb-false _ _ e) e

pub by_test : (m : ℕ) (P : Type 0) → (most_open < m → ltb most_open m ≡ true → P) → (m ≤ most_open → ltb most_open m ≡ false → P) → P
by_test m P deep shallow = by_value (ltb most_open m) m P refl deep shallow

head_is : (t u : Lexeme) (ts us : List Lexeme) → t ∷ ts ≡ u ∷ us → t ≡ u
head_is t u ts us e = cc

tail_is : (t u : Lexeme) (ts us : List Lexeme) → t ∷ ts ≡ u ∷ us → ts ≡ us
tail_is t u ts us e = cc

nil_cons : (u : Lexeme) (us : List Lexeme) → [] ≡ u ∷ us → ⊥
nil_cons u us e = cc

-- only a left parenthesis makes more
left_is : (k : TokenKind) (n : ℕ) → n ≤ most_open → most_open < open_after n k → k ≡ LeftParenthesis
left_is LeftParenthesis n le lt = refl
left_is _ n le lt = absurd (omega arith)

-- one token more before
shallow_more : (n : ℕ) (t : Lexeme) (ts : List Lexeme) → n ≤ most_open → ShallowFrom (open_after n t.kind) ts → ShallowFrom n (t ∷ ts)
shallow_more n t ts le s [] more e = le
shallow_more n t ts le s (u ∷ us) more e =
    subst (λ (x : Lexeme). open_at_end (open_after n x.kind) us ≤ most_open) (head_is t u ts (us ++ more) e) (s us more (tail_is t u ts (us ++ more) e))

shallow_none : (n : ℕ) → n ≤ most_open → ShallowFrom n []
shallow_none n le [] more e = le
shallow_none n le (u ∷ us) more e = absurd (nil_cons u (us ++ more) e)

pub none_shallow : (ts : List Lexeme) (n : ℕ) → n ≤ most_open → too_deep_from n ts ≡ None → ShallowFrom n ts
none_shallow [] n le e = shallow_none n le
none_shallow (t ∷ ts) n le e =
    by_test (open_after n t.kind) (ShallowFrom n (t ∷ ts))
    (λ deep is. absurd (none_some t.place (sym e ∙ ap (λ (b : Bool). cond b (Some t.place) (too_deep_from (open_after n t.kind) ts)) is)))
    (λ shallow is. shallow_more n t ts le (none_shallow ts (open_after n t.kind) shallow (sym (ap (λ (b : Bool). cond b (Some t.place) (too_deep_from (open_after n t.kind) ts)) is) ∙ e)))

pub some_deep : (ts : List Lexeme) (n at : ℕ) → n ≤ most_open → too_deep_from n ts ≡ Some at → DeepFrom n ts at
some_deep [] n at le e = absurd (none_some at e)
some_deep (t ∷ ts) n at le e =
    by_test (open_after n t.kind) (DeepFrom n (t ∷ ts) at)
    (λ deep is. ([], t, ts, refl, left_is t.kind n le deep, same t.place at (sym (ap (λ (b : Bool). cond b (Some t.place) (too_deep_from (open_after n t.kind) ts)) is) ∙ e), shallow_none n le, deep))
    (λ shallow is.
    let d = some_deep ts (open_after n t.kind) at shallow (sym (ap (λ (b : Bool). cond b (Some t.place) (too_deep_from (open_after n t.kind) ts)) is) ∙ e) in
    (t ∷ d.0, d.1, d.2, ap (λ (x : List Lexeme). t ∷ x) d.3, d.4, d.5, shallow_more n t d.0 le d.6, d.7))

pub deep_some : (before : List Lexeme) (left : Lexeme) (more ts : List Lexeme) (n at : ℕ) → ts ≡ before ++ left ∷ more → left.place ≡ at → ShallowFrom n before → most_open < open_at_end n (before ++ left ∷ [])
    → too_deep_from n ts ≡ Some at
deep_some [] left more ts n at e place shallow deep =
    ap (too_deep_from n) e ∙ ap (λ (b : Bool). cond b (Some left.place) (too_deep_from (open_after n left.kind) more)) (lt-ltb _ _ deep) ∙ ap Some place
deep_some (t ∷ before) left more ts n at e place shallow deep =
    ap (too_deep_from n) e
    ∙ ap (λ (b : Bool). cond b (Some t.place) (too_deep_from (open_after n t.kind) (before ++ left ∷ more))) (le-ltb _ _ (shallow (t ∷ []) before refl))
    ∙ deep_some before left more (before ++ left ∷ more) (open_after n t.kind) at refl place (λ prefix rest is. shallow (t ∷ prefix) rest (ap (λ (x : List Lexeme). t ∷ x) is)) deep

pub shallow_is_none : (ts : List Lexeme) (n : ℕ) → ShallowFrom n ts → too_deep_from n ts ≡ None
shallow_is_none [] n shallow = refl
shallow_is_none (t ∷ ts) n shallow =
    ap (λ (b : Bool). cond b (Some t.place) (too_deep_from (open_after n t.kind) ts)) (le-ltb _ _ (shallow (t ∷ []) ts refl))
    ∙ shallow_is_none ts (open_after n t.kind) (λ prefix rest is. shallow (t ∷ prefix) rest (ap (λ (x : List Lexeme). t ∷ x) is))
