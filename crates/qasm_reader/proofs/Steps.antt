-- Single tokens, and steps one after another: what a step reads stands in the grammar, and what stands there is read.
use Rattle.std.proofs.Common.{◌≡◌, ℕ, ◌<◌, Bool, true, false, cond, List, [], ◌∷◌, ◌++◌, length, Option, None, Some, refl, sym, ap, ◌∙◌, append_assoc, arith}
use Rattle.std.proofs.lemmas.Option.{cond_some}
use denote.Enum.Bare.{same_true, true_same}
use Rattle.qasm_lexer.specs.contracts.token.TokenKind.{the_type}
use Rattle.qasm_lexer.specs.declared.token.TokenKind.{TokenKind}
use Rattle.qasm_lexer.specs.Tokens.{Lexeme}
use Rattle.qasm_reader.specs.declared.expression.Function.{Function}
use Rattle.qasm_reader.specs.declared.expression.Function.TheVariants.{Sin, Cos, Tan, Exp, Ln, Sqrt}
use Rattle.qasm_reader.specs.Grammar.{Sign, Word, ◌⋅◌}
use Rattle.qasm_reader.specs.Internal.Taking.{◌>>=◌, same_kind, after, text}

-- a prefix of the tokens is so, and the rest follows
abbrev pub Took : (List Lexeme → Type 0) → List Lexeme → List Lexeme → Type 0
Took Is ts rest = (us : List Lexeme) × (ts ≡ us ++ rest) × Is us

pub took_then : (Front Back : List Lexeme → Type 0) (ts middle rest : List Lexeme) → Took Front ts middle → Took Back middle rest → Took (Front ⋅ Back) ts rest
took_then Front Back ts middle rest a b =
    (a.0 ++ b.0, a.1 ∙ ap (λ (x : List Lexeme). a.0 ++ x) b.1 ∙ sym (append_assoc a.0 b.0 rest), (a.0, b.0, refl, a.2, b.2))

-- a list of three in the other grouping, where what its last two are is so too
pub deeper : (Front Middle Back Rest : List Lexeme → Type 0) → ((vs : List Lexeme) → (Middle ⋅ Back) vs → Rest vs) → (us : List Lexeme) → ((Front ⋅ Middle) ⋅ Back) us → (Front ⋅ Rest) us
deeper Front Middle Back Rest regroup us s =
    let f = s.3 in
    (f.0, f.1 ++ s.1, s.2 ∙ ap (λ (x : List Lexeme). x ++ s.1) f.2 ∙ append_assoc f.0 f.1 s.1, f.3, regroup (f.1 ++ s.1) (f.1, s.1, refl, f.4, s.4))

-- what a step reads stands in the grammar
abbrev pub Sound : {A : Type 0} → (List Lexeme → Option (A × List Lexeme)) → (A → List Lexeme → Type 0) → Type 0
Sound {A = A} item Is = (ts : List Lexeme) (a : A) (rest : List Lexeme) → item ts ≡ Some (a, rest) → Took (Is a) ts rest

-- what stands in the grammar is read, if what follows is so
abbrev pub Complete : {A : Type 0} → (List Lexeme → Option (A × List Lexeme)) → (A → List Lexeme → Type 0) → (List Lexeme → Type 0) → Type 0
Complete {A = A} item Is Ends = (a : A) (us rest : List Lexeme) → Is a us → Ends rest → item (us ++ rest) ≡ Some (a, rest)

-- each step takes a token at least
abbrev pub Shrinks : {A : Type 0} → (List Lexeme → Option (A × List Lexeme)) → Type 0
Shrinks {A = A} item = (ts : List Lexeme) (a : A) (rest : List Lexeme) → item ts ≡ Some (a, rest) → length rest < length ts

pub same : {A : Type 0} (x y : A) → ◌≡◌ {A = Option A} (Some x) (Some y) → x ≡ y
same x y e = cc

pub none_some : {A : Type 0} (x : A) → ◌≡◌ {A = Option A} None (Some x) → ⊥
none_some x e = cc

pub not_none : {A : Type 0} (x : A) (o : Option A) → o ≡ Some x → o ≡ None → ⊥
not_none x o e f = none_some x (sym f ∙ e)

pub bind_some : {A B : Type 0} (o : Option A) (f : A → Option B) (y : B) → (o >>= f) ≡ Some y → (x : A) × (o ≡ Some x) × (f x ≡ Some y)
bind_some None f y e = absurd cc
bind_some (Some x) f y e = (x, refl, e)

pub bind_is : {A B : Type 0} (o : Option A) (x : A) (f : A → Option B) (r : Option B) → o ≡ Some x → f x ≡ r → (o >>= f) ≡ r
bind_is o x f r is next = ap (λ (p : Option _). p >>= f) is ∙ next

pub bind_none : {A B : Type 0} (o : Option A) (f : A → Option B) → o ≡ None → (o >>= f) ≡ None
bind_none o f is = ap (λ (p : Option _). p >>= f) is

-- ---- kinds

pub kind_same : (k l : TokenKind) → same_kind k l ≡ true → k ≡ l
unfolding same_kind
kind_same k l e = same_true the_type tt k l e

pub same_kind_same : (k l : TokenKind) → k ≡ l → same_kind k l ≡ true
unfolding same_kind
same_kind_same k l e = true_same the_type k l e

-- ---- one token

pub after_takes : (k : TokenKind) (ts rest : List Lexeme) → after k ts ≡ Some rest → Took (Sign k) ts rest
unfolding after
after_takes k [] rest e = absurd cc
after_takes k (t ∷ ts) rest e =
    let g = cond_some (same_kind t.kind k) ts rest e in
    (t ∷ [], ap (λ (x : List Lexeme). t ∷ x) g.1, (t, kind_same t.kind k g.0, refl))

pub after_again : (k : TokenKind) (us rest : List Lexeme) → Sign k us → after k (us ++ rest) ≡ Some rest
unfolding after
after_again k us rest s =
    ap (λ (x : List Lexeme). after k (x ++ rest)) s.2 ∙ ap (λ (b : Bool). cond b (Some rest) None) (same_kind_same s.0.kind k s.1)

-- another kind of token stands first
pub after_other : (k l : TokenKind) (t : Lexeme) (ts : List Lexeme) → t.kind ≡ l → same_kind l k ≡ false → after k (t ∷ ts) ≡ None
unfolding after
after_other k l t ts is other = ap (λ (x : TokenKind). cond (same_kind x k) (Some ts) None) is ∙ ap (λ (b : Bool). cond b (Some ts) None) other

pub after_shrinks : (k : TokenKind) (ts rest : List Lexeme) → after k ts ≡ Some rest → length rest < length ts
unfolding after
after_shrinks k [] rest e = absurd cc
after_shrinks k (t ∷ ts) rest e = let g = cond_some (same_kind t.kind k) ts rest e in omega (arith, ap length g.1)

pub text_takes : (k : TokenKind) → Sound (text k) (Word k)
unfolding text
text_takes k [] a rest e = absurd cc
text_takes k (t ∷ ts) a rest e =
    let g = cond_some (same_kind t.kind k) (t.text, ts) (a, rest) e in
    (t ∷ [], ap (λ (x : List ℕ × List Lexeme). t ∷ x.1) g.1, (t, kind_same t.kind k g.0, ap (λ (x : List ℕ × List Lexeme). x.0) g.1, refl))

pub text_again : (k : TokenKind) (a : List ℕ) (us rest : List Lexeme) → Word k a us → text k (us ++ rest) ≡ Some (a, rest)
unfolding text
text_again k a us rest w =
    ap (λ (x : List Lexeme). text k (x ++ rest)) w.3
    ∙ ap (λ (b : Bool). cond b (Some (w.0.text, rest)) None) (same_kind_same w.0.kind k w.1)
    ∙ ap (λ (x : List ℕ). Some (x, rest)) w.2

pub text_shrinks : (k : TokenKind) → Shrinks (text k)
unfolding text
text_shrinks k [] a rest e = absurd cc
text_shrinks k (t ∷ ts) a rest e =
    let g = cond_some (same_kind t.kind k) (t.text, ts) (a, rest) e in
    omega (arith, ap (λ (x : List ℕ × List Lexeme). length x.1) g.1)

-- ---- one step after another

-- a sign, and what follows
pub sign_then : {R : Type 0} (k : TokenKind) (Back : List Lexeme → Type 0) (ts rest : List Lexeme) (f : List Lexeme → Option R) (r : Option R)
    → (s : (Sign k ⋅ Back) ts) → f (s.1 ++ rest) ≡ r → (after k (ts ++ rest) >>= f) ≡ r
sign_then k Back ts rest f r s next =
    ap (λ (x : List Lexeme). after k (x ++ rest) >>= f) s.2
    ∙ ap (λ (x : List Lexeme). after k x >>= f) (append_assoc s.0 s.1 rest)
    ∙ ap (λ (o : Option (List Lexeme)). o >>= f) (after_again k s.0 (s.1 ++ rest) s.3)
    ∙ next

-- a last sign
pub sign_last : {R : Type 0} (k : TokenKind) (ts rest : List Lexeme) (f : List Lexeme → Option R) → Sign k ts → (after k (ts ++ rest) >>= f) ≡ f rest
sign_last k ts rest f s = ap (λ (o : Option (List Lexeme)). o >>= f) (after_again k ts rest s)

-- an item, and what follows
pub item_then : {A R : Type 0} (item : List Lexeme → Option (A × List Lexeme)) (Is : A → List Lexeme → Type 0) (Ends : List Lexeme → Type 0) → Complete item Is Ends
    → (a : A) (Back : List Lexeme → Type 0) (ts rest : List Lexeme) (f : A × List Lexeme → Option R) (r : Option R)
    → (s : (Is a ⋅ Back) ts) → Ends (s.1 ++ rest) → f (a, s.1 ++ rest) ≡ r → (item (ts ++ rest) >>= f) ≡ r
item_then item Is Ends complete a Back ts rest f r s ends next =
    ap (λ (x : List Lexeme). item (x ++ rest) >>= f) s.2
    ∙ ap (λ (x : List Lexeme). item x >>= f) (append_assoc s.0 s.1 rest)
    ∙ ap (λ (o : Option (_ × List Lexeme)). o >>= f) (complete a s.0 (s.1 ++ rest) s.3 ends)
    ∙ next

-- ---- what stands first

-- a sign first
pub sign_took : (k : TokenKind) (t : Lexeme) (ts : List Lexeme) → t.kind ≡ k → Took (Sign k) (t ∷ ts) ts
sign_took k t ts is = (t ∷ [], refl, (t, is, refl))

-- the tokens begin with this one
pub record Opened (k : TokenKind) (ts rest : List Lexeme) : Type 0 where
  pub first : Lexeme
  pub is : first.kind ≡ k
  pub all : ts ≡ first ∷ rest

pub opened : (k : TokenKind) (Back : List Lexeme → Type 0) (ts rest : List Lexeme) (s : (Sign k ⋅ Back) ts) → Opened k (ts ++ rest) (s.1 ++ rest)
opened k Back ts rest s =
    record { first = s.3.0; is = s.3.1; all = ap (λ (x : List Lexeme). x ++ rest) s.2 ∙ append_assoc s.0 s.1 rest ∙ ap (λ (x : List Lexeme). x ++ (s.1 ++ rest)) s.3.2 }

-- no token of this kind stands first
pub sign_begins : (k l : TokenKind) (us rest : List Lexeme) → same_kind l k ≡ false → Sign l us → after k (us ++ rest) ≡ None
sign_begins k l us rest other s = ap (λ (x : List Lexeme). after k (x ++ rest)) s.2 ∙ after_other k l s.0 rest s.1 other

pub word_begins : (k l : TokenKind) (a : List ℕ) (us rest : List Lexeme) → same_kind l k ≡ false → Word l a us → after k (us ++ rest) ≡ None
word_begins k l a us rest other s = ap (λ (x : List Lexeme). after k (x ++ rest)) s.3 ∙ after_other k l s.0 rest s.1 other

pub then_begins : (k : TokenKind) (Front Back : List Lexeme → Type 0) → ((us rest : List Lexeme) → Front us → after k (us ++ rest) ≡ None)
    → (us rest : List Lexeme) → (Front ⋅ Back) us → after k (us ++ rest) ≡ None
then_begins k Front Back prefix us rest s =
    ap (after k) (ap (λ (x : List Lexeme). x ++ rest) s.2 ∙ append_assoc s.0 s.1 rest) ∙ prefix s.0 (s.1 ++ rest) s.3

-- what holds of each function holds of any
pub each_function : (P : Function → Type 0) → P Sin → P Cos → P Tan → P Exp → P Ln → P Sqrt → (f : Function) → P f
each_function P sin cos tan exp ln sqrt Sin = sin
each_function P sin cos tan exp ln sqrt Cos = cos
each_function P sin cos tan exp ln sqrt Tan = tan
each_function P sin cos tan exp ln sqrt Exp = exp
each_function P sin cos tan exp ln sqrt Ln = ln
each_function P sin cos tan exp ln sqrt Sqrt = sqrt
