-- Lists: what stands in the grammar is read turn by turn, and nothing else.
use Rattle.std.proofs.Common.{◌≡◌, ℕ, zero, suc, ◌<◌, List, [], ◌∷◌, ◌++◌, length, Option, None, Some, refl, sym, ap, ◌∙◌, subst, append_assoc, append-nil, arith, inl, inr}
use Rattle.qasm_lexer.specs.declared.token.TokenKind.{TokenKind}
use Rattle.qasm_lexer.specs.declared.token.TokenKind.TheVariants as kind
use Rattle.qasm_lexer.specs.Tokens.{Lexeme}
use Rattle.qasm_reader.specs.Grammar.{Sign, ◌⋅◌, Repeated, IsCommaList, IsOptionalList}
use Rattle.qasm_reader.specs.Internal.Taking.{◌>>=◌, after, with_prefix, on_turn, turns, repeated, one_more, comma_turn, comma_items, comma_list, list_inside, list_after, optional_list}
use Rattle.qasm_reader.proofs.Steps.{Took, took_then, Sound, Complete, Shrinks, same, bind_some, after_takes, after_again, after_shrinks, sign_last, item_then, none_some}

-- ---- turns

abbrev pub Turn : Type 0 → Type 0
Turn A = List Lexeme → Option (Option (A × List Lexeme))

abbrev pub TurnShrinks : {A : Type 0} → Turn A → Type 0
TurnShrinks {A = A} turn = (ts : List Lexeme) (a : A) (rest : List Lexeme) → turn ts ≡ Some (Some (a, rest)) → length rest < length ts

on_turn_agrees : {A : Type 0} (o : Option (Option (A × List Lexeme))) (ts : List Lexeme) (go go' : List Lexeme → Option (List A × List Lexeme))
    → ((a : A) (rest : List Lexeme) → o ≡ Some (Some (a, rest)) → go rest ≡ go' rest) → on_turn o ts go ≡ on_turn o ts go'
on_turn_agrees (Some (Some x)) ts go go' h = ap (with_prefix (x.0 ∷ [])) (h x.0 x.1 refl)
on_turn_agrees _ ts go go' h = refl

turns_enough : {A : Type 0} (turn : Turn A) → TurnShrinks turn → (n m : ℕ) (ts : List Lexeme) → length ts < n → length ts < m → turns turn n ts ≡ turns turn m ts
turns_enough turn s (suc n) (suc m) ts p q =
    on_turn_agrees (turn ts) ts (turns turn n) (turns turn m) (λ a rest e. turns_enough turn s n m rest (omega (arith, s ts a rest e)) (omega (arith, s ts a rest e)))
turns_enough turn s _ _ ts p q = absurd (omega arith)

pub repeated_is : {A : Type 0} (turn : Turn A) → TurnShrinks turn → (ts : List Lexeme) → repeated turn ts ≡ on_turn (turn ts) ts (repeated turn)
unfolding repeated
repeated_is turn s ts =
    on_turn_agrees (turn ts) ts (turns turn (length ts)) (λ x. turns turn (suc (length x)) x)
    (λ a rest e. turns_enough turn s (length ts) (suc (length rest)) rest (s ts a rest e) (omega arith))

pub prefix_some : {A : Type 0} (prefix : List A) (o : Option (List A × List Lexeme)) (y : List A × List Lexeme) → with_prefix prefix o ≡ Some y
    → (z : List A × List Lexeme) × (o ≡ Some z) × (◌≡◌ {A = List A × List Lexeme} (prefix ++ z.0, z.1) y)
prefix_some prefix None y e = absurd cc
prefix_some prefix (Some z) y e = (z, refl, same (prefix ++ z.0, z.1) y e)

on_turn_takes : {A : Type 0} (Is : A → List Lexeme → Type 0) (o : Option (Option (A × List Lexeme))) (ts : List Lexeme) (go : List Lexeme → Option (List A × List Lexeme)) (xs : List A) (rest : List Lexeme)
    → ((a : A) (middle : List Lexeme) → o ≡ Some (Some (a, middle)) → Took (Is a) ts middle)
    → ((middle : List Lexeme) (ys : List A) → go middle ≡ Some (ys, rest) → Took (Repeated Is ys) middle rest)
    → on_turn o ts go ≡ Some (xs, rest) → Took (Repeated Is xs) ts rest
on_turn_takes Is None ts go xs rest item next e = absurd cc
on_turn_takes Is (Some None) ts go xs rest item next e =
    let p = same ([], ts) (xs, rest) e in
    subst (λ (y : List _ × List Lexeme). Took (Repeated Is y.0) ts y.1) p ([], refl, refl)
on_turn_takes {A = A} Is (Some (Some x)) ts go xs rest item next e =
    let z = prefix_some (x.0 ∷ []) (go x.1) (xs, rest) e in
    let r : z.0.1 ≡ rest = ap (λ (y : List A × List Lexeme). y.1) z.2 in
    let l : x.0 ∷ z.0.0 ≡ xs = ap (λ (y : List A × List Lexeme). y.0) z.2 in
    let tail : Took (Repeated Is z.0.0) x.1 rest = next x.1 z.0.0 (z.1 ∙ ap (λ (q : List Lexeme). Some (z.0.0, q)) r) in
    subst (λ (ys : List A). Took (Repeated Is ys) ts rest) l (took_then (Is x.0) (Repeated Is z.0.0) ts x.1 rest (item x.0 x.1 refl) tail)

turns_take : {A : Type 0} (Is : A → List Lexeme → Type 0) (turn : Turn A)
    → ((ts : List Lexeme) (a : A) (rest : List Lexeme) → turn ts ≡ Some (Some (a, rest)) → Took (Is a) ts rest)
    → (n : ℕ) (ts : List Lexeme) (xs : List A) (rest : List Lexeme) → turns turn n ts ≡ Some (xs, rest) → Took (Repeated Is xs) ts rest
turns_take Is turn item zero ts xs rest e = absurd cc
turns_take Is turn item (suc n) ts xs rest e =
    on_turn_takes Is (turn ts) ts (turns turn n) xs rest (λ a middle i. item ts a middle i) (λ middle ys h. turns_take Is turn item n middle ys rest h) e

pub repeated_takes : {A : Type 0} (Is : A → List Lexeme → Type 0) (turn : Turn A)
    → ((ts : List Lexeme) (a : A) (rest : List Lexeme) → turn ts ≡ Some (Some (a, rest)) → Took (Is a) ts rest)
    → Sound (repeated turn) (Repeated Is)
unfolding repeated
repeated_takes Is turn item ts xs rest e = turns_take Is turn item (suc (length ts)) ts xs rest e

-- what follows the first of the items that are left ends an item too
ends_all : {A : Type 0} (Is : A → List Lexeme → Type 0) (Ends : List Lexeme → Type 0) → ((a : A) (us rest : List Lexeme) → Is a us → Ends (us ++ rest))
    → (xs : List A) (us rest : List Lexeme) → Repeated Is xs us → Ends rest → Ends (us ++ rest)
ends_all Is Ends begins [] us rest r ends = subst (λ (x : List Lexeme). Ends (x ++ rest)) (sym r) ends
ends_all Is Ends begins (x ∷ xs) us rest r ends =
    subst Ends (sym (ap (λ (y : List Lexeme). y ++ rest) r.2 ∙ append_assoc r.0 r.1 rest)) (begins x r.0 (r.1 ++ rest) r.3)

-- before the first turn
pub no_prefix : {A : Type 0} (o : Option (List A × List Lexeme)) → with_prefix [] o ≡ o
no_prefix None = refl
no_prefix (Some x) = refl

longer_prefix : {A : Type 0} (x : A) (xs : List A) (o : Option (List A × List Lexeme)) → with_prefix (x ∷ []) (with_prefix xs o) ≡ with_prefix (x ∷ xs) o
longer_prefix x xs None = refl
longer_prefix x xs (Some y) = refl

-- items that stand there are read, and then what follows
pub repeated_goes_on : {A : Type 0} (Is : A → List Lexeme → Type 0) (turn : Turn A) → TurnShrinks turn → (Ends : List Lexeme → Type 0)
    → ((a : A) (us rest : List Lexeme) → Is a us → Ends rest → turn (us ++ rest) ≡ Some (Some (a, rest)))
    → ((a : A) (us rest : List Lexeme) → Is a us → Ends (us ++ rest))
    → (xs : List A) (us rest : List Lexeme) → Repeated Is xs us → Ends rest → repeated turn (us ++ rest) ≡ with_prefix xs (repeated turn rest)
repeated_goes_on Is turn s Ends item begins [] us rest r ends =
    ap (λ (x : List Lexeme). repeated turn (x ++ rest)) r ∙ sym (no_prefix (repeated turn rest))
repeated_goes_on Is turn s Ends item begins (x ∷ xs) us rest r ends =
    ap (λ (y : List Lexeme). repeated turn (y ++ rest)) r.2
    ∙ ap (repeated turn) (append_assoc r.0 r.1 rest)
    ∙ repeated_is turn s (r.0 ++ (r.1 ++ rest))
    ∙ ap (λ o. on_turn o (r.0 ++ (r.1 ++ rest)) (repeated turn)) (item x r.0 (r.1 ++ rest) r.3 (ends_all Is Ends begins xs r.1 rest r.4 ends))
    ∙ ap (with_prefix (x ∷ [])) (repeated_goes_on Is turn s Ends item begins xs r.1 rest r.4 ends)
    ∙ longer_prefix x xs (repeated turn rest)

pub repeated_again : {A : Type 0} (Is : A → List Lexeme → Type 0) (turn : Turn A) → TurnShrinks turn → (Ends : List Lexeme → Type 0)
    → ((a : A) (us rest : List Lexeme) → Is a us → Ends rest → turn (us ++ rest) ≡ Some (Some (a, rest)))
    → ((a : A) (us rest : List Lexeme) → Is a us → Ends (us ++ rest))
    → (xs : List A) (us rest : List Lexeme) → Repeated Is xs us → Ends rest → turn rest ≡ Some None → repeated turn (us ++ rest) ≡ Some (xs, rest)
repeated_again Is turn s Ends item begins xs us rest r ends stops =
    repeated_goes_on Is turn s Ends item begins xs us rest r ends
    ∙ ap (with_prefix xs) (repeated_is turn s rest ∙ ap (λ o. on_turn o rest (repeated turn)) stops)
    ∙ ap (λ (ys : List _). Some (ys, rest)) (append-nil xs)

-- one item more behind them
pub repeated_then : {A : Type 0} (Is : A → List Lexeme → Type 0) (xs : List A) (x : A) (us vs : List Lexeme) → Repeated Is xs us → Is x vs → Repeated Is (xs ++ x ∷ []) (us ++ vs)
repeated_then Is [] x us vs r last = (vs, [], ap (λ (y : List Lexeme). y ++ vs) r ∙ sym (append-nil vs), last, refl)
repeated_then Is (y ∷ xs) x us vs r last =
    (r.0, r.1 ++ vs, ap (λ (z : List Lexeme). z ++ vs) r.2 ∙ append_assoc r.0 r.1 vs, r.3, repeated_then Is xs x r.1 vs r.4 last)

pub one_more_some : {A : Type 0} (o : Option (A × List Lexeme)) (x : A × List Lexeme) → one_more o ≡ Some (Some x) → o ≡ Some x
one_more_some None x e = absurd cc
one_more_some (Some y) x e = ap Some (same y x (same (Some y) (Some x) e))

-- ---- lists with commas

comma_turn_takes : {A : Type 0} (Is : A → List Lexeme → Type 0) (item : List Lexeme → Option (A × List Lexeme)) → Sound item Is
    → (o : Option (List Lexeme)) (ts : List Lexeme) (a : A) (rest : List Lexeme) → after kind.Comma ts ≡ o → comma_turn item o ≡ Some (Some (a, rest)) → Took (Sign kind.Comma ⋅ Is a) ts rest
comma_turn_takes Is item sound None ts a rest is e = absurd (none_some (a, rest) (same None (Some (a, rest)) e))
comma_turn_takes Is item sound (Some r) ts a rest is e =
    took_then (Sign kind.Comma) (Is a) ts r rest (after_takes kind.Comma ts r is) (sound r a rest (one_more_some (item r) (a, rest) e))

pub comma_items_take : {A : Type 0} (Is : A → List Lexeme → Type 0) (item : List Lexeme → Option (A × List Lexeme)) → Sound item Is → Sound (comma_items item) (Repeated (λ y. Sign kind.Comma ⋅ Is y))
unfolding comma_items
comma_items_take Is item sound =
    repeated_takes (λ y. Sign kind.Comma ⋅ Is y) (λ ts. comma_turn item (after kind.Comma ts)) (λ ts a rest e. comma_turn_takes Is item sound (after kind.Comma ts) ts a rest refl e)

comma_turn_shrinks : {A : Type 0} (item : List Lexeme → Option (A × List Lexeme)) → Shrinks item
    → (o : Option (List Lexeme)) (ts : List Lexeme) (a : A) (rest : List Lexeme) → after kind.Comma ts ≡ o → comma_turn item o ≡ Some (Some (a, rest)) → length rest < length ts
comma_turn_shrinks item s None ts a rest is e = absurd (none_some (a, rest) (same None (Some (a, rest)) e))
comma_turn_shrinks item s (Some r) ts a rest is e =
    omega (arith, after_shrinks kind.Comma ts r is, s r a rest (one_more_some (item r) (a, rest) e))

pub comma_items_is : {A : Type 0} (item : List Lexeme → Option (A × List Lexeme)) → Shrinks item → (ts : List Lexeme)
    → comma_items item ts ≡ on_turn (comma_turn item (after kind.Comma ts)) ts (comma_items item)
unfolding comma_items
comma_items_is item s ts = repeated_is (λ ts. comma_turn item (after kind.Comma ts)) (λ ts a rest e. comma_turn_shrinks item s (after kind.Comma ts) ts a rest refl e) ts

pub comma_list_takes : {A : Type 0} (Is : A → List Lexeme → Type 0) (item : List Lexeme → Option (A × List Lexeme)) → Sound item Is → Sound (comma_list item) (IsCommaList Is)
unfolding comma_list
comma_list_takes {A = A} Is item sound ts xs rest e =
    let a = bind_some (item ts) (λ first. with_prefix (first.0 ∷ []) (comma_items item first.1)) (xs, rest) e in
    let z = prefix_some (a.0.0 ∷ []) (comma_items item a.0.1) (xs, rest) a.2 in
    let r : z.0.1 ≡ rest = ap (λ (y : List A × List Lexeme). y.1) z.2 in
    let l : a.0.0 ∷ z.0.0 ≡ xs = ap (λ (y : List A × List Lexeme). y.0) z.2 in
    let tail = comma_items_take Is item sound a.0.1 z.0.0 rest (z.1 ∙ ap (λ (q : List Lexeme). Some (z.0.0, q)) r) in
    subst (λ (ys : List A). Took (IsCommaList Is ys) ts rest) l
    (took_then (Is a.0.0) (Repeated (λ y. Sign kind.Comma ⋅ Is y) z.0.0) ts a.0.1 rest (sound ts a.0.0 a.0.1 a.1) tail)

-- what ends a list: no comma, and nothing that would go on with the last item
abbrev pub EndsList : (List Lexeme → Type 0) → List Lexeme → Type 0
EndsList Ends rest = Ends rest × (after kind.Comma rest ≡ None)

module _ {A : Type 0} (Is : A → List Lexeme → Type 0) (item : List Lexeme → Option (A × List Lexeme)) (Ends : List Lexeme → Type 0)
    (shrinks : Shrinks item) (complete : Complete item Is Ends) (comma : (t : Lexeme) (ts : List Lexeme) → t.kind ≡ kind.Comma → Ends (t ∷ ts)) where
  comma_begins : (a : A) (us rest : List Lexeme) → (Sign kind.Comma ⋅ Is a) us → Ends (us ++ rest)
  comma_begins a us rest s =
      subst Ends (sym (ap (λ (x : List Lexeme). x ++ rest) s.2 ∙ append_assoc s.0 s.1 rest ∙ ap (λ (x : List Lexeme). x ++ (s.1 ++ rest)) s.3.2)) (comma s.3.0 (s.1 ++ rest) s.3.1)

  comma_turn_again : (a : A) (us rest : List Lexeme) → (Sign kind.Comma ⋅ Is a) us → Ends rest → comma_turn item (after kind.Comma (us ++ rest)) ≡ Some (Some (a, rest))
  comma_turn_again a us rest s ends =
      ap (λ (x : List Lexeme). comma_turn item (after kind.Comma x)) (ap (λ (x : List Lexeme). x ++ rest) s.2 ∙ append_assoc s.0 s.1 rest)
      ∙ ap (comma_turn item) (after_again kind.Comma s.0 (s.1 ++ rest) s.3)
      ∙ ap one_more (complete a s.1 rest s.4 ends)

  comma_items_again : Complete (comma_items item) (Repeated (λ y. Sign kind.Comma ⋅ Is y)) (EndsList Ends)
  unfolding comma_items
  comma_items_again xs us rest r ends =
      repeated_again (λ y. Sign kind.Comma ⋅ Is y) (λ ts. comma_turn item (after kind.Comma ts)) (λ ts a rest e. comma_turn_shrinks item shrinks (after kind.Comma ts) ts a rest refl e)
      Ends comma_turn_again comma_begins xs us rest r ends.0 (ap (comma_turn item) ends.1)

  pub comma_list_again : Complete (comma_list item) (IsCommaList Is) (EndsList Ends)
  unfolding comma_list
  comma_list_again [] us rest r ends = absurd r
  comma_list_again (x ∷ xs) us rest r ends =
      item_then item Is Ends complete x (Repeated (λ y. Sign kind.Comma ⋅ Is y) xs) us rest (λ first. with_prefix (first.0 ∷ []) (comma_items item first.1)) (Some (x ∷ xs, rest)) r
      (ends_all (λ y. Sign kind.Comma ⋅ Is y) Ends comma_begins xs r.1 rest r.4 ends.0)
      (ap (with_prefix (x ∷ [])) (comma_items_again xs r.1 rest r.4 ends))

-- ---- lists between parentheses, if parentheses stand there

inside_some : {A : Type 0} (Is : A → List Lexeme → Type 0) (xs : List A) (ts inside rest : List Lexeme) → Took (Sign kind.LeftParenthesis) ts inside
    → Took (IsCommaList Is xs ⋅ Sign kind.RightParenthesis) inside rest → Took (IsOptionalList Is xs) ts rest
inside_some Is [] ts inside rest left t = absurd t.2.3
inside_some Is (x ∷ xs) ts inside rest left t = took_then (Sign kind.LeftParenthesis) (IsCommaList Is (x ∷ xs) ⋅ Sign kind.RightParenthesis) ts inside rest left t

list_inside_takes : {A : Type 0} (Is : A → List Lexeme → Type 0) (item : List Lexeme → Option (A × List Lexeme)) → Sound item Is
    → (o : Option (List Lexeme)) (ts inside : List Lexeme) (xs : List A) (rest : List Lexeme) → Took (Sign kind.LeftParenthesis) ts inside → after kind.RightParenthesis inside ≡ o
    → list_inside item inside o ≡ Some (xs, rest) → Took (IsOptionalList Is xs) ts rest
list_inside_takes {A = A} Is item sound (Some r) ts inside xs rest left is e =
    let p = same ([], r) (xs, rest) e in
    let both = took_then (Sign kind.LeftParenthesis) (Sign kind.RightParenthesis) ts inside r left (after_takes kind.RightParenthesis inside r is) in
    subst (λ (y : List A × List Lexeme). Took (IsOptionalList Is y.0) ts y.1) p (both.0, both.1, inr both.2)
list_inside_takes {A = A} Is item sound None ts inside xs rest left is e =
    let a = bind_some (comma_list item inside) (λ items. after kind.RightParenthesis items.1 >>= λ rest. Some (items.0, rest)) (xs, rest) e in
    let b = bind_some (after kind.RightParenthesis a.0.1) (λ rest. Some (a.0.0, rest)) (xs, rest) a.2 in
    let p = same (a.0.0, b.0) (xs, rest) b.2 in
    subst (λ (y : List A × List Lexeme). Took (IsOptionalList Is y.0) ts y.1) p
    (inside_some Is a.0.0 ts inside b.0 left (took_then (IsCommaList Is a.0.0) (Sign kind.RightParenthesis) inside a.0.1 b.0 (comma_list_takes Is item sound inside a.0.0 a.0.1 a.1) (after_takes kind.RightParenthesis a.0.1 b.0 b.1)))

list_after_takes : {A : Type 0} (Is : A → List Lexeme → Type 0) (item : List Lexeme → Option (A × List Lexeme)) → Sound item Is
    → (o : Option (List Lexeme)) (ts : List Lexeme) (xs : List A) (rest : List Lexeme) → after kind.LeftParenthesis ts ≡ o → list_after item ts o ≡ Some (xs, rest) → Took (IsOptionalList Is xs) ts rest
list_after_takes {A = A} Is item sound None ts xs rest is e =
    let p = same ([], ts) (xs, rest) e in
    subst (λ (y : List A × List Lexeme). Took (IsOptionalList Is y.0) ts y.1) p ([], refl, inl refl)
list_after_takes Is item sound (Some inside) ts xs rest is e =
    list_inside_takes Is item sound (after kind.RightParenthesis inside) ts inside xs rest (after_takes kind.LeftParenthesis ts inside is) refl e

pub optional_list_takes : {A : Type 0} (Is : A → List Lexeme → Type 0) (item : List Lexeme → Option (A × List Lexeme)) → Sound item Is → Sound (optional_list item) (IsOptionalList Is)
unfolding optional_list
optional_list_takes Is item sound ts xs rest e = list_after_takes Is item sound (after kind.LeftParenthesis ts) ts xs rest refl e

-- the tokens of an item don't begin with a right parenthesis
abbrev pub BeginsOpen : {A : Type 0} → (A → List Lexeme → Type 0) → Type 0
BeginsOpen {A = A} Is = (a : A) (us rest : List Lexeme) → Is a us → after kind.RightParenthesis (us ++ rest) ≡ None

abbrev pub EndsOptional : List Lexeme → Type 0
EndsOptional rest = after kind.LeftParenthesis rest ≡ None

pub optional_list_again : {A : Type 0} (Is : A → List Lexeme → Type 0) (item : List Lexeme → Option (A × List Lexeme)) (Ends : List Lexeme → Type 0)
    → Complete (comma_list item) (IsCommaList Is) (EndsList Ends) → BeginsOpen Is → ((t : Lexeme) (ts : List Lexeme) → t.kind ≡ kind.RightParenthesis → EndsList Ends (t ∷ ts))
    → Complete (optional_list item) (IsOptionalList Is) EndsOptional
unfolding optional_list
optional_list_again Is item Ends complete begins right [] us rest (inl none) ends =
    ap (λ (x : List Lexeme). list_after item (x ++ rest) (after kind.LeftParenthesis (x ++ rest))) none ∙ ap (list_after item rest) ends
optional_list_again Is item Ends complete begins right [] us rest (inr s) ends =
    ap (λ (x : List Lexeme). list_after item x (after kind.LeftParenthesis x)) (ap (λ (x : List Lexeme). x ++ rest) s.2 ∙ append_assoc s.0 s.1 rest)
    ∙ ap (list_after item (s.0 ++ (s.1 ++ rest))) (after_again kind.LeftParenthesis s.0 (s.1 ++ rest) s.3)
    ∙ ap (list_inside item (s.1 ++ rest)) (after_again kind.RightParenthesis s.1 rest s.4)
optional_list_again Is item Ends complete begins right (x ∷ xs) us rest s ends =
    let t = s.4 in
    let inside : s.1 ++ rest ≡ t.0 ++ (t.1 ++ rest) = ap (λ (y : List Lexeme). y ++ rest) t.2 ∙ append_assoc t.0 t.1 rest in
    let first = t.3 in
    let none : after kind.RightParenthesis (s.1 ++ rest) ≡ None =
    ap (after kind.RightParenthesis) (inside ∙ ap (λ (y : List Lexeme). y ++ (t.1 ++ rest)) first.2 ∙ append_assoc first.0 first.1 (t.1 ++ rest)) ∙ begins x first.0 (first.1 ++ (t.1 ++ rest)) first.3 in
    ap (λ (y : List Lexeme). list_after item y (after kind.LeftParenthesis y)) (ap (λ (y : List Lexeme). y ++ rest) s.2 ∙ append_assoc s.0 s.1 rest)
    ∙ ap (list_after item (s.0 ++ (s.1 ++ rest))) (after_again kind.LeftParenthesis s.0 (s.1 ++ rest) s.3)
    ∙ ap (list_inside item (s.1 ++ rest)) none
    ∙ item_then (comma_list item) (IsCommaList Is) (EndsList Ends) complete (x ∷ xs) (Sign kind.RightParenthesis) s.1 rest (λ items. after kind.RightParenthesis items.1 >>= λ rest. Some (items.0, rest)) (Some (x ∷ xs, rest)) t
    (subst (λ (y : List Lexeme). EndsList Ends (y ++ rest)) (sym t.4.2) (right t.4.0 rest t.4.1))
    (sign_last kind.RightParenthesis t.1 rest (λ r. Some (x ∷ xs, r)) t.4)

-- what a list begins with
pub list_begins : {A : Type 0} (k : TokenKind) (Is : A → List Lexeme → Type 0) → ((a : A) (us rest : List Lexeme) → Is a us → after k (us ++ rest) ≡ None)
    → (xs : List A) (us rest : List Lexeme) → IsCommaList Is xs us → after k (us ++ rest) ≡ None
list_begins k Is item [] us rest s = absurd s
list_begins k Is item (x ∷ xs) us rest s =
    ap (after k) (ap (λ (y : List Lexeme). y ++ rest) s.2 ∙ append_assoc s.0 s.1 rest) ∙ item x s.0 (s.1 ++ rest) s.3
