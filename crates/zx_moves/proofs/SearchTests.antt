-- Answers that may be None, neighbours, and the first of a list that passes a test.
use Rattle.std.proofs.Common.{Option, Some, None, ◌≡◌, ◌⊎◌, inl, inr, refl, sym, ◌∙◌, ap, subst, ℕ, Bool, true, false, ◌||◌, eqb, List, [], ◌∷◌, ◌++◌, IfSome, IfNone, is_some, true≢false, eqb-true}
use Rattle.std.specs.List.{find}
use Rattle.zx_model.specs.Bits.{member}
use Rattle.zx_calculus.specs.Graph.{Graph, ids, joined, neighbours, IsVertex, WellFormed}
use Rattle.zx_calculus.proofs.Booleans.{or-true}
use Rattle.zx_calculus.proofs.Ids.{by_test, and-left, eqb-self, member-filter}
use Rattle.zx_calculus.proofs.Programs.{neighbour}
use Rattle.zx_moves.specs.declared.moves.Move.{Move}

-- ---- answers
pub if_none : (Q : Type 0) (r : Option Move) → Q → IfNone r Q
if_none Q None q = q
if_none Q (Some m) q = tt

pub some_from : (r : Option ℕ) (P : ℕ → Type 0) → IfSome r P → is_some r ≡ true → (v : ℕ) × P v
some_from None P h e = absurd (true≢false (sym e))
some_from (Some v) P h e = (v, h)

pub none_from : (r : Option ℕ) (Q : Type 0) → IfNone r Q → is_some r ≡ false → Q
none_from None Q h e = h
none_from (Some v) Q h e = absurd (true≢false e)

-- ---- neighbours
pub live_near : (g : Graph) (u v : ℕ) → member v (neighbours g u) ≡ true → IsVertex g v
live_near g u v h = and-left (member v (ids g.vertices)) (joined g.edges u v) (sym (member-filter (joined g.edges u) (ids g.vertices) v) ∙ h)

pub joined_near : (g : Graph) → WellFormed g → (u v : ℕ) → member v (neighbours g u) ≡ true → joined g.edges u v ≡ true
joined_near g w u v h = neighbour g w u v ∙ h

pub near_joined : (g : Graph) → WellFormed g → (u v : ℕ) → joined g.edges u v ≡ true → member v (neighbours g u) ≡ true
near_joined g w u v h = sym (neighbour g w u v) ∙ h

-- ---- the first that passes a test
pub find_at : (p : ℕ → Bool) (before after : List ℕ) (v : ℕ) → ((w : ℕ) → member w before ≡ true → p w ≡ false) → p v ≡ true → find p (before ++ v ∷ after) ≡ Some v
find_at p [] after v none here = rw here refl
find_at p (x ∷ xs) after v none here =
    let fails : p x ≡ false = none x (ap (λ b. b || member x xs) (eqb-self x)) in
    rw fails (find_at p xs after v (λ w m. none w (ap (λ b. eqb w x || b) m ∙ or-true (eqb w x))) here)

pub find_nowhere : (p : ℕ → Bool) (xs : List ℕ) → ((w : ℕ) → member w xs ≡ true → p w ≡ false) → find p xs ≡ None
find_nowhere p [] none = refl
find_nowhere p (x ∷ xs) none =
    let fails : p x ≡ false = none x (ap (λ b. b || member x xs) (eqb-self x)) in
    rw fails (find_nowhere p xs (λ w m. none w (ap (λ b. eqb w x || b) m ∙ or-true (eqb w x))))

either : (a b : Bool) → (a || b) ≡ true → (a ≡ true) ⊎ (b ≡ true)
either true b e = inl refl
either false b e = inr e

pub find-some : (p : ℕ → Bool) (xs : List ℕ) (v : ℕ) → find p xs ≡ Some v → (member v xs ≡ true) × (p v ≡ true)
find-some p [] v e = cc
find-some p (x ∷ xs) v e =
    by_test (p x)
    (λ t. let s : Some x ≡ Some v = sym (rw t at (sym e)) in let same : x ≡ v = cc in (subst (λ (y : ℕ). member y (x ∷ xs) ≡ true) same (ap (λ b. b || member x xs) (eqb-self x)), subst (λ (y : ℕ). p y ≡ true) same t))
    (λ f. let later = find-some p xs v (rw f at e) in (ap (λ b. eqb v x || b) later.0 ∙ or-true (eqb v x), later.1))

pub find-none : (p : ℕ → Bool) (xs : List ℕ) → find p xs ≡ None → (v : ℕ) → member v xs ≡ true → p v ≡ false
find-none p [] e v m = absurd (true≢false (sym m))
find-none p (x ∷ xs) e v m =
    by_test (p x)
    (λ t. let s : Some x ≡ None = rw t at e in cc)
    (λ f. elim (either (eqb v x) (member v xs) m) [ inl t ↦ ap p (eqb-true v x t) ∙ f | inr t ↦ find-none p xs (rw f at e) v t ])
