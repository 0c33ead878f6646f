-- Lists of different ids: one of them brought to the front.
use Rattle.std.proofs.Common.{◌≡◌, ◌≢◌, refl, sym, ◌∙◌, ap, ap₂, ℕ, ◌<◌, Bool, true, false, cond, not, ◌&&◌, ◌||◌, eqb, ltb, List, [], ◌∷◌, ◌++◌, filter, true≢false, eqb-true, eq-eqb, ne_eqb, ltb-true, arith}
use Rattle.std.proofs.lemmas.Bool.{eqb-false}
use Rattle.std.specs.List.{list_all}
pub use Rattle.zx_model.proofs.BitLemmas.{and-left, and-right}
pub use Rattle.zx_calculus.specs.Graph.{Distinct}
use Rattle.zx_model.specs.Bits.{xor, member}
use Rattle.zx_calculus.specs.Parity.{masked}
use Rattle.zx_calculus.specs.Internal.Pairs.{quad}
use Rattle.zx_calculus.specs.Graph.{in_order, different}
use Rattle.zx_calculus.proofs.Booleans.{parities, or-true, or_assoc, and-false}

-- a choice by a test, with what it says
pub by_test : {P : Type 0} (b : Bool) → (b ≡ true → P) → (b ≡ false → P) → P
by_test true when unless = when refl
by_test false when unless = unless refl

pub by_equal : {P : Type 0} (u v : ℕ) → (eqb u v ≡ true → u ≡ v → P) → (eqb u v ≡ false → u ≢ v → P) → P
by_equal u v when unless = by_test (eqb u v) (λ t. when t (eqb-true u v t)) (λ f. unless f (eqb-false u v f))

pub eqb-self : (u : ℕ) → eqb u u ≡ true
eqb-self u = eq-eqb u u refl

pub eqb_comm : (u v : ℕ) → eqb u v ≡ eqb v u
eqb_comm u v = by_equal u v (λ t e. t ∙ sym (eq-eqb v u (sym e))) (λ f n. f ∙ sym (ne_eqb v u (λ e. n (sym e))))

pub or-left : (a b : Bool) → (a || b) ≡ false → a ≡ false
or-left true b e = e
or-left false b e = refl

pub or-right : (a b : Bool) → (a || b) ≡ false → b ≡ false
or-right true b e = absurd (true≢false e)
or-right false b e = e

pub not-true : (a : Bool) → not a ≡ true → a ≡ false
not-true true e = sym e
not-true false e = refl

pub member-here : (v : ℕ) (vs : List ℕ) → member v (v ∷ vs) ≡ true
member-here v vs = ap (λ b. b || member v vs) (eqb-self v)

pub member-there : (w v : ℕ) (vs : List ℕ) → member w vs ≡ true → member w (v ∷ vs) ≡ true
member-there w v vs there = ap (λ b. eqb w v || b) there ∙ or-true (eqb w v)

pub member-append : (w : ℕ) (xs ys : List ℕ) → member w (xs ++ ys) ≡ (member w xs || member w ys)
member-append w [] ys = refl
member-append w (x ∷ xs) ys = ap (λ b. eqb w x || b) (member-append w xs ys) ∙ or_assoc (eqb w x) (member w xs) (member w ys)

pub member-filter : (t : ℕ → Bool) (xs : List ℕ) (p : ℕ) → member p (filter t xs) ≡ (member p xs && t p)
member-filter t [] p = refl
member-filter t (x ∷ xs) p =
    by_test (t x)
    (λ s. rw s (by_equal p x (λ e same. rw e (sym (ap t same ∙ s))) (λ e n. rw e (member-filter t xs p))))
    (λ f. rw f (by_equal p x (λ e same. rw e (member-filter t xs p ∙ ap (λ b. member p xs && b) (ap t same ∙ f) ∙ and-false (member p xs) ∙ sym (ap t same ∙ f))) (λ e n. rw e (member-filter t xs p))))

pub member-different : (u : ℕ) (vs : List ℕ) → list_all (different u) vs ≡ true → member u vs ≡ false
member-different u [] h = refl
member-different u (v ∷ vs) h =
    let apart : eqb u v ≡ false = not-true _ (and-left _ _ h) in
    rw apart (member-different u vs (and-right _ _ h))

pub member-below : (u : ℕ) (vs : List ℕ) → list_all (ltb u) vs ≡ true → member u vs ≡ false
member-below u [] h = refl
member-below u (v ∷ vs) h =
    let lt : u < v = ltb-true u v (and-left _ _ h) in
    rw (ne_eqb u v (omega arith)) (member-below u vs (and-right _ _ h))

pub Distinct-different : (vs : List ℕ) → in_order different vs ≡ true → Distinct vs
Distinct-different [] h = tt
Distinct-different (v ∷ vs) h = (member-different v vs (and-left _ _ h), Distinct-different vs (and-right _ _ h))

pub Distinct-rising : (vs : List ℕ) → in_order ltb vs ≡ true → Distinct vs
Distinct-rising [] h = tt
Distinct-rising (v ∷ vs) h = (member-below v vs (and-left _ _ h), Distinct-rising vs (and-right _ _ h))

-- the list without u
abbrev pub removed : ℕ → List ℕ → List ℕ
removed u [] = []
removed u (v ∷ vs) = cond (eqb u v) (removed u vs) (v ∷ removed u vs)

pub removed-absent : (u : ℕ) (vs : List ℕ) → member u vs ≡ false → removed u vs ≡ vs
removed-absent u [] h = refl
removed-absent u (v ∷ vs) h =
    let apart : eqb u v ≡ false = or-left _ _ h in
    rw apart (ap (λ r. v ∷ r) (removed-absent u vs (or-right _ _ h)))

pub member-removed : (u : ℕ) (vs : List ℕ) → member u (removed u vs) ≡ false
member-removed u [] = refl
member-removed u (v ∷ vs) = by_equal u v (λ t e. rw t (member-removed u vs)) (λ f n. rw (f, f) (member-removed u vs))

pub member-removed_other : (p u : ℕ) (vs : List ℕ) → p ≢ u → member p (removed u vs) ≡ member p vs
member-removed_other p u [] n = refl
member-removed_other p u (v ∷ vs) n =
    by_equal u v (λ t e. let other : eqb p v ≡ false = ne_eqb p v (λ q. n (q ∙ sym e)) in rw (t, other) (member-removed_other p u vs n))
    (λ f m. rw f (ap (λ r. eqb p v || r) (member-removed_other p u vs n)))

pub member-absent_removed : (p u : ℕ) (vs : List ℕ) → member p vs ≡ false → member p (removed u vs) ≡ false
member-absent_removed p u vs h = by_equal p u (λ t e. rw e (member-removed u vs)) (λ f n. member-removed_other p u vs n ∙ h)

pub Distinct-removed : (u : ℕ) (vs : List ℕ) → Distinct vs → Distinct (removed u vs)
Distinct-removed u [] d = tt
Distinct-removed u (v ∷ vs) d =
    by_equal u v (λ t e. rw t (Distinct-removed u vs d.1)) (λ f n. rw f (member-absent_removed v u vs d.0, Distinct-removed u vs d.1))

-- two ids that differ are apart in membership
pub apart_of_member : (u v : ℕ) (vs : List ℕ) → member u vs ≡ true → member v vs ≡ false → u ≢ v
apart_of_member u v vs there absent e = true≢false (sym there ∙ ap (λ w. member w vs) e ∙ absent)

exchange : (a l x y : Bool) → xor (a && l) (xor x y) ≡ xor x (xor (a && l) y)
exchange a l x y = simp parities

pub masked_front : (n : ℕ → Bool) (u : ℕ) (vs : List ℕ) (label : ℕ → Bool) → Distinct vs → member u vs ≡ true → masked n vs label ≡ masked n (u ∷ removed u vs) label
masked_front n u [] label d h = absurd (true≢false (sym h))
masked_front n u (v ∷ vs) label d h =
    by_equal u v (λ t e. rw (t, removed-absent u vs (ap (λ w. member w vs) e ∙ d.0)) (ap (λ w. xor (n w && label w) (masked n vs label)) (sym e)))
    (λ f m. let there : member u vs ≡ true = rw f at h in
    rw f (ap (xor (n v && label v)) (masked_front n u vs label d.1 there) ∙ exchange (n v) (label v) (n u && label u) (masked n (removed u vs) label)))

-- adjacency that doesn't mind the order of a pair
abbrev pub Symmetric : (ℕ → ℕ → Bool) → Type 0
Symmetric a = (p q : ℕ) → a p q ≡ a q p

swap_front : (l k b x y z : Bool) → xor (l && xor (b && k) x) (xor (k && y) z) ≡ xor (k && xor (b && l) y) (xor (l && x) z)
swap_front l k b x y z = simp parities

pub quad_front : (a : ℕ → ℕ → Bool) (u : ℕ) (vs : List ℕ) (label : ℕ → Bool) → Symmetric a → Distinct vs → member u vs ≡ true → quad a vs label ≡ quad a (u ∷ removed u vs) label
quad_front a u [] label s d h = absurd (true≢false (sym h))
quad_front a u (v ∷ vs) label s d h =
    by_equal u v (λ t e. rw (t, removed-absent u vs (ap (λ w. member w vs) e ∙ d.0)) (ap (λ w. xor (label w && masked (a w) vs label) (quad a vs label)) (sym e)))
    (λ f m. let there : member u vs ≡ true = rw f at h in
    rw f
    (ap₂ (λ x y. xor (label v && x) y) (masked_front (a v) u vs label d.1 there) (quad_front a u vs label s d.1 there)
    ∙ swap_front (label v) (label u) (a v u) (masked (a v) (removed u vs) label) (masked (a u) (removed u vs) label) (quad a (removed u vs) label)
    ∙ ap (λ b. xor (label u && xor (b && label v) (masked (a u) (removed u vs) label)) (xor (label v && masked (a v) (removed u vs) label) (quad a (removed u vs) label))) (s v u)))
