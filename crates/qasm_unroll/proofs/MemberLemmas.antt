-- Lists of numbers by their members.
use Rattle.std.proofs.Common.{◌≡◌, ℕ, ◌==◌, Bool, true, false, ◌||◌, List, [], ◌∷◌, ◌++◌, refl, sym, ap, ap₂, ◌∙◌, arith}
use Rattle.std.specs.List.{IsDistinct, list_any}
use Rattle.std.specs.List.{AllByRecursion}
use Rattle.std.proofs.lemmas.Bool.{false_from_ne_true, or_right, both_ways}
use Rattle.std.proofs.lemmas.Bool.Decides.{nat_tests}
use Rattle.zx_model.specs.Bits.{member}
use Rattle.qasm_names.proofs.Tests.{or-first, or-second, same_number}

same-ways : (a b : Bool) → (b ≡ false → a ≡ false) → (a ≡ false → b ≡ false) → a ≡ b
same-ways true false h k = h refl
same-ways false true h k = sym (k refl)
same-ways _ _ h k = refl

any-at : (b : Bool) (x y : ℕ) (p : ℕ → Bool) (ys : List ℕ) → (x == y) ≡ b → (b || member x ys) ≡ true → p x ≡ true
    → (member x ys ≡ true → list_any p ys ≡ true) → (p y || list_any p ys) ≡ true
any-at true x y p ys e h k rest =
    let same : x ≡ y = grind (arith, nat_tests) in
    ap (λ b. b || list_any p ys) (ap p (sym same) ∙ k)
any-at false x y p ys e h k rest = or_right (p y) _ (rest h)

-- a member that passes a test
pub any-member : (p : ℕ → Bool) (x : ℕ) (xs : List ℕ) → member x xs ≡ true → p x ≡ true → list_any p xs ≡ true
any-member p x [] h k = absurd (cc)
any-member p x (y ∷ ys) h k = any-at (x == y) x y p ys refl h k (λ m. any-member p x ys m k)

-- no member passes it
pub any-none : (p : ℕ → Bool) (xs : List ℕ) → ((x : ℕ) → member x xs ≡ true → p x ≡ false) → list_any p xs ≡ false
any-none p [] h = refl
any-none p (y ∷ ys) h = ap₂ ◌||◌ (h y (ap (λ b. b || member y ys) (same_number y))) (any-none p ys (λ x m. h x (or_right (x == y) _ m)))

any-fewer : (p : ℕ → Bool) (xs ys : List ℕ) → ((x : ℕ) → member x xs ≡ member x ys) → list_any p ys ≡ false → list_any p xs ≡ false
any-fewer p xs ys same none =
    any-none p xs (λ x m. false_from_ne_true (p x) (λ k. both_ways (list_any p ys) none (any-member p x ys (sym (same x) ∙ m) k)))

-- lists with the same members pass a test alike
pub any-members : (p : ℕ → Bool) (xs ys : List ℕ) → ((x : ℕ) → member x xs ≡ member x ys) → list_any p xs ≡ list_any p ys
any-members p xs ys same = same-ways (list_any p xs) (list_any p ys) (any-fewer p xs ys same) (any-fewer p ys xs (λ x. sym (same x)))

or-three : (a b c : Bool) → (a || (b || c)) ≡ ((a || b) || c)
or-three true b c = refl
or-three false b c = refl

pub member-append : (x : ℕ) (xs ys : List ℕ) → member x (xs ++ ys) ≡ (member x xs || member x ys)
member-append x [] ys = refl
member-append x (y ∷ xs) ys = ap (λ b. (x == y) || b) (member-append x xs ys) ∙ or-three (x == y) (member x xs) (member x ys)

-- ---- no number stands twice
abbrev pub Once : List ℕ → Type 0
Once [] = Unit {0}
Once (x ∷ xs) = (member x xs ≡ false) × Once xs

apart : (x : ℕ) (xs : List ℕ) → member x xs ≡ false → AllByRecursion (λ y. (x == y) ≡ false) xs
apart x [] h = tt
apart x (y ∷ ys) h = (or-first _ _ h, apart x ys (or-second (x == y) _ h))

pub once-distinct : (xs : List ℕ) → Once xs → IsDistinct ◌==◌ xs
unfolding IsDistinct
once-distinct [] h = tt
once-distinct (x ∷ xs) h = (apart x xs h.0, once-distinct xs h.1)

pub once-append : (xs ys : List ℕ) → Once xs → Once ys → ((y : ℕ) → member y ys ≡ true → member y xs ≡ false) → Once (xs ++ ys)
once-append [] ys h k other = k
once-append (x ∷ xs) ys h k other = (
  member-append x xs ys ∙ ap₂ ◌||◌ h.0 (false_from_ne_true (member x ys) (λ m. both_ways (x == x) (or-first _ _ (other x m)) (same_number x))),
  once-append xs ys h.1 k (λ y m. or-second (y == x) _ (other y m)),
)
