-- Functions of basis states whose differences end: changing so many bits in turn changes nothing modulo a turn. Low weights decide them.
use Rattle.std.proofs.Common.{◌≡◌, ℕ, zero, suc, ◌+◌, ◌*◌, ◌%◌, ◌<◌, Bool, true, false, List, [], ◌∷◌, length, refl, sym, ap, ◌∙◌, arith, zero-add}
use Rattle.std.proofs.Math.Nat.{suc_inj}
use Rattle.std.proofs.lemmas.List.Sums.{sum_by-cons}
use Rattle.std.specs.Prelude.{if◌then◌else◌}
use Rattle.zx_model.specs.Phase.{turn}
use Rattle.zx_model.specs.Bits.{xor}
use Rattle.zx_identities.specs.Polynomials.{weight}

-- ---- differences
-- the change that the first bit makes, modulo a turn
abbrev pub change : (List Bool → ℕ) → List Bool → ℕ
change f x = f (true ∷ x) + 15 * f (false ∷ x)

-- where d bits of n are changed in turn, the alternating sum is whole turns
abbrev pub EndsAfter : ℕ → ℕ → (List Bool → ℕ) → Type 0
EndsAfter zero n f = (x : List Bool) → length x ≡ n → f x % turn ≡ 0
EndsAfter (suc d) zero f = Unit {0}
EndsAfter (suc d) (suc n) f = EndsAfter (suc d) n (λ x. f (false ∷ x)) × EndsAfter d n (change f)

no_change : (a b : ℕ) → a % turn ≡ 0 → b % turn ≡ 0 → (a + 15 * b) % turn ≡ 0
no_change a b e f = omega arith

unchanged : (a b : ℕ) → b % turn ≡ 0 → (a + 15 * b) % turn ≡ 0 → a % turn ≡ 0
unchanged a b e f = omega arith

pub weight-set : (x : List Bool) → weight (true ∷ x) ≡ 1 + weight x
weight-set x = sum_by-cons (λ (b : Bool). if b then 1 else 0) true x

pub weight-unset : (x : List Bool) → weight (false ∷ x) ≡ weight x
weight-unset x = sum_by-cons (λ (b : Bool). if b then 1 else 0) false x ∙ zero-add (weight x)

few_set : (x : List Bool) (d : ℕ) → weight x < d → weight (true ∷ x) < suc d
few_set x d few = let e : weight (true ∷ x) ≡ 1 + weight x = weight-set x in omega arith

few_unset : (x : List Bool) (d : ℕ) → weight x < d → weight (false ∷ x) < suc d
few_unset x d few = let e : weight (false ∷ x) ≡ weight x = weight-unset x in omega arith

still_few : (x : List Bool) (d : ℕ) → weight x < d → weight (false ∷ x) < d
still_few x d few = let e : weight (false ∷ x) ≡ weight x = weight-unset x in omega arith

pub decided : (d n : ℕ) (f : List Bool → ℕ) → EndsAfter d n f → ((x : List Bool) → length x ≡ n → weight x < d → f x % turn ≡ 0)
    → (x : List Bool) → length x ≡ n → f x % turn ≡ 0
decided zero n f ends light x l = ends x l
decided (suc d) zero f ends light [] l = light [] l (omega arith)
decided (suc d) zero f ends light (b ∷ x) l = absurd (omega arith)
decided (suc d) (suc n) f ends light [] l = absurd (omega arith)
decided (suc d) (suc n) f ends light (false ∷ x) l =
    decided (suc d) n (λ y. f (false ∷ y)) ends.0 (λ y ly few. light (false ∷ y) (ap suc ly) (still_few y (suc d) few)) x (suc_inj l)
decided (suc d) (suc n) f ends light (true ∷ x) l =
    unchanged (f (true ∷ x)) (f (false ∷ x))
    (decided (suc d) n (λ y. f (false ∷ y)) ends.0 (λ y ly few. light (false ∷ y) (ap suc ly) (still_few y (suc d) few)) x (suc_inj l))
    (decided d n (change f) ends.1
    (λ y ly few.
    no_change (f (true ∷ y)) (f (false ∷ y)) (light (true ∷ y) (ap suc ly) (few_set y d few)) (light (false ∷ y) (ap suc ly) (few_unset y d few)))
    x (suc_inj l))

-- ---- equal functions, sums, multiples
same_change : (a b c d : ℕ) → a % turn ≡ c % turn → b % turn ≡ d % turn → (a + 15 * b) % turn ≡ (c + 15 * d) % turn
same_change a b c d e f = omega arith

pub ends-same : (d n : ℕ) (f g : List Bool → ℕ) → ((x : List Bool) → length x ≡ n → f x % turn ≡ g x % turn) → EndsAfter d n f → EndsAfter d n g
ends-same zero n f g same ends = λ x l. sym (same x l) ∙ ends x l
ends-same (suc d) zero f g same ends = tt
ends-same (suc d) (suc n) f g same ends = (
  ends-same (suc d) n (λ x. f (false ∷ x)) (λ x. g (false ∷ x)) (λ x l. same (false ∷ x) (ap suc l)) ends.0,
  ends-same d n (change f) (change g)
      (λ x l. same_change (f (true ∷ x)) (f (false ∷ x)) (g (true ∷ x)) (g (false ∷ x)) (same (true ∷ x) (ap suc l)) (same (false ∷ x) (ap suc l)))
      ends.1,
)

sum_none : (a b : ℕ) → a % turn ≡ 0 → b % turn ≡ 0 → (a + b) % turn ≡ 0
sum_none a b e f = omega arith

changes_add : (a b c d : ℕ) → ((a + 15 * b) + (c + 15 * d)) % turn ≡ ((a + c) + 15 * (b + d)) % turn
changes_add a b c d = omega arith

pub ends-add : (d n : ℕ) (f g : List Bool → ℕ) → EndsAfter d n f → EndsAfter d n g → EndsAfter d n (λ x. f x + g x)
ends-add zero n f g one other = λ x l. sum_none (f x) (g x) (one x l) (other x l)
ends-add (suc d) zero f g one other = tt
ends-add (suc d) (suc n) f g one other = (
  ends-add (suc d) n (λ x. f (false ∷ x)) (λ x. g (false ∷ x)) one.0 other.0,
  ends-same d n (λ x. change f x + change g x) (change (λ x. f x + g x))
      (λ x l. changes_add (f (true ∷ x)) (f (false ∷ x)) (g (true ∷ x)) (g (false ∷ x)))
      (ends-add d n (change f) (change g) one.1 other.1),
)

opposite_none : (a : ℕ) → a % turn ≡ 0 → (15 * a) % turn ≡ 0
opposite_none a e = omega arith

opposite_change : (a b : ℕ) → (15 * (a + 15 * b)) % turn ≡ (15 * a + 15 * (15 * b)) % turn
opposite_change a b = omega arith

-- 15 stands for -1
pub ends-opposite : (d n : ℕ) (f : List Bool → ℕ) → EndsAfter d n f → EndsAfter d n (λ x. 15 * f x)
ends-opposite zero n f ends = λ x l. opposite_none (f x) (ends x l)
ends-opposite (suc d) zero f ends = tt
ends-opposite (suc d) (suc n) f ends = (
  ends-opposite (suc d) n (λ x. f (false ∷ x)) ends.0,
  ends-same d n (λ x. 15 * change f x) (change (λ x. 15 * f x)) (λ x l. opposite_change (f (true ∷ x)) (f (false ∷ x))) (ends-opposite d n (change f) ends.1),
)

-- ---- bits
-- each bit turns the value, or keeps it
abbrev pub IsAffine : ℕ → (List Bool → Bool) → Type 0
IsAffine zero p = Unit {0}
IsAffine (suc n) p = IsAffine n (λ x. p (false ∷ x)) × ((b : Bool) × ((x : List Bool) → length x ≡ n → p (true ∷ x) ≡ xor b (p (false ∷ x))))

-- how a constant and a multiple of a bit change: a + k*p to k - 2*k*p, which is a constant and a multiple again
abbrev pub Fades : ℕ → ℕ → ℕ → Type 0
Fades zero a k = (a % turn ≡ 0) × (k % turn ≡ 0)
Fades (suc d) a k = Fades d k (14 * k)

fades-none : (d : ℕ) → Fades d 0 0
fades-none zero = (refl, refl)
fades-none (suc d) = fades-none d

pub ends-none : (d n : ℕ) → EndsAfter d n (λ x. 0)
ends-none zero n = λ x l. refl
ends-none (suc d) zero = tt
ends-none (suc d) (suc n) = (ends-none (suc d) n, ends-none d n)

faded : (a k : ℕ) (p : Bool) → a % turn ≡ 0 → k % turn ≡ 0 → (a + (if p then k else 0)) % turn ≡ 0
faded a k true e f = omega arith
faded a k false e f = omega arith

kept : (a k : ℕ) (p : Bool) → (0 + (if p then 0 else 0)) % turn ≡ ((a + (if p then k else 0)) + 15 * (a + (if p then k else 0))) % turn
kept a k true = omega arith
kept a k false = omega arith

toggled : (a k : ℕ) (p : Bool) → (k + (if p then 14 * k else 0)) % turn ≡ ((a + (if xor true p then k else 0)) + 15 * (a + (if p then k else 0))) % turn
toggled a k true = omega arith
toggled a k false = omega arith

-- one step: whatever the first bit does, the change is of the same form
change_affine : (d n a k : ℕ) (p : List Bool → Bool) (b : Bool) → ((x : List Bool) → length x ≡ n → p (true ∷ x) ≡ xor b (p (false ∷ x)))
    → EndsAfter d n (λ x. k + (if p (false ∷ x) then 14 * k else 0)) → EndsAfter d n (λ x. 0 + (if p (false ∷ x) then 0 else 0))
    → EndsAfter d n (change (λ x. a + (if p x then k else 0)))
change_affine d n a k p true turns ends none =
    ends-same d n (λ x. k + (if p (false ∷ x) then 14 * k else 0)) (change (λ x. a + (if p x then k else 0)))
    (λ x l.
    toggled a k (p (false ∷ x))
    ∙ ap (λ b. ((a + (if b then k else 0)) + 15 * (a + (if p (false ∷ x) then k else 0))) % turn) (sym (turns x l)))
    ends
change_affine d n a k p false turns ends none =
    ends-same d n (λ x. 0 + (if p (false ∷ x) then 0 else 0)) (change (λ x. a + (if p x then k else 0)))
    (λ x l.
    kept a k (p (false ∷ x))
    ∙ ap (λ b. ((a + (if b then k else 0)) + 15 * (a + (if p (false ∷ x) then k else 0))) % turn) (sym (turns x l)))
    none

pub ends-affine : (d n a k : ℕ) (p : List Bool → Bool) → IsAffine n p → Fades d a k → EndsAfter d n (λ x. a + (if p x then k else 0))
ends-affine zero n a k p affine fades = λ x l. faded a k (p x) fades.0 fades.1
ends-affine (suc d) zero a k p affine fades = tt
ends-affine (suc d) (suc n) a k p affine fades = (
  ends-affine (suc d) n a k (λ x. p (false ∷ x)) affine.0 fades,
  change_affine d n a k p affine.1.0 affine.1.1
      (ends-affine d n k (14 * k) (λ x. p (false ∷ x)) affine.0 fades)
      (ends-affine d n 0 0 (λ x. p (false ∷ x)) affine.0 (fades-none d)),
)

-- a bit's phase alone
pub ends-phase : (d n k : ℕ) (p : List Bool → Bool) → IsAffine n p → Fades d 0 k → EndsAfter d n (λ x. if p x then k else 0)
ends-phase d n k p affine fades =
    ends-same d n (λ x. 0 + (if p x then k else 0)) (λ x. if p x then k else 0) (λ x l. ap (λ j. j % turn) (zero-add (if p x then k else 0)))
    (ends-affine d n 0 k p affine fades)

-- where one bit is changed, constants end
pub ends-constant : (d n k : ℕ) → EndsAfter (suc d) n (λ x. k)
ends-constant d zero k = tt
ends-constant d (suc n) k =
    (ends-constant d n k, ends-same d n (λ x. 0) (λ x. k + 15 * k) (λ x l. whole k) (ends-none d n))
  where
    whole : (k : ℕ) → 0 % turn ≡ (k + 15 * k) % turn
    whole k = omega arith
