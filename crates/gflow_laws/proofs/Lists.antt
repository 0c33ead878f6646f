-- Facts about lists of numbers as sets, and about the order that a list gives.
use Rattle.std.proofs.Common.{◌≡◌, ◌≢◌, refl, sym, ◌∙◌, ap, ap₂, subst, ⊎_elim, ℕ, Bool, true, false, cond, not, ◌&&◌, ◌||◌, eqb, List, [], ◌∷◌, ◌++◌, filter, eq-eqb, ne_eqb}
use Rattle.std.proofs.lemmas.Bool.{cases_Bool, cases_eq, true≢false, eqb-false, or_parts, or_from}
use Rattle.zx_model.specs.Bits.{xor, member}
use Rattle.zx_calculus.specs.Graph.{in_order, different}
pub use Rattle.zx_calculus.proofs.Ids.{member-append}
use Rattle.zx_calculus.proofs.Ids.{member-filter}
use Rattle.zx_calculus.proofs.Kept.{both, different-all}
use Rattle.gflow_laws.specs.Flow.{is_in, is_later}
use Rattle.gflow_laws.specs.Tables.{symmetric_difference}
use Rattle.gflow_laws.specs.Correcting.{Distinct, Strict}
use Rattle.gflow_laws.proofs.Linear.{removed}

pub in_order-from : (vs : List ℕ) → Distinct vs → in_order different vs ≡ true
in_order-from [] d = refl
in_order-from (v ∷ vs) d = both _ _ (different-all v vs d.0) (in_order-from vs d.1)

one_of_two : (a b : Bool) → ((a && not b) || (b && not a)) ≡ xor a b
one_of_two true true = refl
one_of_two true false = refl
one_of_two false true = refl
one_of_two false false = refl

pub is_in-symmetric_difference : (left right : List ℕ) (w : ℕ) → is_in (symmetric_difference left right) w ≡ xor (is_in left w) (is_in right w)
is_in-symmetric_difference left right w =
    member-append w (filter (λ x. not (is_in right x)) left) (filter (λ x. not (is_in left x)) right)
    ∙ ap₂ (λ a b. a || b) (member-filter (λ x. not (is_in right x)) left w) (member-filter (λ x. not (is_in left x)) right w)
    ∙ one_of_two (is_in left w) (is_in right w)

pub is_in-one : (u w : ℕ) → is_in (u ∷ []) w ≡ eqb w u
is_in-one u w = ⊎_elim (λ e. ap (λ b. b || false) e ∙ sym e) (λ e. ap (λ b. b || false) e ∙ sym e) (cases_Bool (eqb w u))

no_self : (e t : Bool) → (e ≡ false → t ≡ false) → (not e && (e || t)) ≡ false
no_self true t none = refl
no_self false t none = none refl

is_later-irreflexive : (xs : List ℕ) (v : ℕ) → is_later xs v v ≡ false
is_later-irreflexive [] v = refl
is_later-irreflexive (x ∷ xs) v = no_self (eqb v x) (is_later xs v v) (λ _. is_later-irreflexive xs v)

passed_on : (eu ev ew t r q : Bool) → (not ev && (eu || t)) ≡ true → (not ew && (ev || r)) ≡ true → (t ≡ true → r ≡ true → q ≡ true) → (not ew && (eu || q)) ≡ true
passed_on eu true ew t r q e f carry = absurd (true≢false (sym e))
passed_on eu false true t r q e f carry = absurd (true≢false (sym f))
passed_on true false false t r q e f carry = refl
passed_on false false false t r q e f carry = carry e f

is_later-transitive : (xs : List ℕ) (u v w : ℕ) → is_later xs u v ≡ true → is_later xs v w ≡ true → is_later xs u w ≡ true
is_later-transitive [] u v w e f = absurd (true≢false (sym e))
is_later-transitive (x ∷ xs) u v w e f =
    passed_on (eqb u x) (eqb v x) (eqb w x) (is_later xs u v) (is_later xs v w) (is_later xs u w) e f (is_later-transitive xs u v w)

-- coming after in a list is a strict order
pub is_later-strict : (xs : List ℕ) → Strict (is_later xs)
is_later-strict xs = record { transitive = is_later-transitive xs; irreflexive = is_later-irreflexive xs }

carried : (ew ev a b : Bool) → (a ≡ true → b ≡ true) → (not ew && (ev || a)) ≡ true → (not ew && (ev || b)) ≡ true
carried true ev a b keeps e = e
carried false true a b keeps e = refl
carried false false a b keeps e = keeps e

pub is_later-append : (xs ys : List ℕ) (v w : ℕ) → is_later xs v w ≡ true → is_later (xs ++ ys) v w ≡ true
is_later-append [] ys v w e = absurd (true≢false (sym e))
is_later-append (x ∷ xs) ys v w e = carried (eqb w x) (eqb v x) (is_later xs v w) (is_later (xs ++ ys) v w) (is_later-append xs ys v w) e

rest_of : (ew ev a : Bool) → ev ≡ false → (not ew && (ev || a)) ≡ true → a ≡ true
rest_of true ev a f e = absurd (true≢false (sym e))
rest_of false ev a f e = sym (ap (λ b. b || a) f) ∙ e

pub is_later-removed : (u : ℕ) (xs : List ℕ) (v w : ℕ) → v ≢ u → is_later xs v w ≡ true → is_later (removed u xs) v w ≡ true
is_later-removed u [] v w ne e = e
is_later-removed u (x ∷ xs) v w ne e = ⊎_elim
    (λ f. subst (λ b. is_later (cond b (removed u xs) (x ∷ removed u xs)) v w ≡ true) (sym (eq-eqb u x f))
    (is_later-removed u xs v w ne (rest_of (eqb w x) (eqb v x) (is_later xs v w) (ne_eqb v x (λ g. ne (g ∙ sym f))) e)))
    (λ n. subst (λ b. is_later (cond b (removed u xs) (x ∷ removed u xs)) v w ≡ true) (sym (ne_eqb u x n))
    (carried (eqb w x) (eqb v x) (is_later xs v w) (is_later (removed u xs) v w) (is_later-removed u xs v w ne) e))
    (cases_eq u x)

found : (ew ev a : Bool) → ew ≡ false → (ev ≡ false → a ≡ true) → (not ew && (ev || a)) ≡ true
found ew true a f g = ap (λ b. not b && true) f
found ew false a f g = ap₂ (λ b c. not b && c) f (g refl)

-- whatever isn't in the list comes after all that is
pub is_later-outside : (xs : List ℕ) (v w : ℕ) → member v xs ≡ true → member w xs ≡ false → is_later xs v w ≡ true
is_later-outside [] v w there out = there
is_later-outside (x ∷ xs) v w there out =
    found (eqb w x) (eqb v x) (is_later xs v w) (or_parts (eqb w x) (member w xs) out).0
    (λ f. is_later-outside xs v w (sym (ap (λ b. b || member v xs) f) ∙ there) (or_parts (eqb w x) (member w xs) out).1)

-- one more at the end
pub Distinct-append : (xs : List ℕ) (b : ℕ) → Distinct xs → member b xs ≡ false → Distinct (xs ++ b ∷ [])
Distinct-append [] b d out = (refl, tt)
Distinct-append (x ∷ xs) b d out = (
  member-append x xs (b ∷ []) ∙ or_from (member x xs) (member x (b ∷ [])) d.0
      (is_in-one b x ∙ ne_eqb x b (λ e. eqb-false b x (or_parts (eqb b x) (member b xs) out).0 (sym e))),
  Distinct-append xs b d.1 (or_parts (eqb b x) (member b xs) out).1,
)
