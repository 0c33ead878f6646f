-- Lists of different ids, gone through place by place.
use Rattle.std.proofs.Common.{◌≡◌, refl, ◌∙◌, ap, ap₂, ℕ, zero, suc, ◌<◌, true, false, ◌&&◌, ◌||◌, eqb, List, [], ◌∷◌, length, get_or, take, arith, ne_eqb}
use Rattle.std.proofs.lemmas.List.{get_or_default}
use Rattle.std.proofs.Math.Seq.{take-suc}
use Rattle.std.specs.List.{list_any}
use Rattle.std.specs.Prelude.{Result, Ok, Err, OnOk}
use Rattle.zx_model.specs.Bits.{xor, member}
use Rattle.zx_calculus.specs.Graph.{Distinct}
use Rattle.zx_calculus.proofs.Booleans.{or-apart, or-false, and-false}
use Rattle.zx_calculus.proofs.Ids.{by_equal, eqb_comm, member-here, member-there, member-append, apart_of_member}

-- a fact that follows where a call went well
pub on_ok : {A B P Q : Type 0} (r : Result A B) → (P → Q) → OnOk r P → OnOk r Q
on_ok (Ok x) f h = f h
on_ok (Err e) f h = h

pub member-get_or : (xs : List ℕ) (i : ℕ) → i < length xs → member (get_or xs i 0) xs ≡ true
member-get_or [] i h = absurd (omega arith)
member-get_or (x ∷ xs) zero h = member-here x xs
member-get_or (x ∷ xs) (suc i) h = member-there _ x xs (member-get_or xs i (omega arith))

-- the id at a place isn't among those before it
pub fresh_next : (xs : List ℕ) (i : ℕ) → Distinct xs → i < length xs → member (get_or xs i 0) (take i xs) ≡ false
fresh_next [] i d lt = absurd (omega arith)
fresh_next (x ∷ xs) zero d lt = refl
fresh_next (x ∷ xs) (suc i) d lt =
    let within : i < length xs = omega arith in
    ap₂ (λ a b. a || b)
    (ne_eqb (get_or xs i 0) x (apart_of_member (get_or xs i 0) x xs (member-get_or xs i within) d.0))
    (fresh_next xs i d.1 within)

-- one more of them
pub member-grown : (xs : List ℕ) (i p : ℕ) → Distinct xs → i < length xs →
    member p (take (suc i) xs) ≡ xor (member p (take i xs)) (eqb p (get_or xs i 0))
member-grown xs i p d lt =
    ap (member p) (take-suc xs i 0 lt) ∙ member-append p (take i xs) (get_or xs i 0 ∷ [])
    ∙ ap (λ b. member p (take i xs) || b) (or-false (eqb p (get_or xs i 0))) ∙ or-apart (member p (take i xs))
    (eqb p (get_or xs i 0)) apart
  where
    apart : (member p (take i xs) && eqb p (get_or xs i 0)) ≡ false
    apart =
        by_equal p (get_or xs i 0) (λ t e. ap (λ q. member q (take i xs) && eqb p (get_or xs i 0)) e
        ∙ ap (λ b. b && eqb p (get_or xs i 0)) (fresh_next xs i d lt))
        (λ f n. ap (λ b. member p (take i xs) && b) f ∙ and-false (member p (take i xs)))

-- what the code reads at a place
pub at_place : (xs row : List ℕ) (i x : ℕ) → row ≡ xs → i < length xs → x ≡ get_or row i x → x ≡ get_or xs i 0
at_place xs row i x same within is = is ∙ ap (λ l. get_or l i x) same ∙ get_or_default xs i x 0 within

pub member-at_place : (xs : List ℕ) (i x : ℕ) → i < length xs → x ≡ get_or xs i 0 → member x xs ≡ true
member-at_place xs i x within is = ap (λ y. member y xs) is ∙ member-get_or xs i within

-- whether some element equals an id
pub any-member : (u : ℕ) (xs : List ℕ) → list_any (λ x. eqb x u) xs ≡ member u xs
any-member u [] = refl
any-member u (x ∷ xs) = ap₂ (λ a b. a || b) (eqb_comm x u) (any-member u xs)
