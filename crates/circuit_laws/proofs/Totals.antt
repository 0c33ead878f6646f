-- Sums over all lists of bits: with a factor, at lists of their length alone, and against one of them.
use Rattle.std.proofs.Common.{◌≡◌, sym, ◌∙◌, ap, ap₂, refl, ℕ, zero as nought, suc, Bool, true, false, List, [], ◌∷◌, map, length}
use Rattle.zx_model.specs.Number.{Number, zero, add, mul}
use Rattle.zx_model.specs.Sums.{total, all_labels, sum_over}
use Rattle.zx_model.proofs.Ring.{expand, mul-zero, mul-add, mul_comm, add-zero, zero-add}
use Rattle.zx_model.proofs.SumLemmas.{total-all_labels, total-map_add, sum_over_add, sum_over_mul, sum_over_same}
use Rattle.zx_gates.specs.Maps.{amp}

pub total-map_mul : (c : Number) (f : List Bool → Number) (hs : List (List Bool)) →
    total (map (λ h. mul c (f h)) hs) ≡ mul c (total (map f hs))
total-map_mul c f [] = sym (mul-zero c)
total-map_mul c f (h ∷ hs) = ap (add (mul c (f h))) (total-map_mul c f hs) ∙ sym (mul-add c (f h) (total (map f hs)))

-- the sum over one more bit, as two sums
pub total_split : (n : ℕ) (f : List Bool → Number) →
    total (map f (all_labels (suc n))) ≡ add (total (map (λ hs. f (false ∷ hs)) (all_labels n))) (total (map (λ hs. f (true ∷ hs)) (all_labels n)))
total_split n f = total-all_labels n f ∙ total-map_add (λ hs. f (false ∷ hs)) (λ hs. f (true ∷ hs)) (all_labels n)

-- functions that agree at lists of n bits
pub total_same : (n : ℕ) (f g : List Bool → Number) → ((z : List Bool) → length z ≡ n → f z ≡ g z) →
    total (map f (all_labels n)) ≡ total (map g (all_labels n))
total_same nought f g e = ap (λ t. add t zero) (e [] refl)
total_same (suc n) f g e =
    total_split n f
    ∙ ap₂ add (total_same n (λ hs. f (false ∷ hs)) (λ hs. g (false ∷ hs)) (λ z l. e (false ∷ z) (ap (λ k. suc k) l)))
    (total_same n (λ hs. f (true ∷ hs)) (λ hs. g (true ∷ hs)) (λ z l. e (true ∷ z) (ap (λ k. suc k) l)))
    ∙ sym (total_split n g)

pub total_zero : (hs : List (List Bool)) → total (map (λ h. zero) hs) ≡ zero
total_zero [] = refl
total_zero (h ∷ hs) = ap (add zero) (total_zero hs) ∙ add-zero zero

-- against one list, by the entries of the identity
pub total-amp : (f : List Bool → Number) (y : List Bool) →
    total (map (λ z. mul (f z) (amp [] z y)) (all_labels (length y))) ≡ f y
total-amp f [] = simp expand
total-amp f (b ∷ y) =
    total_split (length y) (λ z. mul (f z) (amp [] z (b ∷ y)))
    ∙ at b (total-amp (λ z. f (false ∷ z)) y) (total-amp (λ z. f (true ∷ z)) y)
  where
    none : (c : Bool) → total (map (λ z. mul (f (c ∷ z)) zero) (all_labels (length y))) ≡ zero
    none c = ap (λ (g : List Bool → Number). total (map g (all_labels (length y)))) (λ i z. mul-zero (f (c ∷ z)) i) ∙ total_zero (all_labels (length y))

    at : (b : Bool) → total (map (λ z. mul (f (false ∷ z)) (amp [] z y)) (all_labels (length y))) ≡ f (false ∷ y)
        → total (map (λ z. mul (f (true ∷ z)) (amp [] z y)) (all_labels (length y))) ≡ f (true ∷ y)
        → add (total (map (λ z. mul (f (false ∷ z)) (amp [] (false ∷ z) (b ∷ y))) (all_labels (length y))))
        (total (map (λ z. mul (f (true ∷ z)) (amp [] (true ∷ z) (b ∷ y))) (all_labels (length y)))) ≡ f (b ∷ y)
    at false e e' = ap₂ add e (none true) ∙ add-zero (f (false ∷ y))
    at true e e' = ap₂ add (none false) e' ∙ zero-add (f (true ∷ y))

sum_over-zero : (vs : List ℕ) → sum_over vs (λ label. zero) ≡ zero
sum_over-zero vs = sym (sum_over_same vs (λ label. mul zero zero) (λ label. zero) (λ label. mul-zero zero)) ∙ sum_over_mul zero vs (λ label. zero) ∙ mul_comm zero _ ∙ mul-zero _

-- a sum over labels inside one over lists of bits
pub total-sum_over : (vs : List ℕ) (g : List Bool → (ℕ → Bool) → Number) (f : List Bool → Number) (hs : List (List Bool)) →
    total (map (λ y. mul (sum_over vs (g y)) (f y)) hs) ≡ sum_over vs (λ label. total (map (λ y. mul (g y label) (f y)) hs))
total-sum_over vs g f [] = sym (sum_over-zero vs)
total-sum_over vs g f (y ∷ ys) =
    ap₂ add
    (mul_comm (sum_over vs (g y)) (f y) ∙ sym (sum_over_mul (f y) vs (g y)) ∙ sum_over_same vs _ _ (λ label. mul_comm (f y) (g y label)))
    (total-sum_over vs g f ys)
    ∙ sym (sum_over_add vs (λ label. mul (g y label) (f y)) (λ label. total (map (λ z. mul (g z label) (f z)) ys)))
