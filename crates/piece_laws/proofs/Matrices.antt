-- What gates make of a function of the bits behind them, as a product with their matrix.
use Rattle.std.proofs.Common.{◌≡◌, ℕ, Bool, true, false, List, [], ◌∷◌, ◌++◌, map, length, set, refl, sym, ap, ap₂, ◌∙◌}
use Rattle.std.specs.Prelude.{if◌then◌else◌}
use Rattle.std.proofs.lemmas.List.{length-set}
use Rattle.zx_model.specs.Number.{Number, zero, one, add, mul}
use Rattle.zx_model.specs.Sums.{total, all_labels}
use Rattle.zx_model.specs.Proportional.{Proportional}
use Rattle.zx_model.proofs.Ring.{expand, mul_assoc, mul_comm}
use Rattle.zx_gates.specs.Maps.{amp, acts, same_bits}
use Rattle.zx_gates.specs.declared.gate.Gate.{Gate}
use Rattle.zx_gates.proofs.MapLemmas.{amp-acts, acts-append}
use Rattle.zx_gates.proofs.Multiples.{TakesOutFactors, act-factor}
use Rattle.zx_peephole.proofs.Acting.{Spreads, spreads}
use Rattle.circuit_laws.proofs.Totals.{total-map_mul, total_same, total-amp}

pub acts-factor : (n : ℕ) (gates : List Gate) → TakesOutFactors n (acts gates)
acts-factor n [] d f g e x l = e x l
acts-factor n (gate ∷ gates) d f g e x l =
    act-factor n gate d (acts gates f) (acts gates g) (λ z lz. acts-factor n gates d f g e z lz) x l

same_bits_comm : (x y : List Bool) → same_bits x y ≡ same_bits y x
same_bits_comm [] [] = refl
same_bits_comm [] (b ∷ y) = refl
same_bits_comm (a ∷ x) [] = refl
same_bits_comm (true ∷ x) (true ∷ y) = same_bits_comm x y
same_bits_comm (true ∷ x) (false ∷ y) = refl
same_bits_comm (false ∷ x) (true ∷ y) = refl
same_bits_comm (false ∷ x) (false ∷ y) = same_bits_comm x y

joined_step : (v w s t r a b : Number) → add (mul v (add (mul s r) a)) (mul w (add (mul t r) b)) ≡ add (mul (add (mul v s) (mul w t)) r) (add (mul v a) (mul w b))
joined_step v w s t r a b = simp expand

-- two sums with their weights are one
joined : (v w : Number) (s t f : List Bool → Number) (hs : List (List Bool)) →
    add (mul v (total (map (λ y. mul (s y) (f y)) hs))) (mul w (total (map (λ y. mul (t y) (f y)) hs)))
    ≡ total (map (λ y. mul (add (mul v (s y)) (mul w (t y))) (f y)) hs)
joined v w s t f [] = simp expand
joined v w s t f (h ∷ hs) =
    joined_step v w (s h) (t h) (f h) _ _ ∙ ap (add (mul (add (mul v (s h)) (mul w (t h))) (f h))) (joined v w s t f hs)

-- what gates make of a function is the product of their matrix with it
pub acts-total : (n : ℕ) (gates : List Gate) (f : List Bool → Number) (x : List Bool) → length x ≡ n →
    acts gates f x ≡ total (map (λ y. mul (amp gates x y) (f y)) (all_labels n))
acts-total n [] f x l =
    sym (total-amp f x)
    ∙ ap (λ m. total (map (λ z. mul (f z) (amp [] z x)) (all_labels m))) l
    ∙ ap (λ (g : List Bool → Number). total (map g (all_labels n)))
    (λ i z. (mul_comm (f z) (amp [] z x) ∙ ap (λ b. mul (if b then one else zero) (f z)) (same_bits_comm z x)) i)
acts-total n (gate ∷ gates) f x l =
    let s : Spreads gate = spreads gate in
    s.is (acts gates f) x
    ∙ ap₂ (λ a b. add (mul (s.weight x false) a) (mul (s.weight x true) b))
    (acts-total n gates f (set x s.place false) (length-set x s.place false ∙ l))
    (acts-total n gates f (set x s.place true) (length-set x s.place true ∙ l))
    ∙ joined (s.weight x false) (s.weight x true) (amp gates (set x s.place false)) (amp gates (set x s.place true)) f (all_labels n)
    ∙ ap (λ (g : List Bool → Number). total (map g (all_labels n))) (λ i y. mul (sym (s.is (λ z. amp gates z y) x) i) (f y))

-- a factor of the matrix is one of what gates make of a function
scaled-total : (n : ℕ) (gates : List Gate) (c : Number) (f : List Bool → Number) (x : List Bool) → length x ≡ n →
    mul c (acts gates f x) ≡ total (map (λ y. mul (mul c (amp gates x y)) (f y)) (all_labels n))
scaled-total n gates c f x l =
    ap (mul c) (acts-total n gates f x l)
    ∙ sym (total-map_mul c (λ y. mul (amp gates x y) (f y)) (all_labels n))
    ∙ ap (λ (g : List Bool → Number). total (map g (all_labels n))) (λ i y. sym (mul_assoc c (amp gates x y) (f y)) i)

-- d times a matrix is e times another, on n bits
abbrev pub AreMultiples : ℕ → Number → Number → (List Bool → List Bool → Number) → (List Bool → List Bool → Number) → Type 0
AreMultiples n d e f g = (x y : List Bool) → length x ≡ n → length y ≡ n → mul d (f x y) ≡ mul e (g x y)

-- then their gates do the same to each function, up to the two numbers
pub multiples-acts : (n : ℕ) (gates others : List Gate) (d e : Number) → AreMultiples n d e (amp gates) (amp others) → (f : List Bool → Number)
    → (x : List Bool) → length x ≡ n → mul d (acts gates f x) ≡ mul e (acts others f x)
multiples-acts n gates others d e same f x l =
    scaled-total n gates d f x l
    ∙ total_same n _ _ (λ y ly. ap (λ t. mul t (f y)) (same x y l ly))
    ∙ sym (scaled-total n others e f x l)

-- gates whose matrices are proportional do the same to each function, up to the two numbers
pub proportional-acts : (n : ℕ) (gates others : List Gate) (p : Proportional n n (amp gates) (amp others)) (f : List Bool → Number) (x : List Bool)
    → length x ≡ n → mul p.left (acts gates f x) ≡ mul p.right (acts others f x)
proportional-acts n gates others p = multiples-acts n gates others p.left p.right p.equal

-- the map of a list of which a part is looked at
part : (before middle after : List Gate) (x y : List Bool) →
    amp (before ++ middle ++ after) x y ≡ acts before (acts middle (acts after (λ z. amp [] z y))) x
part before middle after x y =
    amp-acts (before ++ middle ++ after) x y
    ∙ (λ i. (acts-append (before ++ middle) after (λ z. amp [] z y) ∙ acts-append before middle (acts after (λ z. amp [] z y))) i x)

pub replaced_multiples : (n : ℕ) (before old new after : List Gate) (d e : Number) → AreMultiples n d e (amp old) (amp new)
    → AreMultiples n d e (amp (before ++ old ++ after)) (amp (before ++ new ++ after))
replaced_multiples n before old new after d e same = λ x y lx ly.
    ap (mul d) (part before old after x y)
    ∙ through (acts after (λ z. amp [] z y)) x lx
    ∙ sym (ap (mul e) (part before new after x y))
  where
    through : (f : List Bool → Number) (x : List Bool) → length x ≡ n → mul d (acts before (acts old f) x) ≡ mul e (acts before (acts new f) x)
    through f x l =
        sym (acts-factor n before d (λ z. mul d (acts old f z)) (acts old f) (λ z lz. refl) x l)
        ∙ acts-factor n before e (λ z. mul d (acts old f z)) (acts new f) (λ z lz. multiples-acts n old new d e same f z lz) x l

pub replaced_map : (n : ℕ) (before old new after : List Gate) → Proportional n n (amp old) (amp new) →
    Proportional n n (amp (before ++ old ++ after)) (amp (before ++ new ++ after))
replaced_map n before old new after p = record {
  left = p.left;
  right = p.right;
  left_nonzero = p.left_nonzero;
  right_nonzero = p.right_nonzero;
  equal = replaced_multiples n before old new after p.left p.right p.equal;
}
