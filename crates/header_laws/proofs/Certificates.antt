-- Maps that are found to be proportional by computing their entries.
use Rattle.std.specs.Prelude.{◌≡◌, ◌≢◌, ◌<◌, ◌==◌, ℕ, zero as nought, suc, Bool, true, false, ◌&&◌, not, List, [], ◌∷◌, length}
use Rattle.std.specs.List.{All}
use Rattle.std.specs.Ordering.{int_eq}
use Rattle.std.proofs.Common.{ltb, sym, ap, ◌∙◌, arith}
use Rattle.std.proofs.lemmas.Bool.{true≢false, ltb-true, not-true}
use Rattle.std.proofs.lemmas.List.Elements.{All-cons}
use Rattle.std.proofs.lemmas.Bool.Decides.{Decides-int_eq, Decides-eqb}
use Rattle.zx_model.specs.Cyclotomic.{Cyclotomic}
use Rattle.zx_model.specs.Number.{Number, zero, mul}
use Rattle.zx_model.specs.Phase.{turn}
use Rattle.zx_model.specs.Proportional.{Proportional}
use Rattle.zx_model.proofs.CyclotomicRing as Cyclotomic
use Rattle.zx_model.proofs.Ring.{same, one-mul}
use Rattle.zx_model.proofs.BitLemmas.{and-left, and-right}
use Rattle.zx_model.proofs.Powers.{root_power-zero}
use Rattle.zx_model.proofs.ProportionalLemmas.{proportional_of_scaled, proportional_trans}
use Rattle.zx_gates.specs.Maps.{amp}
use Rattle.zx_gates.specs.Lowering.{lowered}
use Rattle.zx_gates.specs.ElementaryMaps.{amp_elementary}
use Rattle.zx_gates.specs.Elementary.{IsElementaryGateOn}
use Rattle.zx_gates.specs.declared.elementary.ElementaryGate.{ElementaryGate}
use Rattle.zx_gates.specs.declared.elementary.ElementaryGate.TheVariants.{U, Cx}
use Rattle.zx_gates.proofs.LoweringLemmas.{proportional_lowered}
use Rattle.header_laws.specs.Gates.{Map}
use Rattle.header_laws.proofs.Paths.{paths, paths-amp}

-- elements of Z[w] are compared by their coefficients, and numbers by their components
abbrev equal_cyclotomic : Cyclotomic → Cyclotomic → Bool
equal_cyclotomic a b = int_eq a.c0 b.c0 && (int_eq a.c1 b.c1 && (int_eq a.c2 b.c2 && int_eq a.c3 b.c3))

abbrev pub equal : Number → Number → Bool
equal a b = equal_cyclotomic a.plain b.plain && equal_cyclotomic a.turned b.turned

equal_cyclotomic-is : (a b : Cyclotomic) → equal_cyclotomic a b ≡ true → a ≡ b
equal_cyclotomic-is a b e =
    let f = and-right (int_eq a.c0 b.c0) _ e in
    let g = and-right (int_eq a.c1 b.c1) _ f in
    Cyclotomic.same a b
    ((Decides-int_eq a.c0 b.c0).0 (and-left _ _ e))
    ((Decides-int_eq a.c1 b.c1).0 (and-left _ _ f))
    ((Decides-int_eq a.c2 b.c2).0 (and-left _ _ g))
    ((Decides-int_eq a.c3 b.c3).0 (and-right _ _ g))

equal-is : (a b : Number) → equal a b ≡ true → a ≡ b
equal-is a b e =
    same a b
    (equal_cyclotomic-is a.plain b.plain (and-left _ _ e))
    (equal_cyclotomic-is a.turned b.turned (and-right (equal_cyclotomic a.plain b.plain) _ e))

nonzero : (a : Number) → not (equal a zero) ≡ true → a ≢ zero
nonzero a e z = absurd (true≢false (sym (ap (λ b. equal b zero) z) ∙ not-true (equal a zero) e))

-- what holds of all lists of n bits
abbrev pub on_all : ℕ → (List Bool → Bool) → Bool
on_all nought p = p []
on_all (suc n) p = on_all n (λ x. p (false ∷ x)) && on_all n (λ x. p (true ∷ x))

on_all-each : (n : ℕ) (p : List Bool → Bool) → on_all n p ≡ true → (x : List Bool) → length x ≡ n → p x ≡ true
on_all-each nought p e [] l = e
on_all-each (suc n) p e (false ∷ x) l = on_all-each n (λ x. p (false ∷ x)) (and-left _ _ e) x (omega arith)
on_all-each (suc n) p e (true ∷ x) l = on_all-each n (λ x. p (true ∷ x)) (and-right _ _ e) x (omega arith)
on_all-each _ p e _ l = absurd (omega arith)

-- the gates are on the first n qubits
abbrev is_on : ℕ → ElementaryGate → Bool
is_on n (U q theta phi lambda) = ltb q n
is_on n (Cx control target) = ltb control n && (ltb target n && not (control == target))

abbrev pub are_on : ℕ → List ElementaryGate → Bool
are_on n [] = true
are_on n (gate ∷ gates) = is_on n gate && are_on n gates

on : (n : ℕ) (gate : ElementaryGate) → is_on n gate ≡ true → IsElementaryGateOn n gate
on n (U q theta phi lambda) e = ltb-true q n e
on n (Cx control target) e =
    let f = and-right (ltb control n) _ e in (
      ltb-true control n (and-left _ _ e),
      ltb-true target n (and-left _ _ f),
      λ p. true≢false (sym ((Decides-eqb control target).1 p) ∙ not-true _ (and-right _ _ f)),
    )

all_on : (n : ℕ) (gates : List ElementaryGate) → are_on n gates ≡ true → All (IsElementaryGateOn n) gates
all_on n [] e = λ k d below. absurd (omega arith)
all_on n (gate ∷ gates) e =
    All-cons (IsElementaryGateOn n) gate gates (on n gate (and-left _ _ e)) (all_on n gates (and-right (is_on n gate) _ e))

-- every entry by its paths
abbrev pub entry : List ElementaryGate → Map
entry gates x y = paths (lowered gates) 0 x y

entry-amp : (gates : List ElementaryGate) (x y : List Bool) → entry gates x y ≡ amp (lowered gates) x y
entry-amp gates x y =
    paths-amp (lowered gates) 0 x y ∙ ap (λ r. mul r (amp (lowered gates) x y)) root_power-zero ∙ one-mul (amp (lowered gates) x y)

-- the maps are proportional, and not 0 at the column u and the row v
abbrev pub certificate : ℕ → List ElementaryGate → Map → List Bool → List Bool → Bool
certificate n gates g u v =
    are_on n gates
    && (not (equal (g u v) zero)
    && (not (equal (entry gates u v) zero)
    && on_all n (λ x. on_all n (λ y. equal (mul (g u v) (entry gates x y)) (mul (entry gates u v) (g x y))))))

pub record Certified (n : ℕ) (gates : List ElementaryGate) (g : Map) : Type 0 where
  pub column : List Bool
  pub row : List Bool
  pub computes : certificate n gates g column row ≡ true

certified_at : (n : ℕ) (gates : List ElementaryGate) (g : Map) (u v : List Bool) → certificate n gates g u v ≡ true → Proportional n n (amp_elementary gates) g
certified_at n gates g u v e =
    let f = and-right (are_on n gates) _ e in
    let h = and-right (not (equal (g u v) zero)) _ f in
    let k = and-right (not (equal (entry gates u v) zero)) _ h in
    proportional_trans n n _ _ _
    (proportional_lowered n gates (all_on n gates (and-left _ _ e)))
    (proportional_of_scaled n n (amp (lowered gates)) g (g u v) (entry gates u v)
    (nonzero _ (and-left _ _ f)) (nonzero _ (and-left _ _ h))
    (λ x y l m. ap (mul (g u v)) (sym (entry-amp gates x y))
    ∙ equal-is _ _ (on_all-each n _ (on_all-each n _ k x l) y m)))

pub certified : {n : ℕ} {gates : List ElementaryGate} {g : Map} → Certified n gates g → Proportional n n (amp_elementary gates) g
certified {n = n} {gates = gates} {g = g} c = certified_at n gates g c.column c.row c.computes

-- maps with the same entries
pub same_maps : (n : ℕ) (f g : Map) → on_all n (λ x. on_all n (λ y. equal (f x y) (g x y))) ≡ true
    → (x y : List Bool) → length x ≡ n → length y ≡ n → f x y ≡ g x y
same_maps n f g e x y l m = equal-is _ _ (on_all-each n _ (on_all-each n _ e x l) y m)

-- what holds of all numbers below n
abbrev pub all_below : ℕ → (ℕ → Bool) → Bool
all_below nought p = true
all_below (suc n) p = p 0 && all_below n (λ k. p (suc k))

all_below-each : (n : ℕ) (p : ℕ → Bool) → all_below n p ≡ true → (k : ℕ) → k < n → p k ≡ true
all_below-each nought p e k below = absurd (omega arith)
all_below-each (suc n) p e nought below = and-left _ _ e
all_below-each (suc n) p e (suc k) below = all_below-each n (λ k. p (suc k)) (and-right _ _ e) k (omega arith)

-- maps of two qubits at each phase, none of them 0 at the first entry
pub at_phases : (gates : ℕ → List ElementaryGate) (g : ℕ → Map)
    → all_below turn (λ k. certificate 2 (gates k) (g k) (false ∷ false ∷ []) (false ∷ false ∷ [])) ≡ true
    → (k : ℕ) → k < turn → Certified 2 (gates k) (g k)
at_phases gates g e k below = record {
  column = false ∷ false ∷ [];
  row = false ∷ false ∷ [];
  computes = all_below-each turn (λ k. certificate 2 (gates k) (g k) (false ∷ false ∷ []) (false ∷ false ∷ [])) e k below;
}
