-- Walks over lists, as far as they have come.
use Rattle.std.proofs.Common.{option_map, slice_get, Option, Some, None, ◌≡◌, ◌⊎◌, inl, inr, refl, sym, ap, subst, ℕ, true, false, List, [], ◌∷◌, ◌++◌, length, IfSome, IfNone}
use Rattle.std.proofs.lemmas.Iterator.{YieldsList}
use Rattle.std.proofs.lemmas.Iterator.Consumers.{YieldsList-from_shown}
use Rattle.std.specs.Iterator.{YieldsFirst}
use Rattle.zx_model.specs.Bits.{member}
use Rattle.zx_calculus.specs.Graph.{Graph, neighbours}
use Rattle.zx_calculus.specs.Complements.{may_complement}
use Rattle.open_graph.proofs.Walks.{next_passed, all_passed}

-- what comes first
pub first_is : (r : Option ℕ) (s t : List ℕ) → YieldsFirst (λ rest. rest) s r t → r ≡ slice_get s 0
first_is None s t h = sym (ap (λ xs. slice_get xs 0) h.0)
first_is (Some u) s t h = sym (ap (λ xs. slice_get xs 0) h)

-- a list that is seen as what is left gives its elements
pub yields_rest : (s : List ℕ) → YieldsList (YieldsFirst (λ (rest : List ℕ). rest)) (λ (x : ℕ). x) s s
yields_rest =
    YieldsList-from_shown (YieldsFirst (λ (rest : List ℕ). rest)) (λ (x : ℕ). x) (λ (rest : List ℕ). rest)
    (λ s t h. ap length h.0) (λ s x t h. h)

pub unmapped : (o : Option ℕ) → option_map (λ (x : ℕ). x) o ≡ o
unmapped None = refl
unmapped (Some x) = refl

-- ---- the best so far
pub best_found : (g : Graph) (u : ℕ) (best next : Option ℕ) (v : ℕ) → member v (neighbours g u) ≡ true
    → IfSome best (λ w. (member w (neighbours g u) ≡ true) × (may_complement g w ≡ true))
    → IfSome next (λ w. ((w ≡ v) × (may_complement g v ≡ true)) ⊎ (best ≡ Some w))
    → IfSome next (λ w. (member w (neighbours g u) ≡ true) × (may_complement g w ≡ true))
best_found g u best None v near some step = tt
best_found g u best (Some w) v near some (inl e) =
    (subst (λ (y : ℕ). member y (neighbours g u) ≡ true) (sym e.0) near, subst (λ (y : ℕ). may_complement g y ≡ true) (sym e.0) e.1)
best_found g u best (Some w) v near some (inr e) = subst (λ (o : Option ℕ). IfSome o (λ w. (member w (neighbours g u) ≡ true) × (may_complement g w ≡ true))) e some

pub best_none : (g : Graph) (best next : Option ℕ) (before : List ℕ) (v : ℕ)
    → IfNone best ((p : ℕ) → member p before ≡ true → may_complement g p ≡ false)
    → IfNone next ((best ≡ None) × (may_complement g v ≡ false))
    → IfNone next ((p : ℕ) → member p (before ++ v ∷ []) ≡ true → may_complement g p ≡ false)
best_none g best (Some w) before v none step = tt
best_none g best None before v none step =
    next_passed (λ p. may_complement g p ≡ false) before v
    (subst (λ (o : Option ℕ). IfNone o ((p : ℕ) → member p before ≡ true → may_complement g p ≡ false)) step.0 none) step.1

pub best_end : (g : Graph) (best : Option ℕ) (before rest all : List ℕ) → before ++ rest ≡ all → rest ≡ []
    → IfNone best ((p : ℕ) → member p before ≡ true → may_complement g p ≡ false)
    → IfNone best ((p : ℕ) → member p all ≡ true → may_complement g p ≡ false)
best_end g (Some w) before rest all e f none = tt
best_end g None before rest all e f none = all_passed (λ p. may_complement g p ≡ false) before rest all e f none
