-- Where gadgets can be fused: by the neighbours that are found.
use Rattle.std.proofs.Common.{◌≡◌, ◌↔◌, sym, ◌∙◌, ap, ℕ, Bool, true, false, eqb, eqb-true, ◌≤◌, List, [], ◌∷◌, length, ltb, nat_eq, true≢false, arith}
use Rattle.std.specs.Cmp.Lexicographic.{pointwise}
use Rattle.zx_model.specs.Bits.{member}
use Rattle.zx_calculus.specs.Graph.{Graph, joined, neighbours, in_order, WellFormed}
use Rattle.zx_calculus.proofs.Booleans.{or-false}
use Rattle.zx_calculus.proofs.Extensionality.{neighbours_ext}
use Rattle.zx_calculus.proofs.Ids.{by_test, member-here}
use Rattle.zx_calculus.proofs.Toggling.{member-neighbours}
use Rattle.zx_calculus.proofs.TwinTests.{equal_lists, lists_equal}

one_item : (xs : List ℕ) (x : ℕ) → length xs ≡ 1 → member x xs ≡ true → xs ≡ x ∷ []
one_item [] x one there = absurd (true≢false (sym there))
one_item (y ∷ []) x one there = ap (λ z. z ∷ []) (sym (eqb-true x y (sym (or-false (eqb x y)) ∙ there)))
one_item (y ∷ (z ∷ zs)) x one there = absurd (omega (arith, one))

some_item : (xs : List ℕ) → length xs ≡ 1 → ((x : ℕ) → member x xs ≡ false) → ⊥
some_item [] one none = omega (arith, one)
some_item (x ∷ xs) one none = true≢false (sym (member-here x xs) ∙ none x)

-- the only neighbour, where one is found
pub only_leg : (g : Graph) (u leg : ℕ) → WellFormed g → length (neighbours g u) ≡ 1 → joined g.edges u leg ≡ true →
    neighbours g u ≡ leg ∷ []
only_leg g u leg w one near = one_item (neighbours g u) leg one (member-neighbours g u leg w ∙ near)

-- and one is found
pub some_leg : (g : Graph) (u : ℕ) → WellFormed g → length (neighbours g u) ≡ 1 →
    ((p : ℕ) → 0 ≤ p → joined g.edges u p ≡ false) → ⊥
some_leg g u w one none =
    some_item (neighbours g u) one (λ p. member-neighbours g u p w ∙ none p (omega arith))

-- sets of neighbours are compared as their lists
pub rows_tested : (g : Graph) (u v : ℕ) (us vs : List ℕ) (b : Bool) → WellFormed g →
    in_order ltb us ≡ true → in_order ltb vs ≡ true →
    ((p : ℕ) → member p us ≡ joined g.edges u p) → ((p : ℕ) → member p vs ≡ joined g.edges v p) →
    ((b ≡ true) ↔ (us ≡ vs)) → b ≡ pointwise nat_eq (neighbours g u) (neighbours g v)
rows_tested g u v us vs b w ru rv tu tv same =
    by_test b
    (λ t. t ∙ sym (lists_equal (neighbours g u) (neighbours g v) (sym row_u ∙ same.0 t ∙ row_v)))
    (λ f. by_test (pointwise nat_eq (neighbours g u) (neighbours g v))
    (λ t. absurd (true≢false (sym (same.1 (row_u
    ∙ equal_lists (neighbours g u) (neighbours g v) t ∙ sym (row_v))) ∙ f)))
    (λ e. f ∙ sym e))
  where
    row_u : us ≡ neighbours g u
    row_u = neighbours_ext g u us w ru tu

    row_v : vs ≡ neighbours g v
    row_v = neighbours_ext g v vs w rv tv
