-- Ends gone through place by place.
use Rattle.std.proofs.Common.{◌≡◌, sym, ◌∙◌, ap, ap₂, subst, ℕ, zero, suc, ◌+◌, ◌<◌, ◌≤◌, Bool, true, false, ◌&&◌, List, [], ◌∷◌, length, get_or, take, min, arith}
use Rattle.std.specs.List.{list_all, zip}
use Rattle.std.proofs.lemmas.List.{take_all}
use Rattle.std.proofs.lemmas.List.Folds.{list_all_at, list_all_more}
use Rattle.std.proofs.lemmas.Slice.Zip.{get_or-zip, length-zip}
use Rattle.zx_model.specs.Bits.{member}
use Rattle.zx_calculus.specs.Graph.{End, end_vertices}
use Rattle.zx_calculus.proofs.Ids.{and-left, and-right}

-- the vertex of an end that is listed
pub end_there : (vs : List ℕ) (ends : List End) (i : ℕ) (e : End) → list_all (λ u. member u vs) (end_vertices ends) ≡ true → i < length ends
    → e ≡ get_or ends i e → member e.vertex vs ≡ true
end_there vs [] i e there within is = absurd (omega arith)
end_there vs (d ∷ ends) zero e there within is =
    ap (λ (x : End). member x.vertex vs) is ∙ and-left (member d.vertex vs) (list_all (λ u. member u vs) (end_vertices ends)) there
end_there vs (d ∷ ends) (suc i) e there within is =
    end_there vs ends i e (and-right (member d.vertex vs) (list_all (λ u. member u vs) (end_vertices ends)) there) (omega arith) is

module _ (p : End × End → Bool) (inputs outputs : List End) (same : length inputs ≡ length outputs) where
  as_long : length (zip inputs outputs) ≡ length inputs
  as_long = length-zip inputs outputs ∙ shorter (length inputs) (length outputs) same
    where
      shorter : (m n : ℕ) → m ≡ n → min m n ≡ m
      shorter m n e = omega arith

  module _ (i : ℕ) (within : i < length inputs) (input output : End) (first : input ≡ get_or inputs i input) (second : output ≡ get_or outputs i output) where
    both_at : get_or (zip inputs outputs) i (input, output) ≡ (input, output)
    both_at =
        get_or-zip inputs outputs i (input, output) within (subst (λ n. i < n) same within)
        ∙ ap₂ (λ (x : End) (y : End). (x, y)) (sym first) (sym second)

    in_both : i < length (zip inputs outputs)
    in_both = subst (λ n. i < n) (sym as_long) within

    pub fails_at : p (input, output) ≡ false → list_all p (zip inputs outputs) ≡ false
    fails_at off = list_all_at p (zip inputs outputs) i (input, output) in_both (ap p both_at ∙ off)

    pub holds_more : list_all p (take i (zip inputs outputs)) ≡ true → p (input, output) ≡ true → list_all p (take (i + 1) (zip inputs outputs)) ≡ true
    holds_more so_far on =
        list_all_more p (zip inputs outputs) i (input, output) in_both ∙ ap₂ (λ a b. a && b) so_far (ap p both_at ∙ on)

  pub holds_all : (i : ℕ) → length inputs ≤ i → list_all p (take i (zip inputs outputs)) ≡ true → list_all p (zip inputs outputs) ≡ true
  holds_all i past so_far =
      ap (list_all p) (sym (take_all i (zip inputs outputs) (subst (λ n. n ≤ i) (sym as_long) past))) ∙ so_far
