-- A sum over labels with one of them brought to the front.
use Rattle.std.proofs.Common.{◌≡◌, sym, ◌∙◌, ap, ℕ, Bool, true, List, [], ◌∷◌, true≢false}
use Rattle.zx_model.specs.Bits.{member}
use Rattle.zx_model.specs.Number.{Number}
use Rattle.zx_model.specs.Sums.{over, sum_over}
use Rattle.zx_model.proofs.SumLemmas.{over_comm, sum_over_same}
use Rattle.zx_calculus.proofs.Ids.{by_equal, removed, removed-absent, Distinct}

pub sum_over_front : (u : ℕ) (vs : List ℕ) (f : (ℕ → Bool) → Number) → Distinct vs → member u vs ≡ true → sum_over vs f ≡ sum_over (u ∷ removed u vs) f
sum_over_front u [] f d h = absurd (true≢false (sym h))
sum_over_front u (v ∷ vs) f d h =
    by_equal u v (λ t e. rw (t, removed-absent u vs (ap (λ w. member w vs) e ∙ d.0)) (ap (λ w. sum_over vs (over w f)) (sym e)))
    (λ n m. let there : member u vs ≡ true = rw n at h in
    rw n (sum_over_front u vs (over v f) d.1 there ∙ sum_over_same (removed u vs) _ _ (over_comm u v f)))
