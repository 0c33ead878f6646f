-- A set of a table toggled, as a function.
use Rattle.std.proofs.Common.{◌≡◌, sym, ◌∙◌, ap, ap₂, ℕ, Bool, true, false, cond, ◌&&◌, eqb, List, true≢false}
use Rattle.zx_model.specs.Bits.{xor, member}
use Rattle.zx_calculus.proofs.Booleans.{xor-false}
use Rattle.zx_calculus.proofs.Ids.{by_test, by_equal}
use Rattle.gflow_laws.specs.Flow.{Correction, order_of, set_of, is_in, SameSets}
use Rattle.gflow_laws.specs.Tables.{symmetric_difference, with_sets}
use Rattle.gflow_laws.proofs.Lists.{is_in-symmetric_difference}
use Rattle.gflow_laws.proofs.Tables.{order_of-with_sets, set_of-with_sets, set_of-outside}
use Rattle.gflow_laws.proofs.SetChanges.{IsToggledAt}
use Rattle.zx_flow.specs.Changes.{set_toggled}

-- what `toggle` of a flow ensures
pub IsToggledAt-list : (v : ℕ) (members : List ℕ) (t t' : List Correction) → member v (order_of t) ≡ true →
    SameSets t' (set_toggled v members t) → IsToggledAt v (is_in members) t t'
IsToggledAt-list v members t t' v_there same =
    record { order = same.order ∙ order_of-with_sets toggled t; members = at }
  where
    toggled : ℕ → List ℕ → List ℕ
    toggled u set = cond (eqb u v) (symmetric_difference set members) set

    in_set : (b : Bool) (set : List ℕ) (w : ℕ) →
        is_in (cond b (symmetric_difference set members) set) w ≡ xor (is_in set w) (b && is_in members w)
    in_set true set w = is_in-symmetric_difference set members w
    in_set false set w = sym (xor-false (is_in set w))

    at : (u w : ℕ) → is_in (set_of t' u) w ≡ xor (is_in (set_of t u) w) (eqb u v && is_in members w)
    at u w =
        same.members u w
        ∙ by_test (member u (order_of t))
        (λ there. ap (λ l. is_in l w) (set_of-with_sets toggled t u there) ∙ in_set (eqb u v) (set_of t u) w)
        (λ out. ap (λ l. is_in l w) (set_of-outside (with_sets toggled t) u
        (ap (member u) (order_of-with_sets toggled t) ∙ out))
        ∙ sym (ap₂ (λ l b. xor (is_in l w) (b && is_in members w)) (set_of-outside t u out)
        (by_equal u v (λ s e. absurd (true≢false (sym v_there ∙ ap (λ q. member q (order_of t)) (sym e) ∙ out)))
        (λ f n. f))))

-- and it still stands in the order
pub toggled_listed : (v : ℕ) (members : List ℕ) (t t' : List Correction) → member v (order_of t) ≡ true →
    SameSets t' (set_toggled v members t) → member v (order_of t') ≡ true
toggled_listed v members t t' there same = ap (member v) (IsToggledAt-list v members t t' there same).order ∙ there
