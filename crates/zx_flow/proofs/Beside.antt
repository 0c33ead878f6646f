-- A local complement about u in the sets: first those of all others change by that of u, then that of u.
use Rattle.std.proofs.Common.{◌≡◌, refl, sym, ◌∙◌, ap, ℕ, Bool, true, false, cond, not, ◌&&◌, eqb, List, [], ◌∷◌}
use Rattle.zx_model.specs.Bits.{xor, member}
use Rattle.zx_calculus.proofs.Booleans.{xor-false}
use Rattle.zx_calculus.proofs.Ids.{by_equal, eqb-self}
use Rattle.gflow_laws.specs.Seen.{Seen, in_odd_neighbourhood}
use Rattle.gflow_laws.specs.Flow.{Correction, order_of, set_of, is_in, SameSets, odd_in}
use Rattle.gflow_laws.specs.Complements.{complement_table}
use Rattle.gflow_laws.specs.Internal.Changes.{AreChanged, complement_change}
use Rattle.gflow_laws.proofs.Lists.{is_in-one}
use Rattle.gflow_laws.proofs.SetChanges.{changed_at, IsToggledAt-none}
use Rattle.gflow_laws.proofs.TableSteps.{complement_done}
use Rattle.zx_flow.specs.Internal.Beside.{beside_change}

-- the set of another vertex changes in both
pub beside_of : (s : Seen) (u v : ℕ) (own : List ℕ) (t t' : List Correction) → eqb v u ≡ false →
    AreChanged (complement_change s u own) (v ∷ []) t t' → AreChanged (beside_change s u own) (v ∷ []) t t'
beside_of s u v own t t' other c = record { order = c.order; members = at }
  where
    at : (x w : ℕ) → is_in (set_of t' x) w ≡
        cond (member x (v ∷ [])) (beside_change s u own x (is_in (set_of t x)) w) (is_in (set_of t x) w)
    at x w =
        c.members x w
        ∙ by_equal x v
        (λ b e. ap (λ k. cond (member x (v ∷ [])) (cond k (is_in (set_of t x) w) (complement_change s u own x (is_in (set_of t x)) w))
        (is_in (set_of t x) w)) (sym (ap (λ q. eqb q u) e ∙ other)))
        (λ b n. ap (λ k. cond k (complement_change s u own x (is_in (set_of t x)) w) (is_in (set_of t x) w)) (is_in-one v x ∙ b)
        ∙ sym (ap (λ k. cond k (beside_change s u own x (is_in (set_of t x)) w) (is_in (set_of t x) w)) (is_in-one v x ∙ b)))

-- that of u stays, and so does one in which u has an even number of neighbours
pub own_stays_beside : (s : Seen) (u v : ℕ) (own : List ℕ) (t : List Correction) → eqb v u ≡ true →
    AreChanged (beside_change s u own) (v ∷ []) t t
own_stays_beside s u v own t is =
    changed_at (beside_change s u own) v (λ w. false) t t (IsToggledAt-none v t) (λ w. rw is (sym (xor-false (is_in (set_of t v) w))))

pub even_stays : (s : Seen) (u v : ℕ) (own : List ℕ) (t : List Correction) → eqb v u ≡ false →
    in_odd_neighbourhood s (is_in (set_of t v)) u ≡ false → AreChanged (beside_change s u own) (v ∷ []) t t
even_stays s u v own t other even =
    changed_at (beside_change s u own) v (λ w. false) t t (IsToggledAt-none v t)
    (λ w. rw (other, even) (sym (xor-false (is_in (set_of t v) w))))

pub own_stays_too : (s : Seen) (u : ℕ) (own : List ℕ) (t : List Correction) → odd_in (s.plane u) ≡ false →
    AreChanged (complement_change s u own) (u ∷ []) t t
own_stays_too s u own t stays =
    changed_at (complement_change s u own) u (λ w. false) t t (IsToggledAt-none u t)
    (λ w. rw (eqb-self u, stays) refl)

-- the set of u has the members that it had
pub own_kept_beside : (s : Seen) (u : ℕ) (own done : List ℕ) (t t' : List Correction) → AreChanged (beside_change s u own) done t t' →
    (w : ℕ) → is_in (set_of t' u) w ≡ is_in (set_of t u) w
own_kept_beside s u own done t t' c w = c.members u w ∙ rw (eqb-self u) (both (member u done))
  where
    both : (b : Bool) → cond b (is_in (set_of t u) w) (is_in (set_of t u) w) ≡ is_in (set_of t u) w
    both true = refl
    both false = refl

-- so the change is by the same members
pub beside_same : (s : Seen) (u : ℕ) (own now done : List ℕ) (t t' : List Correction) → ((w : ℕ) → is_in now w ≡ is_in own w) →
    AreChanged (beside_change s u now) done t t' → AreChanged (beside_change s u own) done t t'
beside_same s u own now done t t' same c = record {
  order = c.order;
  members = λ v w. c.members v w ∙ ap (with_own v w) (same w);
}
  where
    with_own : ℕ → ℕ → Bool → Bool
    with_own v w b =
        cond (member v done)
        (cond (eqb v u) (is_in (set_of t v) w)
        (cond (eqb v u) (xor (is_in (set_of t v) w) (odd_in (s.plane u) && eqb w u))
        (cond (in_odd_neighbourhood s (is_in (set_of t v)) u) (xor (is_in (set_of t v) w) (xor b (not (odd_in (s.plane u)) && eqb w u)))
        (is_in (set_of t v) w))))
        (is_in (set_of t v) w)

-- all others, and then u
pub complement_last : (s : Seen) (u : ℕ) (t t' t'' : List Correction) → member u (order_of t) ≡ true →
    AreChanged (beside_change s u (set_of t u)) (order_of t) t t' →
    AreChanged (complement_change s u (set_of t u)) (u ∷ []) t' t'' → SameSets t'' (complement_table s u t)
complement_last s u t t' t'' there c d =
    complement_done s u t t'' (record { order = d.order ∙ c.order; members = at })
  where
    sets : ℕ → ℕ → Bool
    sets v = is_in (set_of t v)

    change : ℕ → ℕ → Bool
    change v w = complement_change s u (set_of t u) v (sets v) w

    beside_then : ℕ → ℕ → Bool
    beside_then v w =
        cond (in_odd_neighbourhood s (sets v) u) (xor (sets v w) (xor (is_in (set_of t u) w) (not (odd_in (s.plane u)) && eqb w u))) (sets v w)

    beside_now : ℕ → ℕ → Bool
    beside_now v w =
        cond (in_odd_neighbourhood s (is_in (set_of t' v)) u)
        (xor (is_in (set_of t' v) w) (xor (is_in (set_of t u) w) (not (odd_in (s.plane u)) && eqb w u))) (is_in (set_of t' v) w)

    at : (v w : ℕ) → is_in (set_of t'' v) w ≡ cond (member v (order_of t)) (change v w) (sets v w)
    at v w =
        by_equal v u
        (λ b e. d.members v w
        ∙ ap (λ k. cond k (complement_change s u (set_of t u) v (is_in (set_of t' v)) w) (is_in (set_of t' v) w)) (is_in-one u v ∙ b)
        ∙ ap (λ k. cond k (xor (is_in (set_of t' v) w) (odd_in (s.plane u) && eqb w u)) (beside_now v w)) b
        ∙ ap (λ x. xor x (odd_in (s.plane u) && eqb w u)) (ap (λ q. is_in (set_of t' q) w) e ∙ own_kept_beside s u (set_of t u) (order_of t) t t' c w ∙ ap (λ q. is_in (set_of t q) w) (sym e))
        ∙ sym (ap (λ k. cond k (xor (sets v w) (odd_in (s.plane u) && eqb w u)) (beside_then v w)) b)
        ∙ sym (ap (λ k. cond k (change v w) (sets v w)) (ap (λ q. member q (order_of t)) e ∙ there)))
        (λ b n. d.members v w
        ∙ ap (λ k. cond k (complement_change s u (set_of t u) v (is_in (set_of t' v)) w) (is_in (set_of t' v) w)) (is_in-one u v ∙ b)
        ∙ c.members v w
        ∙ ap (λ k. cond (member v (order_of t)) (cond k (sets v w) (change v w)) (sets v w)) b)
