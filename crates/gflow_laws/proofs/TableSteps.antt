-- What the changes of the sets, one after the other, make of a flow.
use Rattle.std.proofs.Common.{◌≡◌, refl, sym, ◌∙◌, ap, ℕ, Bool, true, false, cond, not, ◌&&◌, eqb, List, [], ◌∷◌}
use Rattle.zx_model.specs.Bits.{xor}
use Rattle.zx_calculus.proofs.Booleans.{parities, xor-false}
use Rattle.zx_calculus.proofs.Ids.{by_equal}
use Rattle.gflow_laws.specs.Seen.{Seen, in_odd_neighbourhood}
use Rattle.gflow_laws.specs.Flow.{Correction, order_of, set_of, is_in, SameSets, odd_in}
use Rattle.gflow_laws.specs.Complements.{set_about, set_beside, complement_table}
use Rattle.gflow_laws.proofs.Lists.{is_in-one}
use Rattle.gflow_laws.proofs.Complements.{is_in-set_about, is_in-set_beside}
use Rattle.gflow_laws.specs.Internal.Changes.{AreChanged, complement_change}
use Rattle.gflow_laws.proofs.SetChanges.{all_changed, changed_at, IsToggledAt, IsToggledAt-more}

twice : (a o e : Bool) → xor a (xor o false) ≡ xor (xor a (xor o e)) e
twice a o e = let back : xor a o ≡ xor (xor a (xor o e)) e = simp parities in ap (xor a) (xor-false o) ∙ back

once : (a o e : Bool) → xor a (xor o e) ≡ xor (xor a (xor o false)) e
once a o e = let assoc : xor a (xor o e) ≡ xor (xor a o) e = simp parities in assoc ∙ ap (λ b. xor (xor a b) e)
    (sym (xor-false o))

beside : (a o i e : Bool) → xor a (xor o (not i && e)) ≡ xor (xor a (xor o (i && e))) e
beside a o true e = twice a o e
beside a o false e = once a o e

-- all sets after a local complement
pub complement_done : (s : Seen) (u : ℕ) (t t' : List Correction) →
    AreChanged (complement_change s u (set_of t u)) (order_of t) t t' →
    SameSets t' (complement_table s u t)
complement_done s u t t' c = all_changed (complement_change s u (set_of t u)) sets t t' same c
  where
    own : List ℕ
    own = set_about u (s.plane u) (set_of t u)

    sets : ℕ → List ℕ → List ℕ
    sets v members = cond (eqb v u) own (set_beside s u own members)

    in_beside : (A : ℕ → Bool) (w : ℕ) (b : Bool) →
        cond b (xor (A w) (xor (is_in (set_of t u) w) (not (odd_in (s.plane u)) && eqb w u))) (A w)
        ≡ cond b (xor (xor (A w) (is_in own w)) (eqb w u)) (A w)
    in_beside A w true =
        beside (A w) (is_in (set_of t u) w) (odd_in (s.plane u)) (eqb w u)
        ∙ ap (λ b. xor (xor (A w) b) (eqb w u)) (sym (is_in-set_about u (s.plane u) (set_of t u) w))
    in_beside A w false = refl

    same : (v w : ℕ) → complement_change s u (set_of t u) v (is_in (set_of t v)) w ≡ is_in (sets v (set_of t v)) w
    same v w =
        by_equal v u
        (λ b e. rw b (ap (λ q. xor (is_in (set_of t q) w) (odd_in (s.plane u) && eqb w u)) e
        ∙ sym (is_in-set_about u (s.plane u) (set_of t u) w)))
        (λ b n. rw b (in_beside (is_in (set_of t v)) w (in_odd_neighbourhood s (is_in (set_of t v)) u)
        ∙ sym (is_in-set_beside s u own (set_of t v) w)))

-- The change of one set. That of u itself: u is toggled where its plane changes
pub own_toggled : (s : Seen) (u v : ℕ) (own : List ℕ) (t t' : List Correction) → eqb v u ≡ true →
    odd_in (s.plane u) ≡ true →
    IsToggledAt v (is_in (u ∷ [])) t t' → AreChanged (complement_change s u own) (v ∷ []) t t'
own_toggled s u v own t t' same changes c =
    changed_at (complement_change s u own) v (is_in (u ∷ [])) t t' c
    (λ w. rw (same, changes) (ap (xor (is_in (set_of t v) w)) (sym (is_in-one u w))))

pub beside_toggled : (s : Seen) (u v : ℕ) (own : List ℕ) (t t' : List Correction) → eqb v u ≡ false →
    in_odd_neighbourhood s (is_in (set_of t v)) u ≡ true → odd_in (s.plane u) ≡ true → IsToggledAt v (is_in own) t t' →
    AreChanged (complement_change s u own) (v ∷ []) t t'
beside_toggled s u v own t t' other is_odd changes c =
    changed_at (complement_change s u own) v (is_in own) t t' c
    (λ w. rw (other, is_odd, changes) (ap (xor (is_in (set_of t v) w)) (xor-false (is_in own w))))

pub beside_toggled_too : (s : Seen) (u v : ℕ) (own : List ℕ) (t t1 t2 : List Correction) → eqb v u ≡ false →
    in_odd_neighbourhood s (is_in (set_of t v)) u ≡ true → odd_in (s.plane u) ≡ false → IsToggledAt v (is_in own) t t1 →
    IsToggledAt v (is_in (u ∷ [])) t1 t2 → AreChanged (complement_change s u own) (v ∷ []) t t2
beside_toggled_too s u v own t t1 t2 other is_odd stays c d =
    changed_at (complement_change s u own) v (λ w. xor (is_in own w) (is_in (u ∷ []) w)) t t2
    (IsToggledAt-more v (is_in own) (is_in (u ∷ [])) t t1 t2 c d)
    (λ w. rw (other, is_odd, stays) (ap (λ b. xor (is_in (set_of t v) w) (xor (is_in own w) b)) (sym (is_in-one u w))))
