-- Sets of a table changed one after the other, as functions.
use Rattle.std.proofs.Common.{◌≡◌, refl, sym, ◌∙◌, ap, subst, ℕ, suc, ◌+◌, add-one, ◌<◌, Bool, true, false, cond, ◌&&◌, eqb, List, [], ◌∷◌, length, get_or, take, true≢false}
use Rattle.zx_model.specs.Bits.{xor, member}
use Rattle.zx_calculus.specs.Graph.{Distinct}
use Rattle.zx_calculus.proofs.Booleans.{parities, xor-false, and-false}
use Rattle.zx_calculus.proofs.Ids.{by_test, by_equal}
use Rattle.gflow_laws.specs.Flow.{Correction, order_of, set_of, is_in, SameSets}
use Rattle.gflow_laws.specs.Tables.{with_sets}
use Rattle.gflow_laws.proofs.Lists.{is_in-one}
use Rattle.gflow_laws.proofs.Tables.{order_of-with_sets, set_of-with_sets, set_of-outside}
use Rattle.gflow_laws.specs.Internal.Changes.{AreChanged}
use Rattle.zx_calculus.proofs.Positions.{fresh_next, member-grown}

-- one more
pub AreChanged-next : (change : ℕ → (ℕ → Bool) → ℕ → Bool) (order : List ℕ) (i : ℕ) (t t1 t2 : List Correction) →
    Distinct order → i < length order → AreChanged change (take i order) t t1 →
    AreChanged change (get_or order i 0 ∷ []) t1 t2 →
    AreChanged change (take (suc i) order) t t2
AreChanged-next change order i t t1 t2 d lt c next = record { order = next.order ∙ c.order; members = at }
  where
    sets : ℕ → ℕ → Bool
    sets v = is_in (set_of t v)

    stepwise : (v w : ℕ) (m e : Bool) → (e ≡ true → m ≡ false) →
        cond e (change v (λ x. cond m (change v (sets v) x) (sets v x)) w) (cond m (change v (sets v) w) (sets v w))
        ≡ cond (xor m e) (change v (sets v) w) (sets v w)
    stepwise v w true true apart = absurd (true≢false (apart refl))
    stepwise v w false true apart = refl
    stepwise v w true false apart = refl
    stepwise v w false false apart = refl

    at : (v w : ℕ) → is_in (set_of t2 v) w ≡ cond (member v (take (suc i) order)) (change v (sets v) w) (sets v w)
    at v w =
        next.members v w
        ∙ (λ j. cond (is_in-one (get_or order i 0) v j) (change v (λ x. c.members v x j) w) (c.members v w j))
        ∙ stepwise v w (member v (take i order)) (eqb v (get_or order i 0))
        (λ t. by_equal v (get_or order i 0) (λ s e. ap (λ q. member q (take i order)) e ∙ fresh_next order i d lt)
        (λ f n. absurd (true≢false (sym t ∙ f))))
        ∙ ap (λ b. cond b (change v (sets v) w) (sets v w)) (sym (member-grown order i v d lt))

pub changed_grows : (change : ℕ → (ℕ → Bool) → ℕ → Bool) (order : List ℕ) (i x : ℕ) (t t1 t2 : List Correction) →
    Distinct order → i < length order → x ≡ get_or order i 0 → AreChanged change (take i order) t t1 →
    AreChanged change (x ∷ []) t1 t2 →
    AreChanged change (take (i + 1) order) t t2
changed_grows change order i x t t1 t2 d lt is c next =
    rw add-one (AreChanged-next change order i t t1 t2 d lt c (subst (λ y. AreChanged change (y ∷ []) t1 t2) is next))

-- all of them
pub all_changed : (change : ℕ → (ℕ → Bool) → ℕ → Bool) (sets : ℕ → List ℕ → List ℕ) (t t' : List Correction) →
    ((v w : ℕ) → change v (is_in (set_of t v)) w ≡ is_in (sets v (set_of t v)) w) →
    AreChanged change (order_of t) t t' →
    SameSets t' (with_sets sets t)
all_changed change sets t t' same c = record { order = c.order ∙ sym (order_of-with_sets sets t); members = at }
  where
    at : (v w : ℕ) → is_in (set_of t' v) w ≡ is_in (set_of (with_sets sets t) v) w
    at v w =
        c.members v w
        ∙ by_test (member v (order_of t))
        (λ there. ap (λ b. cond b (change v (is_in (set_of t v)) w) (is_in (set_of t v) w)) there
        ∙ same v w ∙ sym (ap (λ l. is_in l w) (set_of-with_sets sets t v there)))
        (λ out. ap (λ b. cond b (change v (is_in (set_of t v)) w) (is_in (set_of t v) w)) out
        ∙ ap (λ l. is_in l w) (set_of-outside t v out)
        ∙ sym (ap (λ l. is_in l w) (set_of-outside (with_sets sets t) v
        (ap (member v) (order_of-with_sets sets t) ∙ out))))

-- the second table is the first, where these are toggled in the set of v
pub record IsToggledAt (v : ℕ) (added : ℕ → Bool) (t t' : List Correction) : Type 0 where
  pub order : order_of t' ≡ order_of t
  pub members : (u w : ℕ) → is_in (set_of t' u) w ≡ xor (is_in (set_of t u) w) (eqb u v && added w)

pub IsToggledAt-none : (v : ℕ) (t : List Correction) → IsToggledAt v (λ w. false) t t
IsToggledAt-none v t = record {
  order = refl;
  members = λ u w. sym (ap (xor (is_in (set_of t u) w)) (and-false (eqb u v)) ∙ xor-false (is_in (set_of t u) w));
}

regrouped : (a e x y : Bool) → xor (xor a (e && x)) (e && y) ≡ xor a (e && xor x y)
regrouped a e x y = simp parities

pub IsToggledAt-more : (v : ℕ) (first second : ℕ → Bool) (t t1 t2 : List Correction) → IsToggledAt v first t t1 →
    IsToggledAt v second t1 t2 →
    IsToggledAt v (λ w. xor (first w) (second w)) t t2
IsToggledAt-more v first second t t1 t2 c d = record {
  order = d.order ∙ c.order;
  members = λ u w. d.members u w ∙ ap (λ b. xor b (eqb u v && second w)) (c.members u w)
      ∙ regrouped (is_in (set_of t u) w) (eqb u v) (first w) (second w);
}

-- a change of one set, by what it toggles there
pub changed_at : (change : ℕ → (ℕ → Bool) → ℕ → Bool) (v : ℕ) (added : ℕ → Bool) (t t' : List Correction) →
    IsToggledAt v added t t' →
    ((w : ℕ) → change v (is_in (set_of t v)) w ≡ xor (is_in (set_of t v) w) (added w)) → AreChanged change (v ∷ []) t t'
changed_at change v added t t' c same = record { order = c.order; members = at }
  where
    at : (u w : ℕ) → is_in (set_of t' u) w ≡ cond (member u (v ∷ [])) (change u (is_in (set_of t u)) w)
        (is_in (set_of t u) w)
    at u w =
        c.members u w
        ∙ by_equal u v
        (λ s e. ap (λ b. xor (is_in (set_of t u) w) (b && added w)) s
        ∙ ap (λ q. xor (is_in (set_of t q) w) (added w)) e ∙ sym (same w) ∙ ap (λ q. change q (is_in (set_of t q)) w)
        (sym e)
        ∙ ap (λ b. cond b (change u (is_in (set_of t u)) w) (is_in (set_of t u) w)) (sym (is_in-one v u ∙ s)))
        (λ f n. ap (λ b. xor (is_in (set_of t u) w) (b && added w)) f ∙ xor-false (is_in (set_of t u) w)
        ∙ ap (λ b. cond b (change u (is_in (set_of t u)) w) (is_in (set_of t u) w)) (sym (is_in-one v u ∙ f)))
