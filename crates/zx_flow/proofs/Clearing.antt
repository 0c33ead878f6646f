-- A vertex that goes: first the sets of all others change by its own, then it goes with its set.
use Rattle.std.proofs.Common.{◌≡◌, refl, sym, ◌∙◌, ap, ℕ, Bool, true, false, cond, eqb, List, [], ◌∷◌}
use Rattle.zx_model.specs.Bits.{xor, member}
use Rattle.zx_calculus.proofs.Booleans.{xor-false}
use Rattle.zx_calculus.proofs.Ids.{by_equal, eqb_comm, eqb-self}
use Rattle.gflow_laws.specs.Flow.{Correction, order_of, set_of, is_in, SameSets}
use Rattle.gflow_laws.specs.Tables.{symmetric_difference, with_sets, without_set}
use Rattle.gflow_laws.specs.Removals.{removal_table}
use Rattle.gflow_laws.specs.Internal.Changes.{AreChanged}
use Rattle.gflow_laws.proofs.Lists.{is_in-symmetric_difference}
use Rattle.gflow_laws.proofs.Tables.{same-without_set}
use Rattle.gflow_laws.proofs.SetChanges.{all_changed, changed_at, IsToggledAt, IsToggledAt-none}
use Rattle.zx_flow.specs.Internal.Clearing.{clearing_change}

-- the change of one set: that of u itself, one that holds u, and one that doesn't
pub own_stays : (u v : ℕ) (own : List ℕ) (t : List Correction) → eqb v u ≡ true → AreChanged (clearing_change u own) (v ∷ []) t t
own_stays u v own t is =
    changed_at (clearing_change u own) v (λ w. false) t t (IsToggledAt-none v t) (λ w. rw is (sym (xor-false (is_in (set_of t v) w))))

pub holder_toggled : (u v : ℕ) (own : List ℕ) (t t' : List Correction) → eqb v u ≡ false → is_in (set_of t v) u ≡ true →
    IsToggledAt v (is_in own) t t' → AreChanged (clearing_change u own) (v ∷ []) t t'
holder_toggled u v own t t' other there c = changed_at (clearing_change u own) v (is_in own) t t' c (λ w. rw (other, there) refl)

pub other_stays : (u v : ℕ) (own : List ℕ) (t : List Correction) → eqb v u ≡ false → is_in (set_of t v) u ≡ false →
    AreChanged (clearing_change u own) (v ∷ []) t t
other_stays u v own t other absent =
    changed_at (clearing_change u own) v (λ w. false) t t (IsToggledAt-none v t)
    (λ w. rw (other, absent) (sym (xor-false (is_in (set_of t v) w))))

-- the set of u has the members that it had
pub own_kept : (u : ℕ) (own done : List ℕ) (t t' : List Correction) → AreChanged (clearing_change u own) done t t' → (w : ℕ) →
    is_in (set_of t' u) w ≡ is_in (set_of t u) w
own_kept u own done t t' c w = c.members u w ∙ rw (eqb-self u) (both (member u done))
  where
    both : (b : Bool) → cond b (is_in (set_of t u) w) (is_in (set_of t u) w) ≡ is_in (set_of t u) w
    both true = refl
    both false = refl

-- so the change is by the same members
pub changed_by_own : (u : ℕ) (own now done : List ℕ) (t t' : List Correction) → ((w : ℕ) → is_in now w ≡ is_in own w) →
    AreChanged (clearing_change u now) done t t' → AreChanged (clearing_change u own) done t t'
changed_by_own u own now done t t' same c = record {
  order = c.order;
  members = λ v w. c.members v w
      ∙ ap (λ b. cond (member v done)
      (cond (eqb v u) (is_in (set_of t v) w) (cond (is_in (set_of t v) u) (xor (is_in (set_of t v) w) b) (is_in (set_of t v) w)))
      (is_in (set_of t v) w)) (same w);
}

-- what becomes of a set by its members
abbrev cleared : ℕ → List ℕ → List ℕ → List ℕ
cleared u own members = cond (is_in members u) (symmetric_difference members own) members

abbrev cleared_but : ℕ → List ℕ → ℕ → List ℕ → List ℕ
cleared_but u own v members = cond (eqb v u) members (cleared u own members)

without-cleared : (u : ℕ) (own : List ℕ) (t : List Correction) →
    without_set u (with_sets (cleared_but u own) t) ≡ with_sets (λ v. cleared u own) (without_set u t)
without-cleared u own [] = refl
without-cleared u own (e ∷ es) =
    by_equal u e.vertex (λ t is. rw t (without-cleared u own es))
    (λ f n. rw f (rw (eqb_comm e.vertex u ∙ f)
    (ap (λ (r : List Correction). record { vertex = e.vertex; members = cleared u own e.members } ∷ r) (without-cleared u own es))))

-- all sets are changed, and u goes
pub cleared_done : (u : ℕ) (t t' gone : List Correction) → AreChanged (clearing_change u (set_of t u)) (order_of t) t t' →
    gone ≡ without_set u t' → SameSets gone (removal_table u t)
cleared_done u t t' gone c is =
    rw is (rw (sym (without-cleared u (set_of t u) t))
    (same-without_set u t' (with_sets (cleared_but u (set_of t u)) t)
    (all_changed (clearing_change u (set_of t u)) (cleared_but u (set_of t u)) t t'
    (λ v w. at (set_of t v) w (eqb v u) (is_in (set_of t v) u)) c)))
  where
    at : (set : List ℕ) (w : ℕ) (e h : Bool) →
        cond e (is_in set w) (cond h (xor (is_in set w) (is_in (set_of t u) w)) (is_in set w))
        ≡ is_in (cond e set (cond h (symmetric_difference set (set_of t u)) set)) w
    at set w true h = refl
    at set w false true = sym (is_in-symmetric_difference set (set_of t u) w)
    at set w false false = refl
