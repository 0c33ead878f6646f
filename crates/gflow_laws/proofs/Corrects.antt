-- What it means that a set corrects a vertex, with sets and order as functions; and absorption.
use Rattle.std.proofs.Common.{◌≡◌, ◌≢◌, ◌⊎◌, refl, sym, ◌∙◌, ap, ap₂, subst, ⊎_elim, inl, inr, ℕ, Bool, true, false, ◌&&◌}
use Rattle.std.proofs.lemmas.Bool.{cases_eq, false_from_ne_true, true≢false}
use Rattle.zx_model.specs.Bits.{xor, member}
use Rattle.zx_calculus.proofs.Booleans.{xor-false}
use Rattle.gflow_laws.specs.Seen.{Seen, in_odd_neighbourhood}
use Rattle.gflow_laws.specs.Correcting.{Alike, Distinct, Strict}
use Rattle.gflow_laws.specs.Flow.{Corrects, inside_in, odd_in}
use Rattle.gflow_laws.proofs.Linear.{masked-of-xor, masked-same, masked-members}

pub xor_true : (a b : Bool) → xor a b ≡ true → (a ≡ true) ⊎ (b ≡ true)
xor_true true b e = inl refl
xor_true false b e = inr e

pub odd-xor : (s : Seen) (A B : ℕ → Bool) (v : ℕ) → in_odd_neighbourhood s (λ w. xor (A w) (B w)) v ≡ xor (in_odd_neighbourhood s A v) (in_odd_neighbourhood s B v)
odd-xor s A B v = masked-of-xor (s.adjacent v) s.ids A B

-- where a set corrects v, and u comes after v, the set of u can be added
pub absorb : (s : Seen) (before : ℕ → ℕ → Bool) (v u : ℕ) (A B : ℕ → Bool) → Strict before → member v s.ids ≡ true → before v u ≡ true →
    Corrects s before v A → Corrects s before u B → Corrects s before v (λ w. xor (A w) (B w))
absorb s before v u A B strict there later a b = record {
  members = λ w e. ⊎_elim (λ h. a.members w h) (λ h. b.members w h) (xor_true (A w) (B w) e);
  input = λ w e. ⊎_elim (λ h. a.input w h) (λ h. b.input w h) (xor_true (A w) (B w) e);
  order = λ w e ne. ⊎_elim (λ h. a.order w h ne) (λ h. through w (b.order w h)) (xor_true (A w) (B w) e);
  odd_order = λ w within e ne.
      ⊎_elim (λ h. a.odd_order w within h ne) (λ h. through w (b.odd_order w within h))
      (xor_true (in_odd_neighbourhood s A w) (in_odd_neighbourhood s B w) (sym (odd-xor s A B w) ∙ e));
  inside = ap₂ xor a.inside (false_from_ne_true (B v) (λ h. backwards (b.order v h))) ∙ xor-false (inside_in (s.plane v));
  odd_there =
      odd-xor s A B v ∙ ap₂ xor a.odd_there (false_from_ne_true (in_odd_neighbourhood s B v) (λ h. backwards (b.odd_order v there h))) ∙ xor-false (odd_in (s.plane v));
}
  where
    through : (w : ℕ) → (w ≢ u → before u w ≡ true) → before v w ≡ true
    through w further = ⊎_elim (λ e. subst (λ x. before v x ≡ true) (sym e) later) (λ ne. strict.transitive v u w later (further ne)) (cases_eq w u)

    different_from : v ≢ u
    different_from e = true≢false (sym later ∙ ap (before v) (sym e) ∙ strict.irreflexive v)

    backwards : (v ≢ u → before u v ≡ true) → ⊥
    backwards back = true≢false (sym (strict.transitive v u v later (back different_from)) ∙ strict.irreflexive v)

pub odd-alike : (s t : Seen) (A : ℕ → Bool) (v : ℕ) → Distinct s.ids → Distinct t.ids → Alike s t → member v s.ids ≡ true → in_odd_neighbourhood s A v ≡ in_odd_neighbourhood t A v
odd-alike s t A v ds dt alike there =
    masked-same (s.adjacent v) (t.adjacent v) s.ids A A (λ w within. ap (λ b. b && A w) (alike.adjacent v w there within))
    ∙ masked-members (t.adjacent v) s.ids t.ids A ds dt alike.ids

-- a correction set serves in each view that agrees, and in each order that keeps what came after the vertex
pub Corrects-alike : (s t : Seen) (before before' : ℕ → ℕ → Bool) (v : ℕ) (A B : ℕ → Bool) → Distinct s.ids → Distinct t.ids → Alike s t →
    member v s.ids ≡ true → ((w : ℕ) → A w ≡ B w) → ((w : ℕ) → before v w ≡ true → before' v w ≡ true) →
    Corrects s before v A → Corrects t before' v B
Corrects-alike s t before before' v A B ds dt alike there same keeps a = record {
  members = λ w e. sym (alike.ids w) ∙ within w e;
  input = λ w e. sym (alike.input w (within w e)) ∙ a.input w (same w ∙ e);
  order = λ w e ne. keeps w (a.order w (same w ∙ e) ne);
  odd_order = λ w e odd_w ne. keeps w (a.odd_order w (alike.ids w ∙ e) (equal_odd w (alike.ids w ∙ e) ∙ odd_w) ne);
  inside = sym (same v) ∙ a.inside ∙ ap inside_in (alike.plane v there);
  odd_there = sym (equal_odd v there) ∙ a.odd_there ∙ ap odd_in (alike.plane v there);
}
  where
    within : (w : ℕ) → B w ≡ true → member w s.ids ≡ true
    within w e = a.members w (same w ∙ e)

    equal_odd : (w : ℕ) → member w s.ids ≡ true → in_odd_neighbourhood s A w ≡ in_odd_neighbourhood t B w
    equal_odd w e = odd-alike s t A w ds dt alike e ∙ masked-same (t.adjacent w) (t.adjacent w) t.ids A B (λ x _. ap (λ b. t.adjacent w x && b) (same x))
