-- The parity of the neighbours in a set is linear in the set, and doesn't mind the order of the vertices.
use Rattle.std.proofs.Common.{◌≡◌, refl, sym, ◌∙◌, ap, ap₂, subst, ⊎_elim, ℕ, Bool, true, false, cond, not, ◌&&◌, ◌||◌, eqb, List, [], ◌∷◌, eq-eqb, ne_eqb}
use Rattle.std.proofs.lemmas.Bool.{eqb-true, cases_eq, true≢false}
use Rattle.zx_model.specs.Bits.{xor, member}
use Rattle.zx_calculus.specs.Parity.{masked}
use Rattle.zx_calculus.proofs.Booleans.{parities, and-false}
use Rattle.zx_calculus.proofs.Ids.{by_equal, apart_of_member, member-removed as member-removed_itself, member-removed_other, masked_front}
pub use Rattle.zx_calculus.proofs.Ids.{removed, Distinct-removed, member-here, member-there}
pub use Rattle.zx_calculus.proofs.Parity.{masked-same}
use Rattle.gflow_laws.specs.Correcting.{Distinct}

both_sides : (n a b x y : Bool) → xor (n && xor a b) (xor x y) ≡ xor (xor (n && a) x) (xor (n && b) y)
both_sides n a b x y = simp parities

pub masked-of-xor : (n : ℕ → Bool) (vs : List ℕ) (A B : ℕ → Bool) →
    masked n vs (λ w. xor (A w) (B w)) ≡ xor (masked n vs A) (masked n vs B)
masked-of-xor n [] A B = refl
masked-of-xor n (v ∷ vs) A B =
    ap (xor (n v && xor (A v) (B v))) (masked-of-xor n vs A B) ∙ both_sides (n v) (A v) (B v) (masked n vs A) (masked n vs B)

pub masked-of-and : (c : Bool) (n : ℕ → Bool) (vs : List ℕ) (A : ℕ → Bool) → masked n vs (λ w. c && A w) ≡ (c && masked n vs A)
masked-of-and true n vs A = refl
masked-of-and false n [] A = refl
masked-of-and false n (v ∷ vs) A = ap₂ xor (and-false (n v)) (masked-of-and false n vs A)

pub masked-none : (n : ℕ → Bool) (vs : List ℕ) (A : ℕ → Bool) →
    ((w : ℕ) → member w vs ≡ true → (n w && A w) ≡ false) → masked n vs A ≡ false
masked-none n [] A none = refl
masked-none n (v ∷ vs) A none = ap₂ xor (none v (member-here v vs)) (masked-none n vs A (λ w in_rest. none w (member-there w v vs in_rest)))

-- a set of one
pub masked-one : (n : ℕ → Bool) (vs : List ℕ) (u : ℕ) → Distinct vs → member u vs ≡ true → masked n vs (λ w. eqb w u) ≡ n u
masked-one n [] u distinct there = absurd (true≢false (sym there))
masked-one n (v ∷ vs) u distinct there = ⊎_elim
    (λ e.
    ap₂ (λ a b. xor (n v && a) b) (eq-eqb v u e)
    (masked-none n vs (λ w. eqb w u) (λ w within. ap (λ a. n w && a) (subst (λ x. eqb w x ≡ false) e (ne_eqb w v (apart_of_member w v vs within distinct.0))) ∙ and-false (n w)))
    ∙ simp parities (ap n e))
    (λ ne.
    ap₂ (λ a b. xor (n v && a) b) (ne_eqb v u ne) (masked-one n vs u distinct.1 (ap (λ a. a || member u vs) (sym (ne_eqb u v (λ e. ne (sym e)))) ∙ there))
    ∙ ap (λ a. xor a (n u)) (and-false (n v)))
    (cases_eq v u)

pub member-removed : (w u : ℕ) (vs : List ℕ) → member w (removed u vs) ≡ (not (eqb w u) && member w vs)
member-removed w u vs = by_equal w u
    (λ t e. ap (λ x. member x (removed u vs)) e ∙ member-removed_itself u vs ∙ sym (ap (λ b. not b && member w vs) t))
    (λ f n. member-removed_other w u vs n ∙ sym (ap (λ b. not b && member w vs) f))

pub masked-of-removed : (n : ℕ → Bool) (u : ℕ) (vs : List ℕ) (A : ℕ → Bool) → masked n (removed u vs) A ≡ masked n vs (λ w. not (eqb w u) && A w)
masked-of-removed n u [] A = refl
masked-of-removed n u (v ∷ vs) A = ⊎_elim
    (λ e.
    ap (λ b. masked n (cond b (removed u vs) (v ∷ removed u vs)) A) (eq-eqb u v e) ∙ masked-of-removed n u vs A
    ∙ sym (ap (λ b. xor (n v && (not b && A v)) (masked n vs (λ w. not (eqb w u) && A w))) (eq-eqb v u (sym e))
    ∙ ap (λ b. xor b (masked n vs (λ w. not (eqb w u) && A w))) (and-false (n v))))
    (λ ne.
    ap (λ b. masked n (cond b (removed u vs) (v ∷ removed u vs)) A) (ne_eqb u v ne) ∙ ap (xor (n v && A v)) (masked-of-removed n u vs A)
    ∙ sym (ap (λ b. xor (n v && (not b && A v)) (masked n vs (λ w. not (eqb w u) && A w))) (ne_eqb v u (λ e. ne (sym e)))))
    (cases_eq u v)

no_members : (vs : List ℕ) → ((w : ℕ) → member w vs ≡ false) → vs ≡ []
no_members [] none = refl
no_members (v ∷ vs) none = absurd (true≢false (sym (member-here v vs) ∙ none v))

pub rest_of : (b m : Bool) → (b ≡ true → m ≡ false) → (not b && (b || m)) ≡ m
rest_of true m out = sym (out refl)
rest_of false m out = refl

-- two lists with the same members give one parity
pub masked-members : (n : ℕ → Bool) (vs ws : List ℕ) (A : ℕ → Bool) → Distinct vs → Distinct ws →
    ((w : ℕ) → member w vs ≡ member w ws) → masked n vs A ≡ masked n ws A
masked-members n [] ws A dv dw same = sym (ap (λ l. masked n l A) (no_members ws (λ w. sym (same w))))
masked-members n (v ∷ vs) ws A dv dw same =
    ap (xor (n v && A v)) (masked-members n vs (removed v ws) A dv.1 (Distinct-removed v ws dw) same_rest)
    ∙ sym (masked_front n v ws A dw (sym (same v) ∙ member-here v vs))
  where
    same_rest : (w : ℕ) → member w vs ≡ member w (removed v ws)
    same_rest w =
        sym (member-removed w v ws ∙ ap (λ b. not (eqb w v) && b) (sym (same w))
        ∙ rest_of (eqb w v) (member w vs) (λ e. ap (λ x. member x vs) (eqb-true w v e) ∙ dv.0))
