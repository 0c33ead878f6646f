-- Phase polynomials are decided by low weights.
use Rattle.std.proofs.Common.{◌≡◌, ℕ, suc, ◌+◌, ◌%◌, ◌<◌, ◌≤◌, Bool, List, [], ◌∷◌, length, refl, sym, ap, ◌∙◌, arith}
use Rattle.std.specs.Prelude.{if◌then◌else◌}
use Rattle.std.specs.List.{All}
use Rattle.std.proofs.lemmas.List.Elements.{All-nil, All-cons, All-head, All-tail}
use Rattle.zx_model.specs.Phase.{turn, sum_of_phases}
use Rattle.zx_identities.specs.Polynomials.{parity, Term, phase_at, weight, IsEighths}
use Rattle.zx_identities.proofs.Differences.{EndsAfter, Fades, decided, ends-same, ends-add, ends-none, ends-phase}
use Rattle.zx_identities.proofs.Affine.{affine-parity}

-- whole eighth turns end after four changes, and any phases after five
pub fades_eighths : (k : ℕ) → IsEighths k → Fades 4 0 k
fades_eighths k even = (omega arith, omega arith)

pub fades_any : (k : ℕ) → Fades 5 0 k
fades_any k = (omega arith, omega arith)

reduced : (a b : ℕ) → (a + b) % turn ≡ (sum_of_phases a b) % turn
reduced a b = omega arith

ends-terms : (d n : ℕ) (terms : List Term) → All (λ term. Fades d 0 term.phase) terms → EndsAfter d n (phase_at terms)
ends-terms d n [] all = ends-none d n
ends-terms d n (term ∷ terms) all =
    ends-same d n (λ x. (if parity term.column x then term.phase else 0) + phase_at terms x) (phase_at (term ∷ terms))
    (λ x l. reduced (if parity term.column x then term.phase else 0) (phase_at terms x))
    (ends-add d n (λ x. if parity term.column x then term.phase else 0) (phase_at terms)
    (ends-phase d n term.phase (parity term.column) (affine-parity n term.column) (All-head (λ term. Fades d 0 term.phase) term terms all))
    (ends-terms d n terms (All-tail (λ term. Fades d 0 term.phase) term terms all)))

below_a_turn : (terms : List Term) (x : List Bool) → phase_at terms x % turn ≡ phase_at terms x
below_a_turn [] x = refl
below_a_turn (term ∷ terms) x = once (if parity term.column x then term.phase else 0) (phase_at terms x)
  where
    once : (a b : ℕ) → sum_of_phases a b % turn ≡ sum_of_phases a b
    once a b = omega arith

at_most : (w d : ℕ) → w < suc d → w ≤ d
at_most w d few = omega arith

polynomial_decided : (d n : ℕ) (terms : List Term) → All (λ term. Fades (suc d) 0 term.phase) terms
    → ((x : List Bool) → length x ≡ n → weight x ≤ d → phase_at terms x ≡ 0) → (x : List Bool) → length x ≡ n → phase_at terms x ≡ 0
polynomial_decided d n terms all light x l =
    sym (below_a_turn terms x)
    ∙ decided (suc d) n (phase_at terms) (ends-terms (suc d) n terms all)
    (λ y ly few. ap (λ k. k % turn) (light y ly (at_most (weight y) d few))) x l

pub eighths_decided : (n : ℕ) (terms : List Term) → All (λ term. IsEighths term.phase) terms
    → ((x : List Bool) → length x ≡ n → weight x ≤ 3 → phase_at terms x ≡ 0) → (x : List Bool) → length x ≡ n → phase_at terms x ≡ 0
eighths_decided n terms all = polynomial_decided 3 n terms (each terms all)
  where
    each : (terms : List Term) → All (λ term. IsEighths term.phase) terms → All (λ term. Fades 4 0 term.phase) terms
    each [] all = All-nil (λ term. Fades 4 0 term.phase)
    each (term ∷ terms) all =
        All-cons (λ term. Fades 4 0 term.phase) term terms (fades_eighths term.phase (All-head (λ term. IsEighths term.phase) term terms all))
        (each terms (All-tail (λ term. IsEighths term.phase) term terms all))

pub any_decided : (n : ℕ) (terms : List Term)
    → ((x : List Bool) → length x ≡ n → weight x ≤ 4 → phase_at terms x ≡ 0) → (x : List Bool) → length x ≡ n → phase_at terms x ≡ 0
any_decided n terms = polynomial_decided 4 n terms (each terms)
  where
    each : (terms : List Term) → All (λ term. Fades 5 0 term.phase) terms
    each [] = All-nil (λ term. Fades 5 0 term.phase)
    each (term ∷ terms) = All-cons (λ term. Fades 5 0 term.phase) term terms (fades_any term.phase) (each terms)
