-- Cx and Not by Hadamards, which give a factor two.
use Rattle.std.proofs.Common.{◌≡◌, ◌≢◌, sym, ◌∙◌, ap, ap₂, subst, refl, ℕ, ◌<◌, Bool, true, false, ◌&&◌, List, [], ◌∷◌, length, set}
use Rattle.std.proofs.lemmas.List.{set-get_or, get_or-set_same, get_or-set_other}
use Rattle.zx_model.specs.Phase.{half_turn}
use Rattle.zx_model.specs.Bits.{xor, bit}
use Rattle.zx_model.specs.Number.{Number, one, neg, mul, sign}
use Rattle.zx_model.proofs.Ring.{expand}
use Rattle.zx_model.proofs.Powers.{root_power-half_turn}
use Rattle.zx_model.specs.Constants.{two}
use Rattle.zx_calculus.proofs.Turning.{around}
use Rattle.zx_gates.specs.Maps.{act, acts, exchange}
use Rattle.zx_gates.specs.declared.gate.Gate.TheVariants.{H, Phase, Cz, Cx, Not}
use Rattle.zx_gates.proofs.UnitaryLemmas.{mixed, turned, exchanged, set_hadamard, set_phase, act_on-bit, apply-exchange}
use Rattle.circuit_laws.specs.Followed.{IsMultiple}

not_by_phase : (g : Bool → Number) (b : Bool) → mixed (turned (neg one) (mixed g)) b ≡ mul two (exchanged g b)
not_by_phase g false = simp expand (around (g false) (g true))
not_by_phase g true = simp expand

cx_by_cz : (g : Bool → Number) (l b : Bool) → mixed (λ b. mul (sign (l && b)) (mixed g b)) b ≡ mul two (g (xor l b))
cx_by_cz g false false = simp expand
cx_by_cz g false true = simp expand (around (g false) (g true))
cx_by_cz g true false = simp expand (around (g false) (g true))
cx_by_cz g true true = simp expand

not_by_hadamards : (q : ℕ) (f : List Bool → Number) (z : List Bool) → q < length z →
    acts (H q ∷ Phase q half_turn ∷ H q ∷ []) f z ≡ mul two (act (Not q) f z)
not_by_hadamards q f z within =
    ap (acts (H q ∷ Phase q half_turn ∷ H q ∷ []) f) (sym (set-get_or z q false))
    ∙ set_hadamard q (act (Phase q half_turn) (act (H q) f)) _ z within
    (set_phase q half_turn (act (H q) f) _ z within (set_hadamard q f (λ b. f (set z q b)) z within (λ b. refl))) (bit z q)
    ∙ ap (λ p. mixed (turned p (mixed (λ b. f (set z q b)))) (bit z q)) root_power-half_turn
    ∙ not_by_phase (λ b. f (set z q b)) (bit z q)
    ∙ ap (mul two) (sym (act_on-bit exchange q f (λ b. f (set z q b)) z (λ b. refl) ∙ apply-exchange (λ b. f (set z q b)) (bit z q)))

cx_by_hadamards : (c t : ℕ) (f : List Bool → Number) (z : List Bool) → t < length z → c ≢ t →
    acts (H t ∷ Cz c t ∷ H t ∷ []) f z ≡ mul two (act (Cx c t) f z)
cx_by_hadamards c t f z within apart =
    ap (acts (H t ∷ Cz c t ∷ H t ∷ []) f) (sym (set-get_or z t false))
    ∙ set_hadamard t (act (Cz c t) (act (H t) f)) (λ b. mul (sign (bit z c && b)) (mixed (λ d. f (set z t d)) b)) z within
    (λ b. ap₂ (λ l k. mul (sign (l && k)) (act (H t) f (set z t b))) (get_or-set_other z t c b false apart) (get_or-set_same z t b false within)
    ∙ ap (mul (sign (bit z c && b))) (set_hadamard t f (λ d. f (set z t d)) z within (λ d. refl) b)) (bit z t)
    ∙ cx_by_cz (λ b. f (set z t b)) (bit z c) (bit z t)

pub cx_by_three : (n c t : ℕ) → t < n → c ≢ t → IsMultiple two n (H t ∷ Cz c t ∷ H t ∷ []) (Cx c t ∷ [])
cx_by_three n c t within apart f z l = cx_by_hadamards c t f z (subst (λ m. t < m) (sym l) within) apart

pub not_by_three : (n q : ℕ) → q < n → IsMultiple two n (H q ∷ Phase q half_turn ∷ H q ∷ []) (Not q ∷ [])
not_by_three n q within f z l = not_by_hadamards q f z (subst (λ m. q < m) (sym l) within)
