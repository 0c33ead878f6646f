-- The maps of pairs and triples.
use Rattle.std.proofs.Common.{◌≡◌, inl, inr, ℕ, ◌<◌, Bool, true, false, ◌&&◌, eqb, List, length, set, refl, sym, ap, ap₂, ◌∙◌, subst}
use Rattle.std.proofs.lemmas.List.{set-set, set-get_or, get_or-set_same}
use Rattle.std.proofs.lemmas.Bool.{eqb-true, ne_eqb, or_cases, and_parts}
use mathlib.Core.Bool.{and_comm}
use Rattle.zx_model.specs.Phase.{half_turn, sum_of_phases}
use Rattle.zx_model.specs.Number.{Number, one, add, neg, mul, sign}
use Rattle.zx_model.specs.Bits.{xor, bit}
use Rattle.zx_model.proofs.Ring.{expand, one-mul, mul_assoc, mul-sign_same, add_left_comm, add-neg, add-zero}
use Rattle.zx_model.proofs.Powers.{root_power-half_turn}
use Rattle.zx_model.proofs.BitLemmas.{xor-xor}
use Rattle.zx_gates.specs.Circuit.{IsOnQubits}
use Rattle.zx_gates.specs.Maps.{act, acts, exchange}
use Rattle.zx_gates.specs.declared.gate.Gate.{Gate}
use Rattle.zx_gates.specs.declared.gate.Gate.TheVariants.{H, Phase, Cz, Cx, Not}
use Rattle.zx_gates.proofs.MapLemmas.{act-phase-phase}
use Rattle.zx_gates.proofs.UnitaryLemmas.{mixed, turned, exchanged, set_hadamard, set_phase, set_exchange, at_phase, act_on-bit, apply-exchange}
use Rattle.zx_peephole.specs.Tidy.{cancels_or_merges, is_turned}
use Rattle.zx_peephole.specs.Internal.Merging.{merged, doublings, conjugated}
use Rattle.zx_peephole.proofs.Acting.{negated, IsBlind, act-not, bit-blind, true-blind}
use Rattle.zx_gates.proofs.LoweringLemmas.{acts-phase_gates}
use Rattle.zx_model.specs.Internal.Powers.{power_of_two}

-- ---- on one bit
around : (a b : Number) → add a (add b (add b (neg a))) ≡ add b b
around a b = add_left_comm a b (add b (neg a)) ∙ ap (add b) (add_left_comm a b (neg a) ∙ ap (add b) (add-neg a) ∙ add-zero b)

mixed-mixed : (g : Bool → Number) (b : Bool) → mixed (mixed g) b ≡ mul (power_of_two 1) (g b)
mixed-mixed g false = simp expand
mixed-mixed g true = simp expand (around (g false) (g true))

mixed-turned-mixed : (g : Bool → Number) (b : Bool) → mixed (turned (neg one) (mixed g)) b ≡ mul (power_of_two 1) (exchanged g b)
mixed-turned-mixed g false = simp expand (around (g false) (g true))
mixed-turned-mixed g true = simp expand

mixed-exchanged-mixed : (g : Bool → Number) (b : Bool) → mixed (exchanged (mixed g)) b ≡ mul (power_of_two 1) (turned (neg one) g b)
mixed-exchanged-mixed g false = simp expand
mixed-exchanged-mixed g true = simp expand

-- ---- pairs
two_hadamards : (q : ℕ) (f : List Bool → Number) (z : List Bool) → q < length z
    → act (H q) (act (H q) f) z ≡ mul (power_of_two 1) (f z)
two_hadamards q f z within =
    ap (act (H q) (act (H q) f)) (sym (set-get_or z q false))
    ∙ set_hadamard q (act (H q) f) _ z within (set_hadamard q f (λ b. f (set z q b)) z within (λ b. refl)) (bit z q)
    ∙ mixed-mixed (λ b. f (set z q b)) (bit z q)
    ∙ ap (λ y. mul (power_of_two 1) (f y)) (set-get_or z q false)

negated_twice : (when : List Bool → Bool) (q : ℕ) (z : List Bool) → q < length z → IsBlind q when
    → negated when q (negated when q z) ≡ z
negated_twice when q z within blind =
    let v : Bool = xor (when z) (bit z q) in
    set-set z q v (xor (when (set z q v)) (bit (set z q v) q))
    ∙ ap (set z q) (ap₂ xor (blind z v) (get_or-set_same z q v false within) ∙ xor-xor (when z) (bit z q))
    ∙ set-get_or z q false

two_signs : (b : Bool) (x : Number) → mul (sign b) (mul (sign b) x) ≡ x
two_signs b x = sym (mul_assoc (sign b) (sign b) x) ∙ ap (λ s. mul s x) (mul-sign_same b) ∙ one-mul x

-- what is equal is once as much
once : (a b : Number) → a ≡ b → a ≡ mul (power_of_two 0) b
once a b e = e ∙ sym (one-mul b)

-- the gates of a pair, one after the other, are what they become, up to a power of two
pub pair_law : (n : ℕ) (g h : Gate) → cancels_or_merges g h ≡ true → IsOnQubits n g → (f : List Bool → Number) (z : List Bool) → length z ≡ n
    → act g (act h f) z ≡ mul (power_of_two (doublings g)) (acts (merged g h) f z)
pair_law n (H q) (H r) pair on f z l =
    ap (λ p. act (H q) (act (H p) f) z) (sym (eqb-true q r pair)) ∙ two_hadamards q f z (subst (λ m. q < m) (sym l) on)
pair_law n (Phase q j) (Phase r k) pair on f z l =
    once _ _ (
    ap (λ p. act (Phase p j) (act (Phase r k) f) z) (eqb-true q r pair)
    ∙ (λ i. act-phase-phase r j k f i z)
    ∙ sym (λ i. acts-phase_gates r (sum_of_phases j k) f i z)
    )
pair_law n (Not q) (Not r) pair on f z l =
    once _ _ (
    ap (λ p. act (Not q) (act (Not p) f) z) (sym (eqb-true q r pair))
    ∙ act-not q (act (Not q) f) z
    ∙ act-not q f (negated (λ y. true) q z)
    ∙ ap f (negated_twice (λ y. true) q z (subst (λ m. q < m) (sym l) on) (true-blind q))
    )
pair_law n (Cx c t) (Cx d u) pair on f z l =
    let each = and_parts (eqb c d) (eqb t u) pair in
    once _ _ (
    ap₂ (λ a b. act (Cx c t) (act (Cx a b) f) z) (sym (eqb-true c d each.0)) (sym (eqb-true t u each.1))
    ∙ ap f (negated_twice (λ y. bit y c) t z (subst (λ m. t < m) (sym l) on.1) (bit-blind c t (ne_eqb t c (λ e. on.2 (sym e)))))
    )
pair_law n (Cz q r) (Cz s t) pair on f z l =
    elim (or_cases (eqb q s && eqb r t) (eqb q t && eqb r s) pair) [
      | inl same ↦
          let each = and_parts (eqb q s) (eqb r t) same in
          once _ _ (
          ap₂ (λ a b. act (Cz q r) (act (Cz a b) f) z) (sym (eqb-true q s each.0)) (sym (eqb-true r t each.1))
          ∙ two_signs (bit z q && bit z r) (f z)
          )
      | inr crossed ↦
          let each = and_parts (eqb q t) (eqb r s) crossed in
          once _ _ (
          ap₂ (λ a b. act (Cz q r) (act (Cz a b) f) z) (sym (eqb-true r s each.1)) (sym (eqb-true q t each.0))
          ∙ ap (λ b. mul (sign (bit z q && bit z r)) (mul (sign b) (f z))) (and_comm (bit z r) (bit z q))
          ∙ two_signs (bit z q && bit z r) (f z)
          )
    ]
pair_law n g h pair on f z l = absurd (let h : false ≡ true = pair in cc)

-- ---- triples
phase_between : (q : ℕ) (f : List Bool → Number) (z : List Bool) → q < length z
    → act (H q) (act (Phase q half_turn) (act (H q) f)) z ≡ mul (power_of_two 1) (act (Not q) f z)
phase_between q f z within =
    ap (act (H q) (act (Phase q half_turn) (act (H q) f))) (sym (set-get_or z q false))
    ∙ set_hadamard q (act (Phase q half_turn) (act (H q) f)) _ z within
    (set_phase q half_turn (act (H q) f) _ z within (set_hadamard q f (λ b. f (set z q b)) z within (λ b. refl))) (bit z q)
    ∙ ap (λ p. mixed (turned p (mixed (λ b. f (set z q b)))) (bit z q)) root_power-half_turn
    ∙ mixed-turned-mixed (λ b. f (set z q b)) (bit z q)
    ∙ ap (mul (power_of_two 1)) (sym (act_on-bit exchange q f (λ b. f (set z q b)) z (λ b. refl) ∙ apply-exchange (λ b. f (set z q b)) (bit z q)))

not_between : (q : ℕ) (f : List Bool → Number) (z : List Bool) → q < length z
    → act (H q) (act (Not q) (act (H q) f)) z ≡ mul (power_of_two 1) (act (Phase q half_turn) f z)
not_between q f z within =
    ap (act (H q) (act (Not q) (act (H q) f))) (sym (set-get_or z q false))
    ∙ set_hadamard q (act (Not q) (act (H q) f)) _ z within
    (set_exchange q (act (H q) f) _ z within (set_hadamard q f (λ b. f (set z q b)) z within (λ b. refl))) (bit z q)
    ∙ mixed-exchanged-mixed (λ b. f (set z q b)) (bit z q)
    ∙ ap (λ p. mul (power_of_two 1) (turned p (λ b. f (set z q b)) (bit z q))) (sym root_power-half_turn)
    ∙ ap (mul (power_of_two 1)) (sym (at_phase q half_turn f (λ b. f (set z q b)) z (λ b. refl)))

-- H, a half turn or NOT, and H
pub triple_law : (n q : ℕ) (g : Gate) → is_turned q g ≡ true → q < n → (f : List Bool → Number) (z : List Bool) → length z ≡ n
    → act (H q) (act g (act (H q) f)) z ≡ mul (power_of_two 1) (act (conjugated g) f z)
triple_law n q (Phase p k) turned within f z l =
    let each = and_parts (eqb p q) (eqb k half_turn) turned in
    ap₂ (λ a b. act (H q) (act (Phase a b) (act (H q) f)) z) (eqb-true p q each.0) (eqb-true k half_turn each.1)
    ∙ phase_between q f z (subst (λ m. q < m) (sym l) within)
    ∙ ap (λ a. mul (power_of_two 1) (act (Not a) f z)) (sym (eqb-true p q each.0))
triple_law n q (Not p) turned within f z l =
    ap (λ a. act (H q) (act (Not a) (act (H q) f)) z) (eqb-true p q turned)
    ∙ not_between q f z (subst (λ m. q < m) (sym l) within)
    ∙ ap (λ a. mul (power_of_two 1) (act (Phase a half_turn) f z)) (sym (eqb-true p q turned))
triple_law n q g turned within f z l = absurd (let h : false ≡ true = turned in cc)
