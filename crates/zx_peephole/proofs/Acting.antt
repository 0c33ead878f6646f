-- How gates act: by weights on what one bit may become, by a factor, or by negating a bit.
use Rattle.std.proofs.Common.{◌≡◌, ◌≢◌, ◌⊎◌, inl, inr, ℕ, ◌<◌, ◌≤◌, Bool, true, false, not, ◌&&◌, ◌||◌, eqb, List, length, set, refl, sym, ap, ap₂, ◌∙◌, subst}
use Rattle.std.proofs.lemmas.List.{set_comm, set-set, set_past, set-get_or, get_or-set_same, get_or-set_other}
use Rattle.std.proofs.lemmas.Bool.{eqb-false, eq-eqb, cases_eq, cases_lt, or_parts, or_right}
use Rattle.zx_model.specs.Number.{Number, zero, one, add, mul, sign}
use Rattle.zx_model.specs.Bits.{xor, bit}
use Rattle.zx_model.proofs.Ring.{expand, one-mul}
use Rattle.zx_model.proofs.BitLemmas.{xor_left_comm}
use Rattle.zx_gates.specs.Maps.{Matrix, hadamard, exchange, phase, act}
use Rattle.zx_gates.specs.declared.gate.Gate.{Gate}
use Rattle.zx_gates.specs.declared.gate.Gate.TheVariants.{H, Phase, Cz, Cx, Not}
use Rattle.zx_gates.proofs.MapLemmas.{act-phase}
use Rattle.zx_gates.proofs.UnitaryLemmas.{exchanged, act_on-bit, apply-exchange}
use Rattle.zx_peephole.specs.Commuting.{is_on, is_diagonal}

-- ---- by weights
-- what follows, over what the bit of a qubit may become, each with its weight
abbrev pub spread : (List Bool → Bool → Number) → ℕ → (List Bool → Number) → List Bool → Number
spread weight q f x = add (mul (weight x false) (f (set x q false))) (mul (weight x true) (f (set x q true)))

-- the weights don't depend on the bit of a qubit
abbrev pub IsUnseen : ℕ → (List Bool → Bool → Number) → Type 0
IsUnseen q weight = (x : List Bool) (c b : Bool) → weight (set x q c) b ≡ weight x b

exchange_sums : (w w' v v' f f' g g' : Number)
    → add (mul w (add (mul v f) (mul v' f'))) (mul w' (add (mul v g) (mul v' g')))
    ≡ add (mul v (add (mul w f) (mul w' g))) (mul v' (add (mul w f') (mul w' g')))
exchange_sums w w' v v' f f' g g' = simp expand

-- weights on two qubits, neither of which sees the other's
pub spread-spread : (w v : List Bool → Bool → Number) (q r : ℕ) → q ≢ r → IsUnseen r w → IsUnseen q v
    → (f : List Bool → Number) (x : List Bool) → spread w q (spread v r f) x ≡ spread v r (spread w q f) x
spread-spread w v q r apart w_unseen v_unseen f x =
    ap₂ (λ s t. add (mul (w x false) s) (mul (w x true) t)) (first false) (first true)
    ∙ exchange_sums (w x false) (w x true) (v x false) (v x true) _ _ _ _
    ∙ sym (ap₂ (λ s t. add (mul (v x false) s) (mul (v x true) t)) (second false) (second true))
  where
    at : Bool → Bool → Number
    at a b = f (set (set x q a) r b)

    first : (a : Bool) → spread v r f (set x q a) ≡ add (mul (v x false) (at a false)) (mul (v x true) (at a true))
    first a = ap₂ (λ s t. add (mul s (at a false)) (mul t (at a true))) (v_unseen x a false) (v_unseen x a true)

    second : (b : Bool) → spread w q f (set x r b) ≡ add (mul (w x false) (at false b)) (mul (w x true) (at true b))
    second b =
        ap₂ (λ s t. add (mul s (f (set (set x r b) q false))) (mul t (f (set (set x r b) q true)))) (w_unseen x b false) (w_unseen x b true)
        ∙ ap₂ (λ s t. add (mul (w x false) (f s)) (mul (w x true) (f t))) (sym (set_comm x q r false b apart)) (sym (set_comm x q r true b apart))

-- weights of a gate, on one of its qubits
pub record Spreads (g : Gate) : Type 0 where
  pub place : ℕ
  pub weight : List Bool → Bool → Number
  pub is : (f : List Bool → Number) (x : List Bool) → act g f x ≡ spread weight place f x
  pub on : is_on place g ≡ true
  pub unseen : (q : ℕ) → is_on q g ≡ false → IsUnseen q weight

-- the weight of what the bit becomes, where it becomes c
abbrev chosen : Bool → Bool → Number
chosen false false = one
chosen true true = one
chosen false true = zero
chosen true false = zero

pick : (s : Number) (c : Bool) (at : Bool → Number)
    → mul s (at c) ≡ add (mul (mul s (chosen c false)) (at false)) (mul (mul s (chosen c true)) (at true))
pick s false at = simp expand
pick s true at = simp expand

-- the bit of another qubit stays
bit-other : (x : List Bool) (p q : ℕ) (c : Bool) → eqb p q ≡ false → bit (set x q c) p ≡ bit x p
bit-other x p q c off = get_or-set_other x q p c false (eqb-false p q off)

bits-other : (x : List Bool) (p r q : ℕ) (c : Bool) (f : Bool → Bool → Number) → (eqb p q || eqb r q) ≡ false
    → f (bit (set x q c) p) (bit (set x q c) r) ≡ f (bit x p) (bit x r)
bits-other x p r q c f off =
    let each = or_parts (eqb p q) (eqb r q) off in ap₂ f (bit-other x p q c each.0) (bit-other x r q c each.1)

-- a gate of one qubit, by its matrix
spreads_by : (g : Gate) (q : ℕ) (m : Matrix) → ((p : ℕ) → is_on p g ≡ eqb q p)
    → ((f : List Bool → Number) (x : List Bool) → act g f x ≡ spread (λ y b. m b (bit y q)) q f x) → Spreads g
spreads_by g q m on acts = record {
  place = q;
  weight = λ x b. m b (bit x q);
  is = acts;
  on = on q ∙ eq-eqb q q refl;
  unseen = λ p off x c b. ap (m b) (bit-other x q p c (sym (on p) ∙ off));
}

pub spreads : (g : Gate) → Spreads g
spreads (H q) = spreads_by (H q) q hadamard (λ p. refl) (λ f x. refl)
spreads (Phase q k) = spreads_by (Phase q k) q (phase k) (λ p. refl) (λ f x. refl)
spreads (Not q) = spreads_by (Not q) q exchange (λ p. refl) (λ f x. refl)
spreads (Cz q r) = record {
  place = r;
  weight = λ x b. mul (sign (bit x q && bit x r)) (chosen (bit x r) b);
  is = λ f x.
      ap (λ z. mul (sign (bit x q && bit x r)) (f z)) (sym (set-get_or x r false))
      ∙ pick (sign (bit x q && bit x r)) (bit x r) (λ b. f (set x r b));
  on = or_right (eqb q r) (eqb r r) (eq-eqb r r refl);
  unseen = λ p off x c b. bits-other x q r p c (λ s t. mul (sign (s && t)) (chosen t b)) off;
}
spreads (Cx control target) = record {
  place = target;
  weight = λ x b. mul one (chosen (xor (bit x control) (bit x target)) b);
  is = λ f x. sym (one-mul _) ∙ pick one (xor (bit x control) (bit x target)) (λ b. f (set x target b));
  on = or_right (eqb control target) (eqb target target) (eq-eqb target target refl);
  unseen = λ p off x c b. bits-other x control target p c (λ s t. mul one (chosen (xor s t) b)) off;
}

-- ---- by a factor
-- a diagonal gate multiplies by a factor that the bits of its qubits decide
pub record Scales (g : Gate) : Type 0 where
  pub factor : List Bool → Number
  pub is : (f : List Bool → Number) (x : List Bool) → act g f x ≡ mul (factor x) (f x)
  pub unseen : (q : ℕ) → is_on q g ≡ false → (x : List Bool) (c : Bool) → factor (set x q c) ≡ factor x

pub scales : (g : Gate) → is_diagonal g ≡ true → Scales g
scales (Phase q k) diagonal = record {
  factor = λ x. phase k (bit x q) (bit x q);
  is = λ f x. act-phase q k f x;
  unseen = λ p off x c. ap (λ b. phase k b b) (bit-other x q p c off);
}
scales (Cz q r) diagonal = record {
  factor = λ x. sign (bit x q && bit x r);
  is = λ f x. refl;
  unseen = λ p off x c. bits-other x q r p c (λ s t. sign (s && t)) off;
}
scales other diagonal = absurd (let h : false ≡ true = diagonal in cc)

-- ---- by negating
-- the bit of a qubit is negated where a function of the bits says so
abbrev pub negated : (List Bool → Bool) → ℕ → List Bool → List Bool
negated when q x = set x q (xor (when x) (bit x q))

abbrev pub IsBlind : ℕ → (List Bool → Bool) → Type 0
IsBlind q when = (x : List Bool) (c : Bool) → when (set x q c) ≡ when x

negated_same : (e d : Bool) (q : ℕ) (x : List Bool) → (q < length x) ⊎ (length x ≤ q)
    → set (set x q (xor e (bit x q))) q (xor d (bit (set x q (xor e (bit x q))) q))
    ≡ set (set x q (xor d (bit x q))) q (xor e (bit (set x q (xor d (bit x q))) q))
negated_same e d q x (inl within) =
    set-set x q (xor e (bit x q)) _
    ∙ ap (set x q) (ap (xor d) (get_or-set_same x q (xor e (bit x q)) false within)
    ∙ xor_left_comm d e (bit x q)
    ∙ ap (xor e) (sym (get_or-set_same x q (xor d (bit x q)) false within)))
    ∙ sym (set-set x q (xor d (bit x q)) _)
negated_same e d q x (inr past) =
    set-set x q (xor e (bit x q)) _ ∙ set_past x q _ past ∙ sym (set_past x q _ past) ∙ sym (set-set x q (xor d (bit x q)) _)

-- two negations, where neither decides on the other
pub negated-negated : (e d : List Bool → Bool) (q r : ℕ) → IsBlind r e → IsBlind q d → (x : List Bool)
    → negated d r (negated e q x) ≡ negated e q (negated d r x)
negated-negated e d q r e_blind d_blind x =
    ap (λ s. set (negated e q x) r (xor s (bit (negated e q x) r))) (d_blind x (xor (e x) (bit x q)))
    ∙ elim (cases_eq q r) [ inl same ↦ alike same | inr differ ↦ apart differ ]
    ∙ sym (ap (λ s. set (negated d r x) q (xor s (bit (negated d r x) q))) (e_blind x (xor (d x) (bit x r))))
  where
    Swaps : ℕ → Type 0
    Swaps p = set (negated e q x) p (xor (d x) (bit (negated e q x) p)) ≡ set (negated d p x) q (xor (e x) (bit (negated d p x) q))

    alike : q ≡ r → Swaps r
    alike same = subst Swaps same (negated_same (e x) (d x) q x (cases_lt q (length x)))

    apart : q ≢ r → Swaps r
    apart differ =
        ap (λ b. set (negated e q x) r (xor (d x) b)) (get_or-set_other x q r (xor (e x) (bit x q)) false (λ s. differ (sym s)))
        ∙ set_comm x q r (xor (e x) (bit x q)) (xor (d x) (bit x r)) differ
        ∙ ap (λ b. set (negated d r x) q (xor (e x) b)) (sym (get_or-set_other x r q (xor (d x) (bit x r)) false differ))

exchanged-not : (g : Bool → Number) (b : Bool) → exchanged g b ≡ g (not b)
exchanged-not g false = refl
exchanged-not g true = refl

pub act-not : (q : ℕ) (f : List Bool → Number) (x : List Bool) → act (Not q) f x ≡ f (negated (λ y. true) q x)
act-not q f x =
    act_on-bit exchange q f (λ b. f (set x q b)) x (λ b. refl)
    ∙ apply-exchange (λ b. f (set x q b)) (bit x q)
    ∙ exchanged-not (λ b. f (set x q b)) (bit x q)

pub bit-blind : (control q : ℕ) → eqb q control ≡ false → IsBlind q (λ y. bit y control)
bit-blind control q off x c = get_or-set_other x q control c false (λ e. eqb-false q control off (sym e))

pub true-blind : (q : ℕ) → IsBlind q (λ y. true)
true-blind q x c = refl
