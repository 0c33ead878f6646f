-- Maps of one and two qubits, entry by entry.
use Rattle.std.proofs.Common.{sym, ◌∙◌, ◌≡◌, ◌≢◌, subst, ℕ, Bool, true, false, List, [], ◌∷◌, length, arith, refl, pos, ap}
use Rattle.zx_model.specs.Phase.{half_turn, quarter_turn, eighth_turn, sum_of_phases}
use Rattle.zx_model.specs.Cyclotomic.{add_cyclotomic, mul_cyclotomic}
use Rattle.zx_model.specs.Number.{Number, zero, one, add, neg, mul, root_power}
use Rattle.zx_model.specs.Proportional.{Proportional}
use Rattle.zx_model.proofs.Ring.{mul-one}
use Rattle.zx_model.proofs.Powers.{root_power-half_turn, root_power-nonzero}
use Rattle.zx_model.proofs.Domain.{mul_left_cancel}
use Rattle.zx_model.proofs.ProportionalLemmas.{proportional_of_scaled, proportional_refl}
use Rattle.zx_gates.specs.Maps.{amp, phase}
use Rattle.zx_gates.specs.declared.gate.Gate.TheVariants.{Phase}
use Rattle.zx_gates.proofs.MapLemmas.{act-phase, act-phase-phase, act-phase-zero}

-- what holds of every list of one bit holds of a list of length 1
pub one_bit : (P : List Bool → Type 0) (x : List Bool) → length x ≡ 1 → ((a : Bool) → P (a ∷ [])) → P x
one_bit P [] l h = absurd (omega arith)
one_bit P (a ∷ []) l h = h a
one_bit P (a ∷ b ∷ x) l h = absurd (omega arith)

pub two_bits : (P : List Bool → Type 0) (x : List Bool) → length x ≡ 2 → ((a b : Bool) → P (a ∷ b ∷ [])) → P x
two_bits P [] l h = absurd (omega arith)
two_bits P (a ∷ []) l h = absurd (omega arith)
two_bits P (a ∷ b ∷ []) l h = h a b
two_bits P (a ∷ b ∷ c ∷ x) l h = absurd (omega arith)

-- what holds at both bits holds at each
pub each_bit : (P : Bool → Type 0) → P false → P true → (a : Bool) → P a
each_bit P f t false = f
each_bit P f t true = t

pub each_pair : (P : Bool → Bool → Type 0) → P false false → P false true → P true false → P true true → (a b : Bool) → P a b
each_pair P ff ft tf tt' a b = each_bit (λ a. P a b) (each_bit (P false) ff ft b) (each_bit (P true) tf tt' b) a

pub on_one_qubit : (c d : Number) → c ≢ zero → d ≢ zero → (f g : List Bool → List Bool → Number)
    → ((a b : Bool) → mul c (f (a ∷ []) (b ∷ [])) ≡ mul d (g (a ∷ []) (b ∷ []))) → Proportional 1 1 f g
on_one_qubit c d p q f g entries = proportional_of_scaled 1 1 f g c d p q
    (λ x y lx ly. one_bit (λ x'. mul c (f x' y) ≡ mul d (g x' y)) x lx
    (λ a. one_bit (λ y'. mul c (f (a ∷ []) y') ≡ mul d (g (a ∷ []) y')) y ly (λ b. entries a b)))

pub on_two_qubits : (c d : Number) → c ≢ zero → d ≢ zero → (f g : List Bool → List Bool → Number)
    → ((a a' b b' : Bool) → mul c (f (a ∷ a' ∷ []) (b ∷ b' ∷ [])) ≡ mul d (g (a ∷ a' ∷ []) (b ∷ b' ∷ []))) → Proportional 2 2 f g
on_two_qubits c d p q f g entries = proportional_of_scaled 2 2 f g c d p q
    (λ x y lx ly. two_bits (λ x'. mul c (f x' y) ≡ mul d (g x' y)) x lx
    (λ a a'. two_bits (λ y'. mul c (f (a ∷ a' ∷ []) y') ≡ mul d (g (a ∷ a' ∷ []) y')) y ly (λ b b'. entries a a' b b')))

-- what is to hold at each pair of bits
abbrev pub EachPair : (Bool → Bool → Type 0) → Type 0
EachPair P = P false false × P false true × P true false × P true true

pub at_each_pair : (P : Bool → Bool → Type 0) → EachPair P → (a b : Bool) → P a b
at_each_pair P each = each_pair P each.0 each.1 each.2 each.3

-- maps by their entries
pub one_qubit_entries : (c d : Number) → c ≢ zero → d ≢ zero → (f g : List Bool → List Bool → Number)
    → EachPair (λ a b. mul c (f (a ∷ []) (b ∷ [])) ≡ mul d (g (a ∷ []) (b ∷ []))) → Proportional 1 1 f g
one_qubit_entries c d p q f g entries = on_one_qubit c d p q f g (at_each_pair (λ a b. mul c (f (a ∷ []) (b ∷ [])) ≡ mul d (g (a ∷ []) (b ∷ []))) entries)

pub two_qubit_entries : (c d : Number) → c ≢ zero → d ≢ zero → (f g : List Bool → List Bool → Number)
    → EachPair (λ a a'. EachPair (λ b b'. mul c (f (a ∷ a' ∷ []) (b ∷ b' ∷ [])) ≡ mul d (g (a ∷ a' ∷ []) (b ∷ b' ∷ [])))) → Proportional 2 2 f g
two_qubit_entries c d p q f g entries = on_two_qubits c d p q f g (λ a a'. at_each_pair (row a a') (at_each_pair (λ a a'. EachPair (row a a')) entries a a'))
  where
    row : Bool → Bool → Bool → Bool → Type 0
    row a a' b b' = mul c (f (a ∷ a' ∷ []) (b ∷ b' ∷ [])) ≡ mul d (g (a ∷ a' ∷ []) (b ∷ b' ∷ []))

-- two phase gates are that of the sum
pub two_phases : (j k : ℕ) → Proportional 1 1 (amp (Phase 0 j ∷ Phase 0 k ∷ [])) (amp (Phase 0 (sum_of_phases j k) ∷ []))
two_phases j k =
    subst (Proportional 1 1 (amp (Phase 0 j ∷ Phase 0 k ∷ []))) (λ i x y. act-phase-phase 0 j k (λ z. amp [] z y) i x)
    (proportional_refl 1 1 (amp (Phase 0 j ∷ Phase 0 k ∷ [])))

pub no_phase : Proportional 1 1 (amp (Phase 0 0 ∷ [])) (amp [])
no_phase = subst (Proportional 1 1 (amp (Phase 0 0 ∷ []))) (λ i x y. act-phase-zero 0 (λ z. amp [] z y) i x) (proportional_refl 1 1 (amp (Phase 0 0 ∷ [])))

pub root_nonzero : root_power eighth_turn ≢ zero
root_nonzero = root_power-nonzero eighth_turn

-- the entries of Z in the column of 1
pub half_turn_at_one : (b : Bool) → amp (Phase 0 half_turn ∷ []) (true ∷ []) (b ∷ []) ≡ mul (neg one) (amp [] (true ∷ []) (b ∷ []))
half_turn_at_one b =
    act-phase 0 half_turn (λ z. amp [] z (b ∷ [])) (true ∷ []) ∙ ap (λ r. mul r (amp [] (true ∷ []) (b ∷ []))) root_power-half_turn

-- the entries of a phase gate at equal bits
phase_entry : (k : ℕ) (b : Bool) → amp (Phase 0 k ∷ []) (b ∷ []) (b ∷ []) ≡ phase k b b
phase_entry k false = act-phase 0 k (λ z. amp [] z (false ∷ [])) (false ∷ []) ∙ mul-one one
phase_entry k true = act-phase 0 k (λ z. amp [] z (true ∷ [])) (true ∷ []) ∙ mul-one (root_power k)

roots_differ : root_power eighth_turn ≡ root_power quarter_turn → ⊥
unfolding add mul root_power add_cyclotomic mul_cyclotomic
roots_differ e = let h : pos 1 ≡ pos 0 = ap (λ x. x.plain.c1) e in cc

-- the constants of a proportion are the same by the entry at 0, and z^2 isn't z^4
pub not_proportional : Proportional 1 1 (amp (Phase 0 eighth_turn ∷ [])) (amp (Phase 0 quarter_turn ∷ [])) → ⊥
not_proportional p =
    let at_zero : mul p.left one ≡ mul p.right one =
    ap (mul p.left) (sym (phase_entry eighth_turn false)) ∙ p.equal (false ∷ []) (false ∷ []) refl refl ∙ ap (mul p.right) (phase_entry quarter_turn false) in
    let at_one : mul p.left (root_power eighth_turn) ≡ mul p.right (root_power quarter_turn) =
    ap (mul p.left) (sym (phase_entry eighth_turn true)) ∙ p.equal (true ∷ []) (true ∷ []) refl refl ∙ ap (mul p.right) (phase_entry quarter_turn true) in
    let same : p.left ≡ p.right = sym (mul-one p.left) ∙ at_zero ∙ mul-one p.right in
    roots_differ (mul_left_cancel p.right (root_power eighth_turn) (root_power quarter_turn) p.right_nonzero (ap (λ c. mul c (root_power eighth_turn)) (sym same) ∙ at_one))
