-- Entries of maps by paths: they compute, so that maps are compared by computing.
use Rattle.std.specs.Prelude.{◌≡◌, ℕ, zero as nought, suc, ◌+◌, Bool, true, false, ◌&&◌, not, if◌then◌else◌, List, [], ◌∷◌, neg_ℤ, slice_set}
use Rattle.std.proofs.Common.{refl, sym, ap, ap₂, ◌∙◌}
use Rattle.zx_model.specs.Phase.{half_turn}
use Rattle.zx_model.specs.Cyclotomic.{Cyclotomic, eighth_root, mul_cyclotomic}
use Rattle.zx_model.specs.Number.{Number, zero, one, sixteenth_root, add, mul, sign, root_power}
use Rattle.zx_model.specs.Bits.{xor, bit}
use Rattle.zx_model.proofs.CyclotomicRing as Cyclotomic
use Rattle.zx_model.proofs.CyclotomicRing.{expand_cyclotomic}
use Rattle.zx_model.proofs.Ring.{expand, same, mul-one, mul-zero, mul_assoc}
use Rattle.zx_model.proofs.Whole.{units}
use Rattle.zx_model.proofs.Powers.{root_power-add, root_power-half_turn}
use Rattle.zx_gates.specs.Maps.{amp, phase, exchange, same_bits}
use Rattle.zx_gates.specs.declared.gate.Gate.{Gate}
use Rattle.zx_gates.specs.declared.gate.Gate.TheVariants.{H, Phase, Cz, Cx, Not}
use Rattle.zx_gates.proofs.MapLemmas.{act-phase}

-- w times an element of Z[w]
abbrev eighth_root_times : Cyclotomic → Cyclotomic
eighth_root_times a = record { c0 = neg_ℤ a.c3; c1 = a.c0; c2 = a.c1; c3 = a.c2 }

eighth_root-mul : (a : Cyclotomic) → mul_cyclotomic eighth_root a ≡ eighth_root_times a
unfolding mul_cyclotomic
eighth_root-mul a = Cyclotomic.same _ _ (simp units) (simp units) (simp units) (simp units)

-- z times a number, and powers of z
abbrev root_times : Number → Number
root_times a = record { plain = eighth_root_times a.turned; turned = a.plain }

abbrev pub power : ℕ → Number
power nought = one
power (suc k) = root_times (power k)

root-mul : (a : Number) → mul sixteenth_root a ≡ root_times a
unfolding mul
root-mul a = same _ _ ((simp expand_cyclotomic) ∙ eighth_root-mul a.turned) (simp expand_cyclotomic)

pub root_power-is : (k : ℕ) → root_power k ≡ power k
unfolding root_power
root_power-is nought = refl
root_power-is (suc k) = root-mul (root_power k) ∙ ap root_times (root_power-is k)

-- the phase by which a bit turns
abbrev by_bit : Bool → ℕ → ℕ
by_bit b k = if b then k else 0

-- the sum of the paths from x to y, after a path of phase k
abbrev pub paths : List Gate → ℕ → List Bool → List Bool → Number
paths [] k x y = if same_bits x y then power k else zero
paths (H q ∷ gates) k x y =
    add (paths gates k (slice_set x q false) y) (paths gates (k + by_bit (bit x q) half_turn) (slice_set x q true) y)
paths (Phase q j ∷ gates) k x y = paths gates (k + by_bit (bit x q) j) x y
paths (Cz q r ∷ gates) k x y = paths gates (k + by_bit (bit x q && bit x r) half_turn) x y
paths (Cx control target ∷ gates) k x y = paths gates k (slice_set x target (xor (bit x control) (bit x target))) y
paths (Not q ∷ gates) k x y = paths gates k (slice_set x q (not (bit x q))) y

by_bit-half_turn : (b : Bool) → root_power (by_bit b half_turn) ≡ sign b
unfolding root_power
by_bit-half_turn false = refl
by_bit-half_turn true = root_power-half_turn

by_bit-phase : (b : Bool) (j : ℕ) → root_power (by_bit b j) ≡ phase j b b
unfolding root_power
by_bit-phase false j = refl
by_bit-phase true j = refl

-- a factor that moves into the phase of a path
moved : (k : ℕ) (j : ℕ) (s t : Number) → root_power j ≡ s → mul (root_power (k + j)) t ≡ mul (root_power k) (mul s t)
moved k j s t e = ap (λ r. mul r t) (root_power-add k j ∙ ap (mul (root_power k)) e) ∙ mul_assoc (root_power k) s t

ends : (k : ℕ) (b : Bool) → (if b then power k else zero) ≡ mul (root_power k) (if b then one else zero)
ends k true = sym (mul-one (root_power k) ∙ root_power-is k)
ends k false = sym (mul-zero (root_power k))

mixed : (r s t u : Number) → add (mul r s) (mul r (mul u t)) ≡ mul r (add (mul one s) (mul u t))
mixed r s t u = simp expand

exchanged : (b : Bool) (at : Bool → Number) → at (not b) ≡ add (mul (exchange false b) (at false)) (mul (exchange true b) (at true))
exchanged false at = simp expand
exchanged true at = simp expand

pub paths-amp : (gates : List Gate) (k : ℕ) (x y : List Bool) → paths gates k x y ≡ mul (root_power k) (amp gates x y)
paths-amp [] k x y = ends k (same_bits x y)
paths-amp (H q ∷ gates) k x y =
    ap₂ add (paths-amp gates k (slice_set x q false) y)
    (paths-amp gates (k + by_bit (bit x q) half_turn) (slice_set x q true) y ∙ moved k (by_bit (bit x q) half_turn) _ _ (by_bit-half_turn (bit x q)))
    ∙ mixed (root_power k) (amp gates (slice_set x q false) y) (amp gates (slice_set x q true) y) (sign (bit x q))
paths-amp (Phase q j ∷ gates) k x y =
    paths-amp gates (k + by_bit (bit x q) j) x y ∙ moved k (by_bit (bit x q) j) _ _ (by_bit-phase (bit x q) j)
    ∙ ap (mul (root_power k)) (sym (act-phase q j (λ z. amp gates z y) x))
paths-amp (Cz q r ∷ gates) k x y =
    paths-amp gates (k + by_bit (bit x q && bit x r) half_turn) x y ∙ moved k (by_bit (bit x q && bit x r) half_turn) _ _ (by_bit-half_turn (bit x q && bit x r))
paths-amp (Cx control target ∷ gates) k x y = paths-amp gates k (slice_set x target (xor (bit x control) (bit x target))) y
paths-amp (Not q ∷ gates) k x y =
    paths-amp gates k (slice_set x q (not (bit x q))) y
    ∙ ap (mul (root_power k)) (exchanged (bit x q) (λ b. amp gates (slice_set x q b) y))
