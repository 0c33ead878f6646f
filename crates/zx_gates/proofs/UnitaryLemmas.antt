-- Matrices on one qubit: in a row they are functions of one bit, and U is one of four short rows.
use Rattle.std.proofs.Common.{◌≡◌, ℕ, ◌<◌, Bool, true, false, List, length, set, ap, ap₂, ◌∙◌}
use Rattle.std.proofs.lemmas.List.{set-set, get_or-set_same}
use Rattle.zx_model.specs.Number.{Number, zero, one, add, neg, mul, root_power}
use Rattle.zx_model.specs.Bits.{bit}
use Rattle.zx_model.proofs.Ring.{expand, zero-mul, zero-add}
use Rattle.zx_gates.specs.Maps.{Matrix, hadamard, phase, exchange, act_on, act}
use Rattle.zx_gates.specs.declared.gate.Gate.TheVariants.{H, Phase, Not}

-- ---- one bit
-- what a matrix makes of a function of the bit after it
abbrev pub apply : Matrix → (Bool → Number) → Bool → Number
apply m g b = add (mul (m false b) (g false)) (mul (m true b) (g true))

-- the same for a phase, for H and for NOT
abbrev pub turned : Number → (Bool → Number) → Bool → Number
turned p g false = g false
turned p g true = mul p (g true)

abbrev pub mixed : (Bool → Number) → Bool → Number
mixed g false = add (g false) (g true)
mixed g true = add (g false) (neg (g true))

abbrev pub exchanged : (Bool → Number) → Bool → Number
exchanged g false = g true
exchanged g true = g false

pub apply-phase : (k : ℕ) (g : Bool → Number) (b : Bool) → apply (phase k) g b ≡ turned (root_power k) g b
apply-phase k g false = simp expand
apply-phase k g true = ap (λ s. add s (mul (root_power k) (g true))) (zero-mul (g false)) ∙ zero-add _

pub apply-hadamard : (g : Bool → Number) (b : Bool) → apply hadamard g b ≡ mixed g b
apply-hadamard g false = simp expand
apply-hadamard g true = simp expand

pub apply-exchange : (g : Bool → Number) (b : Bool) → apply exchange g b ≡ exchanged g b
apply-exchange g false = simp expand
apply-exchange g true = simp expand

-- ---- from a qubit to a bit
pub act_on-bit : (m : Matrix) (q : ℕ) (f : List Bool → Number) (g : Bool → Number) (x : List Bool)
    → ((b : Bool) → f (set x q b) ≡ g b) → act_on m q f x ≡ apply m g (bit x q)
act_on-bit m q f g x e = ap₂ (λ s t. add (mul (m false (bit x q)) s) (mul (m true (bit x q)) t)) (e false) (e true)

-- the same where the bit was set before
pub act_on-set : (m : Matrix) (q : ℕ) (f : List Bool → Number) (g : Bool → Number) (x : List Bool) → q < length x
    → ((b : Bool) → f (set x q b) ≡ g b) → (b : Bool) → act_on m q f (set x q b) ≡ apply m g b
act_on-set m q f g x within e b =
    act_on-bit m q f g (set x q b) (λ c. ap f (set-set x q b c) ∙ e c) ∙ ap (apply m g) (get_or-set_same x q b false within)

-- a phase, H and NOT where the bit was set before
pub set_phase : (q k : ℕ) (f : List Bool → Number) (g : Bool → Number) (x : List Bool) → q < length x
    → ((b : Bool) → f (set x q b) ≡ g b) → (b : Bool) → act (Phase q k) f (set x q b) ≡ turned (root_power k) g b
set_phase q k f g x within e b = act_on-set (phase k) q f g x within e b ∙ apply-phase k g b

pub set_hadamard : (q : ℕ) (f : List Bool → Number) (g : Bool → Number) (x : List Bool) → q < length x
    → ((b : Bool) → f (set x q b) ≡ g b) → (b : Bool) → act (H q) f (set x q b) ≡ mixed g b
set_hadamard q f g x within e b = act_on-set hadamard q f g x within e b ∙ apply-hadamard g b

pub set_exchange : (q : ℕ) (f : List Bool → Number) (g : Bool → Number) (x : List Bool) → q < length x
    → ((b : Bool) → f (set x q b) ≡ g b) → (b : Bool) → act (Not q) f (set x q b) ≡ exchanged g b
set_exchange q f g x within e b = act_on-set exchange q f g x within e b ∙ apply-exchange g b

-- a phase where it wasn't
pub at_phase : (q k : ℕ) (f : List Bool → Number) (g : Bool → Number) (x : List Bool)
    → ((b : Bool) → f (set x q b) ≡ g b) → act (Phase q k) f x ≡ turned (root_power k) g (bit x q)
at_phase q k f g x e = act_on-bit (phase k) q f g x e ∙ apply-phase k g (bit x q)

-- ---- the rows
-- the numbers in the rows of a matrix
pub record HasRows (m : Matrix) (a b c d : Number) : Type 0 where
  pub first : m false false ≡ a
  pub second : m false true ≡ b
  pub third : m true false ≡ c
  pub fourth : m true true ≡ d

-- what a matrix with these rows makes
abbrev pub by_rows : Number → Number → Number → Number → (Bool → Number) → Bool → Number
by_rows a b c d g false = add (mul a (g false)) (mul c (g true))
by_rows a b c d g true = add (mul b (g false)) (mul d (g true))

pub apply-rows : (m : Matrix) (a b c d : Number) → HasRows m a b c d → (g : Bool → Number) (e : Bool) → apply m g e ≡ by_rows a b c d g e
apply-rows m a b c d rows g false = ap₂ (λ s t. add (mul s (g false)) (mul t (g true))) rows.first rows.third
apply-rows m a b c d rows g true = ap₂ (λ s t. add (mul s (g false)) (mul t (g true))) rows.second rows.fourth

pub act_on-rows : (m : Matrix) (a b c d : Number) → HasRows m a b c d → (q : ℕ) (f : List Bool → Number) (x : List Bool)
    → act_on m q f x ≡ by_rows a b c d (λ e. f (set x q e)) (bit x q)
act_on-rows m a b c d rows q f x = apply-rows m a b c d rows (λ e. f (set x q e)) (bit x q)

-- a phase, H, a phase, H, and a phase
two_mixed_false : (a r s t : Number) → add (mul (add one a) s) (mul (neg (mul r (add a (neg one)))) t)
    ≡ mul one (add (add s (mul r t)) (mul a (add s (neg (mul r t)))))
two_mixed_false a r s t = simp expand

two_mixed_true : (p a r s t : Number) → add (mul (neg (mul p (add a (neg one)))) s) (mul (mul (mul p r) (add one a)) t)
    ≡ mul one (mul p (add (add s (mul r t)) (neg (mul a (add s (neg (mul r t)))))))
two_mixed_true p a r s t = simp expand

pub two_mixed : (p a r : Number) (g : Bool → Number) (b : Bool)
    → by_rows (add one a) (neg (mul p (add a (neg one)))) (neg (mul r (add a (neg one)))) (mul (mul p r) (add one a)) g b
    ≡ mul one (turned p (mixed (turned a (mixed (turned r g)))) b)
two_mixed p a r g false = two_mixed_false a r (g false) (g true)
two_mixed p a r g true = two_mixed_true p a r (g false) (g true)

-- a phase, H, and a phase
pub one_mixed : (d p r : Number) (g : Bool → Number) (b : Bool)
    → by_rows d (mul d p) (mul d r) (neg (mul d (mul p r))) g b ≡ mul d (turned p (mixed (turned r g)) b)
one_mixed d p r g false = simp expand
one_mixed d p r g true = simp expand

-- a phase
pub none_mixed : (d p : Number) (g : Bool → Number) (b : Bool) → by_rows d zero zero (mul d p) g b ≡ mul d (turned p g b)
none_mixed d p g false = simp expand
none_mixed d p g true = simp expand

-- a phase and NOT
pub one_exchanged : (d p : Number) (g : Bool → Number) (b : Bool) → by_rows zero (mul d p) d zero g b ≡ mul d (turned p (exchanged g) b)
one_exchanged d p g false = simp expand
one_exchanged d p g true = simp expand
