-- Maps of which one is a number other than 0 times the other, and how they compose.
use Rattle.std.proofs.Common.{◌≡◌, ◌≢◌, ℕ, Bool, true, false, ◌&&◌, List, [], ◌∷◌, length, set, sym, ap, ap₂, ◌∙◌}
use Rattle.std.proofs.lemmas.List.{length-set}
use Rattle.zx_model.specs.Number.{Number, zero, one, add, mul, sign}
use Rattle.zx_model.specs.Bits.{bit}
use Rattle.zx_model.specs.Proportional.{Proportional}
use Rattle.zx_model.proofs.Ring.{expand, one_nonzero, one-mul, mul_assoc, mul_left_comm}
use Rattle.zx_model.proofs.Domain.{mul-nonzero}
use Rattle.zx_model.proofs.ProportionalLemmas.{proportional_of_scaled}
use Rattle.zx_gates.specs.Maps.{Matrix, hadamard, phase, exchange, amp, act, acts, act_on}
use Rattle.zx_gates.specs.declared.gate.Gate.{Gate}
use Rattle.zx_gates.specs.declared.gate.Gate.TheVariants.{H, Phase, Cz, Cx, Not}
use Rattle.zx_gates.proofs.MapLemmas.{amp-acts}

-- the one map is a number other than 0 times the other, on lists of n bits
pub record Multiple (n : ℕ) (F G : (List Bool → Number) → List Bool → Number) : Type 0 where
  pub factor : Number
  pub nonzero : factor ≢ zero
  pub equal : (f : List Bool → Number) (x : List Bool) → length x ≡ n → F f x ≡ mul factor (G f x)

pub multiple-refl : (n : ℕ) (F : (List Bool → Number) → List Bool → Number) → Multiple n F F
multiple-refl n F = record { factor = one; nonzero = one_nonzero; equal = λ f x l. sym (one-mul (F f x)) }

-- a factor of what follows is one of what is before
abbrev pub TakesOutFactors : ℕ → ((List Bool → Number) → List Bool → Number) → Type 0
TakesOutFactors n G = (d : Number) (f g : List Bool → Number) → ((z : List Bool) → length z ≡ n → f z ≡ mul d (g z))
    → (x : List Bool) → length x ≡ n → G f x ≡ mul d (G g x)

pub factored : (s t d f g : Number) → add (mul s (mul d f)) (mul t (mul d g)) ≡ mul d (add (mul s f) (mul t g))
factored s t d f g = simp expand

pub act_on-factor : (n : ℕ) (m : Matrix) (q : ℕ) → TakesOutFactors n (act_on m q)
act_on-factor n m q d f g e x l =
    ap₂ (λ s t. add (mul (m false (bit x q)) s) (mul (m true (bit x q)) t)) (e (set x q false) (length-set x q false ∙ l)) (e (set x q true) (length-set x q true ∙ l))
    ∙ factored (m false (bit x q)) (m true (bit x q)) d (g (set x q false)) (g (set x q true))

pub act-factor : (n : ℕ) (gate : Gate) → TakesOutFactors n (act gate)
act-factor n (H q) = act_on-factor n hadamard q
act-factor n (Phase q k) = act_on-factor n (phase k) q
act-factor n (Not q) = act_on-factor n exchange q
act-factor n (Cz q r) = λ d f g e x l. ap (mul (sign (bit x q && bit x r))) (e x l) ∙ mul_left_comm (sign (bit x q && bit x r)) d (g x)
act-factor n (Cx control target) = λ d f g e x l. e _ (length-set x target _ ∙ l)

pub acts-factor : (n : ℕ) (gates : List Gate) → TakesOutFactors n (acts gates)
acts-factor n [] d f g e x l = e x l
acts-factor n (gate ∷ gates) d f g e x l =
    act-factor n gate d (acts gates f) (acts gates g) (λ z lz. acts-factor n gates d f g e z lz) x l

-- one map after the other, where the second takes out factors
pub multiple-then_second : (n : ℕ) (F F' G G' : (List Bool → Number) → List Bool → Number) → TakesOutFactors n G → Multiple n F G → Multiple n F' G'
    → Multiple n (λ f. F (F' f)) (λ f. G (G' f))
multiple-then_second n F F' G G' out first rest = record {
  factor = mul first.factor rest.factor;
  nonzero = mul-nonzero first.factor rest.factor first.nonzero rest.nonzero;
  equal = λ f x l.
      first.equal (F' f) x l
      ∙ ap (mul first.factor) (out rest.factor (F' f) (G' f) (λ z lz. rest.equal f z lz) x l)
      ∙ sym (mul_assoc first.factor rest.factor (G (G' f) x));
}

-- a map that is a multiple of that of a list of gates is proportional to it
pub proportional_of_multiple : (n : ℕ) (a : List Bool → List Bool → Number) (F : (List Bool → Number) → List Bool → Number) (gates : List Gate)
    → ((x y : List Bool) → a x y ≡ F (λ z. amp [] z y) x) → Multiple n F (acts gates) → Proportional n n a (amp gates)
proportional_of_multiple n a F gates e m =
    proportional_of_scaled n n a (amp gates) one m.factor one_nonzero m.nonzero
    (λ x y lx ly. one-mul (a x y) ∙ e x y ∙ m.equal (λ z. amp [] z y) x lx ∙ ap (mul m.factor) (sym (amp-acts gates x y)))
