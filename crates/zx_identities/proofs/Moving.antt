-- A list of gates other than H makes of a basis state one with a phase.
use Rattle.std.proofs.Common.{◌≡◌, ℕ, Bool, true, false, not, ◌&&◌, List, [], ◌∷◌, set, refl, sym, ap, ◌∙◌}
use Rattle.std.specs.Prelude.{if◌then◌else◌, IsTrue}
use Rattle.std.specs.List.{list_all}
use Rattle.std.proofs.lemmas.Bool.{and_parts}
use Rattle.zx_model.specs.Phase.{half_turn}
use Rattle.zx_model.specs.Number.{Number, one, add, mul, sign, root_power}
use Rattle.zx_model.specs.Bits.{bit}
use Rattle.zx_model.proofs.Ring.{zero-mul, zero-add, add-zero, one-mul, mul_assoc}
use Rattle.zx_model.proofs.Powers.{root_power-zero, root_power-half_turn, root_power-sum_of_phases}
use Rattle.zx_gates.specs.Maps.{amp, act, acts, phase, exchange}
use Rattle.zx_gates.specs.declared.gate.Gate.{Gate}
use Rattle.zx_gates.specs.declared.gate.Gate.TheVariants.{H, Phase, Cz, Cx, Not}
use Rattle.zx_gates.proofs.MapLemmas.{amp-acts, act-phase}
use Rattle.zx_identities.specs.BasisStates.{moved, turned, moved_by, turned_by, is_without_h}

no_phase : (a : Number) → a ≡ mul (root_power 0) a
no_phase a = sym (ap (λ t. mul t a) root_power-zero ∙ one-mul a)

phase-power : (k : ℕ) (b : Bool) → phase k b b ≡ root_power (if b then k else 0)
phase-power k true = refl
phase-power k false = sym root_power-zero

sign-power : (b : Bool) → sign b ≡ root_power (if b then half_turn else 0)
sign-power true = sym root_power-half_turn
sign-power false = sym root_power-zero

exchanged : (b : Bool) (at : Bool → Number) → add (mul (exchange false b) (at false)) (mul (exchange true b) (at true)) ≡ at (not b)
exchanged false at = ap (λ t. add t (mul one (at true))) (zero-mul (at false)) ∙ zero-add _ ∙ one-mul (at true)
exchanged true at = ap (add (mul one (at false))) (zero-mul (at true)) ∙ add-zero _ ∙ one-mul (at false)

-- of one gate, and any function behind it
act-moves : (gate : Gate) → is_without_h gate ≡ true → (f : List Bool → Number) (x : List Bool)
    → act gate f x ≡ mul (root_power (turned gate x)) (f (moved gate x))
act-moves (H q) without f x = cc
act-moves (Phase q k) without f x = act-phase q k f x ∙ ap (λ t. mul t (f x)) (phase-power k (bit x q))
act-moves (Cz q r) without f x = ap (λ t. mul t (f x)) (sign-power (bit x q && bit x r))
act-moves (Cx control target) without f x = no_phase _
act-moves (Not q) without f x = exchanged (bit x q) (λ b. f (set x q b)) ∙ no_phase _

acts-move : (gates : List Gate) → IsTrue (list_all is_without_h gates) → (f : List Bool → Number) (x : List Bool)
    → acts gates f x ≡ mul (root_power (turned_by gates x)) (f (moved_by gates x))
acts-move [] all f x = no_phase (f x)
acts-move (gate ∷ gates) all f x =
    let parts : (is_without_h gate ≡ true) × (list_all is_without_h gates ≡ true) =
    and_parts (is_without_h gate) (list_all is_without_h gates) all in
    act-moves gate parts.0 (acts gates f) x
    ∙ ap (mul (root_power (turned gate x))) (acts-move gates parts.1 f (moved gate x))
    ∙ sym (mul_assoc (root_power (turned gate x)) (root_power (turned_by gates (moved gate x))) (f (moved_by gates (moved gate x))))
    ∙ ap (λ t. mul t (f (moved_by gates (moved gate x)))) (sym (root_power-sum_of_phases (turned gate x) (turned_by gates (moved gate x))))

pub gates_map_basis_states : (gates : List Gate) → IsTrue (list_all is_without_h gates) → (x y : List Bool)
    → amp gates x y ≡ mul (root_power (turned_by gates x)) (amp [] (moved_by gates x) y)
gates_map_basis_states gates all x y = amp-acts gates x y ∙ acts-move gates all (λ z. amp [] z y) x
