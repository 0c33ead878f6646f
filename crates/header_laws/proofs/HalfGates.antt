-- Gates whose bodies halve an angle: what calls of them come to, where the half is a whole number of sixteenth turns, and the
-- maps of that.
use Rattle.std.specs.Prelude.{◌≡◌, ℕ, ◌+◌, ◌*◌, ◌<◌, List, [], ◌∷◌, ◌++◌, pos, Some, Result, Ok, codes}
use Rattle.std.proofs.Common.{refl, ap, ap₂, ◌∙◌}
use Rattle.zx_model.specs.Cyclotomic.{add_cyclotomic, mul_cyclotomic, neg_cyclotomic}
use Rattle.zx_model.specs.Number.{one, add, mul, neg, root_power}
use Rattle.zx_model.specs.Phase.{turn, half_turn, quarter_turn, opposite_phase}
use Rattle.zx_gates.specs.declared.elementary.ElementaryGate.{ElementaryGate}
use Rattle.zx_gates.specs.declared.elementary.ElementaryGate.TheVariants.{U, Cx}
use Rattle.zx_gates.specs.Maps.{phase}
use Rattle.qasm_angle.specs.declared.angle.Angle.{Angle}
use Rattle.qasm_angle.specs.declared.errors.AngleFault.{AngleFault}
use Rattle.qasm_angle.specs.declared.expression.Operation.TheVariants.{Divide}
use Rattle.qasm_angle.specs.Ratio.{gcd, lowest, limited, whole}
use Rattle.qasm_angle.specs.Sixteenths.{phase_of_angle}
use Rattle.qasm_angle.specs.Literals.{literal_value, decimal}
use Rattle.qasm_angle.specs.Values as values
use Rattle.qasm_angle.specs.Values.{number, opposite_angle}
use Rattle.qasm_scope.specs.Angles.{angle_of, in_prefix, with_cause}
use Rattle.qasm_scope.specs.Calls.{Event, Called, Applied, u_of, after_angles, expand_declared}
use Rattle.qasm_scope.specs.Meaning.{with_header}
use Rattle.zx_model.specs.Constants.{two}
use Rattle.header_laws.specs.Gates.{rotation_x, rotation_y, rotation_z, single, controlled}
use Rattle.header_laws.specs.Calls.{header_events, HasMap, half_of}
use Rattle.header_laws.proofs.Comes.{comes, has_map}
use Rattle.header_laws.proofs.Certificates.{Certified, certified, at_phases}
use Rattle.header_laws.proofs.Phases.{phase_below}
use Rattle.header_laws.proofs.Halves.{half-opposite, opposite-phase}

-- ---- the gates, where the half is k sixteenth turns
abbrev crz_gates : ℕ → List ElementaryGate
crz_gates k = U 1 0 0 k ∷ Cx 0 1 ∷ U 1 0 0 (opposite_phase k) ∷ Cx 0 1 ∷ []

abbrev cu1_gates : ℕ → List ElementaryGate
cu1_gates k = U 0 0 0 k ∷ Cx 0 1 ∷ U 1 0 0 (opposite_phase k) ∷ Cx 0 1 ∷ U 1 0 0 k ∷ []

abbrev crx_gates : ℕ → List ElementaryGate
crx_gates k = U 1 quarter_turn 0 half_turn ∷ U 1 0 0 k ∷ Cx 0 1 ∷ U 1 0 0 (opposite_phase k) ∷ Cx 0 1 ∷ U 1 quarter_turn 0 half_turn ∷ []

abbrev cry_gates : ℕ → List ElementaryGate
cry_gates k = U 1 k 0 0 ∷ Cx 0 1 ∷ U 1 (opposite_phase k) 0 0 ∷ Cx 0 1 ∷ []

crz_certified : (k : ℕ) → k < turn → Certified 2 (crz_gates k) (controlled (root_power k) (single (rotation_z (2 * k))))
unfolding add mul neg root_power add_cyclotomic mul_cyclotomic neg_cyclotomic
crz_certified = at_phases crz_gates (λ k. controlled (root_power k) (single (rotation_z (2 * k)))) refl

cu1_certified : (k : ℕ) → k < turn → Certified 2 (cu1_gates k) (controlled one (single (phase (2 * k))))
unfolding add mul neg root_power add_cyclotomic mul_cyclotomic neg_cyclotomic
cu1_certified = at_phases cu1_gates (λ k. controlled one (single (phase (2 * k)))) refl

crx_certified : (k : ℕ) → k < turn → Certified 2 (crx_gates k) (controlled (mul two (root_power k)) (single (rotation_x (2 * k))))
unfolding add mul neg root_power add_cyclotomic mul_cyclotomic neg_cyclotomic
crx_certified = at_phases crx_gates (λ k. controlled (mul two (root_power k)) (single (rotation_x (2 * k)))) refl

cry_certified : (k : ℕ) → k < turn → Certified 2 (cry_gates k) (controlled (mul two (root_power k)) (single (rotation_y (2 * k))))
unfolding add mul neg root_power add_cyclotomic mul_cyclotomic neg_cyclotomic
cry_certified = at_phases cry_gates (λ k. controlled (mul two (root_power k)) (single (rotation_y (2 * k)))) refl

-- ---- events
abbrev inner : List ℕ → ℕ → List Angle → List ℕ → List Event
inner name depth angles qubits = expand_declared (with_header []) name depth angles qubits

-- a call with one angle, at a depth
abbrev with_angle : List ℕ → ℕ → ℕ → Result Angle AngleFault → List Event
with_angle name depth q angle = Called depth ∷ after_angles (in_prefix (with_cause angle) (Ok [])) (λ angles. inner name depth angles (q ∷ []))

abbrev cx_at : ℕ → List Event
cx_at depth = Called depth ∷ Called (depth + 1) ∷ Applied (Cx 0 1) ∷ []

abbrev h_at : ℕ → List Event
h_at depth = Called depth ∷ Called (depth + 1) ∷ Called (depth + 1 + 1) ∷ Applied (U 1 quarter_turn 0 half_turn) ∷ []

-- a call of u1 on a qubit by a phase
abbrev u1_at : ℕ → ℕ → ℕ → List Event
u1_at k depth q = Called depth ∷ Called (depth + 1) ∷ Applied (U q 0 0 k) ∷ []

abbrev crz_calls : ℕ → ℕ → List Event
crz_calls k depth = u1_at k depth 1 ++ (cx_at depth ++ (u1_at (opposite_phase k) depth 1 ++ cx_at depth))

abbrev cu1_calls : ℕ → List Event
cu1_calls k = u1_at k 2 0 ++ (cx_at 2 ++ (u1_at (opposite_phase k) 2 1 ++ (cx_at 2 ++ u1_at k 2 1)))

u1_events : (depth q : ℕ) (a : Angle) (k : ℕ) → phase_of_angle a ≡ Some k
    → inner (codes "u1") depth (a ∷ []) (q ∷ []) ≡ Called (depth + 1) ∷ Applied (U q 0 0 k) ∷ []
unfolding with_header angle_of gcd lowest limited phase_of_angle literal_value decimal
u1_events depth q a k e = ap (λ p. Called (depth + 1) ∷ (u_of q (Some 0) (Some 0) p ++ [])) e

ry_events : (depth q : ℕ) (a : Angle) (k : ℕ) → phase_of_angle a ≡ Some k
    → inner (codes "ry") depth (a ∷ []) (q ∷ []) ≡ Called (depth + 1) ∷ Called (depth + 1 + 1) ∷ Applied (U q k 0 0) ∷ []
unfolding with_header angle_of gcd lowest limited phase_of_angle literal_value decimal
ry_events depth q a k e = ap (λ p. Called (depth + 1) ∷ ((Called (depth + 1 + 1) ∷ (u_of q p (Some 0) (Some 0) ++ [])) ++ [])) e

halved : (a half : Angle) → half_of a ≡ Ok half → values.applied Divide a (number (whole (pos 2))) ≡ Ok half
unfolding values.applied
halved a half e = e

module _ (a half : Angle) (k : ℕ) (e : half_of a ≡ Ok half) (f : phase_of_angle half ≡ Some k) where
  plus : values.applied Divide a (number (whole (pos 2))) ≡ Ok half
  plus = halved a half e

  minus : values.applied Divide (opposite_angle a) (number (whole (pos 2))) ≡ Ok (opposite_angle half)
  minus = halved (opposite_angle a) (opposite_angle half) (half-opposite a half e)

  below : k < turn
  below = phase_below half k f

  u1_plus : (depth q : ℕ) → inner (codes "u1") depth (half ∷ []) (q ∷ []) ≡ Called (depth + 1) ∷ Applied (U q 0 0 k) ∷ []
  u1_plus depth q = u1_events depth q half k f

  u1_minus : (depth q : ℕ) → inner (codes "u1") depth (opposite_angle half ∷ []) (q ∷ []) ≡ Called (depth + 1) ∷ Applied (U q 0 0 (opposite_phase k)) ∷ []
  u1_minus depth q = u1_events depth q (opposite_angle half) (opposite_phase k) (opposite-phase half k f)

  crz_events : (depth : ℕ) → inner (codes "crz") depth (a ∷ []) (0 ∷ 1 ∷ []) ≡ crz_calls k (depth + 1)
  unfolding with_header angle_of gcd lowest limited phase_of_angle literal_value decimal
  crz_events depth =
      ap₂ (λ r s. with_angle (codes "u1") (depth + 1) 1 r ++ (cx_at (depth + 1) ++ (with_angle (codes "u1") (depth + 1) 1 s ++ cx_at (depth + 1)))) plus minus
      ∙ ap₂ (λ r s. (Called (depth + 1) ∷ r) ++ (cx_at (depth + 1) ++ ((Called (depth + 1) ∷ s) ++ cx_at (depth + 1)))) (u1_plus (depth + 1) 1) (u1_minus (depth + 1) 1)

  pub crz_map : HasMap (codes "crz") (a ∷ []) (0 ∷ 1 ∷ []) (controlled (root_power k) (single (rotation_z (2 * k))))
  crz_map = has_map (comes (crz_events 1) refl) (certified (crz_certified k below))

  pub crx_map : HasMap (codes "crx") (a ∷ []) (0 ∷ 1 ∷ []) (controlled (mul two (root_power k)) (single (rotation_x (2 * k))))
  unfolding with_header angle_of values.applied gcd lowest limited phase_of_angle literal_value decimal
  crx_map = has_map (comes (ap (λ events. h_at 2 ++ ((Called 2 ∷ events) ++ h_at 2)) (crz_events 2)) refl) (certified (crx_certified k below))

  cry_events : header_events (codes "cry") (a ∷ []) (0 ∷ 1 ∷ []) ≡
      (Called 2 ∷ Called 3 ∷ Called 4 ∷ Applied (U 1 k 0 0) ∷ []) ++ cx_at 2
      ++ (Called 2 ∷ Called 3 ∷ Called 4 ∷ Applied (U 1 (opposite_phase k) 0 0) ∷ []) ++ cx_at 2
  unfolding with_header angle_of gcd lowest limited phase_of_angle literal_value decimal
  cry_events =
      ap₂ (λ r s. with_angle (codes "ry") 2 1 r ++ (cx_at 2 ++ (with_angle (codes "ry") 2 1 s ++ cx_at 2))) plus minus
      ∙ ap₂ (λ r s. (Called 2 ∷ r) ++ (cx_at 2 ++ ((Called 2 ∷ s) ++ cx_at 2))) (ry_events 2 1 half k f)
      (ry_events 2 1 (opposite_angle half) (opposite_phase k) (opposite-phase half k f))

  pub cry_map : HasMap (codes "cry") (a ∷ []) (0 ∷ 1 ∷ []) (controlled (mul two (root_power k)) (single (rotation_y (2 * k))))
  cry_map = has_map (comes cry_events refl) (certified (cry_certified k below))

  cu1_events : header_events (codes "cu1") (a ∷ []) (0 ∷ 1 ∷ []) ≡ cu1_calls k
  unfolding with_header angle_of gcd lowest limited phase_of_angle literal_value decimal
  cu1_events =
      ap₂ (λ r s. with_angle (codes "u1") 2 0 r ++ (cx_at 2 ++ (with_angle (codes "u1") 2 1 s ++ (cx_at 2 ++ (with_angle (codes "u1") 2 1 r ++ []))))) plus minus
      ∙ ap₂ (λ r s. (Called 2 ∷ r) ++ (cx_at 2 ++ ((Called 2 ∷ s) ++ (cx_at 2 ++ ((Called 2 ∷ inner (codes "u1") 2 (half ∷ []) (1 ∷ [])) ++ []))))) (u1_plus 2 0) (u1_minus 2 1)
      ∙ ap (λ r. u1_at k 2 0 ++ (cx_at 2 ++ (u1_at (opposite_phase k) 2 1 ++ (cx_at 2 ++ ((Called 2 ∷ r) ++ []))))) (u1_plus 2 1)

  pub cu1_map : HasMap (codes "cu1") (a ∷ []) (0 ∷ 1 ∷ []) (controlled one (single (phase (2 * k))))
  cu1_map = has_map (comes cu1_events refl) (certified (cu1_certified k below))

  pub cp_map : HasMap (codes "cp") (a ∷ []) (0 ∷ 1 ∷ []) (controlled one (single (phase (2 * k))))
  unfolding with_header angle_of gcd lowest limited phase_of_angle literal_value decimal
  cp_map = has_map (comes cu1_events refl) (certified (cu1_certified k below))
