-- What calls of gates with angles come to, where these are whole sixteenth turns, and the maps of that.
use Rattle.std.specs.Prelude.{◌≡◌, ◌≢◌, ℕ, ◌+◌, ◌<◌, Bool, false, true, List, [], ◌∷◌, ◌++◌, Some, codes}
use Rattle.std.proofs.Common.{refl, sym, ap, ap₂, ◌∙◌, zero-add}
use Rattle.zx_model.specs.Cyclotomic.{add_cyclotomic, mul_cyclotomic, neg_cyclotomic}
use Rattle.zx_model.specs.Number.{Number, zero, one, add, mul, neg, root_power}
use Rattle.zx_model.specs.Phase.{turn, half_turn, quarter_turn}
use Rattle.zx_model.specs.Proportional.{Proportional}
use Rattle.zx_model.proofs.Ring.{expand, one_nonzero, two_nonzero, mul_comm, mul-neg, mul-one, one-mul}
use Rattle.zx_model.proofs.Powers.{root_power-zero, root_power-add, root_power-half_turn, root_power-turn}
use Rattle.zx_gates.specs.declared.elementary.ElementaryGate.{ElementaryGate}
use Rattle.zx_gates.specs.declared.elementary.ElementaryGate.TheVariants.{U, Cx}
use Rattle.zx_gates.specs.ElementaryMaps.{amp_elementary, unitary}
use Rattle.zx_gates.specs.Maps.{Matrix, phase}
use Rattle.zx_gates.proofs.WorkedLemmas.{on_one_qubit}
use Rattle.qasm_angle.specs.declared.angle.Angle.{Angle}
use Rattle.qasm_angle.specs.Ratio.{gcd, lowest, limited}
use Rattle.qasm_angle.specs.Sixteenths.{phase_of_angle}
use Rattle.qasm_angle.specs.Literals.{literal_value, decimal}
use Rattle.qasm_angle.specs.Values as values
use Rattle.qasm_scope.specs.Angles.{angle_of}
use Rattle.qasm_scope.specs.Calls.{u_of, Applied, Called}
use Rattle.qasm_scope.specs.Meaning.{with_header}
use Rattle.zx_model.specs.Constants.{i, two}
use Rattle.header_laws.specs.Gates.{rotation_x, rotation_y, rotation_z, rotation_zz, three_rotations, single}
use Rattle.header_laws.specs.Calls.{HasMap}
use Rattle.header_laws.proofs.Comes.{comes, has_map}
use Rattle.header_laws.proofs.Certificates.{Certified, certified, at_phases}
use Rattle.header_laws.proofs.Phases.{phase_below}

-- ---- U by its matrix
module _ (a b c : ℕ) (m : Matrix) (t : Number) (nonzero : t ≢ zero) (same : (row column : Bool) → unitary a b c row column ≡ mul t (m row column)) where
  entry : (x y : Bool) → mul one (amp_elementary (U 0 a b c ∷ []) (x ∷ []) (y ∷ [])) ≡ unitary a b c y x
  entry x false = simp expand
  entry x true = simp expand

  pub unitary_map : Proportional 1 1 (amp_elementary (U 0 a b c ∷ [])) (single m)
  unitary_map = on_one_qubit one t one_nonzero nonzero _ _ (λ x y. entry x y ∙ same y x)

i-opposite : root_power (half_turn + quarter_turn) ≡ neg i
i-opposite = root_power-add quarter_turn half_turn ∙ ap (mul i) root_power-half_turn ∙ mul-neg i one ∙ ap neg (mul-one i)

-- ---- U by three rotations
-- both over the numbers a = z^theta, b = z^phi, c = z^lambda
abbrev entry_of : Number → Number → Number → Number → Number → Number → Number → Number → Number
entry_of l m r s t u c d = add (mul l (add (mul r c) (mul s d))) (mul m (add (mul t c) (mul u d)))

first : (a j : Number) → add one a ≡ mul one (entry_of one zero (add one a) (mul j (add a (neg one))) (mul j (add one (neg a))) (add one a) one zero)
first a j = simp expand

second : (a c j : Number) → mul (mul c j) (add a (neg one)) ≡ mul one (entry_of one zero (add one a) (mul j (add a (neg one))) (mul j (add one (neg a))) (add one a) zero c)
second a c j = simp expand

third : (a b j : Number) → mul (mul b (neg j)) (add a (neg one)) ≡ mul one (entry_of zero b (add one a) (mul j (add a (neg one))) (mul j (add one (neg a))) (add one a) one zero)
third a b j = simp expand

fourth : (a b c j : Number) → mul (mul b c) (add one a) ≡ mul one (entry_of zero b (add one a) (mul j (add a (neg one))) (mul j (add one (neg a))) (add one a) zero c)
fourth a b c j = simp expand

rotations : (a b c : ℕ) (row column : Bool) → unitary a b c row column ≡ mul one (three_rotations a b c row column)
rotations a b c false false = first (root_power a) i
rotations a b c false true =
    ap (λ r. mul r (add (root_power a) (neg one))) (root_power-add c quarter_turn) ∙ second (root_power a) (root_power c) i
rotations a b c true false =
    ap (λ r. mul r (add (root_power a) (neg one))) (root_power-add b (half_turn + quarter_turn) ∙ ap (mul (root_power b)) i-opposite)
    ∙ third (root_power a) (root_power b) i
rotations a b c true true =
    ap (λ r. mul r (add one (root_power a))) (root_power-add b c) ∙ fourth (root_power a) (root_power b) (root_power c) i

-- ---- one rotation
about_x : (k : ℕ) (row column : Bool) → unitary k (half_turn + quarter_turn) quarter_turn row column ≡ mul one (rotation_x k row column)
about_x k false false = simp expand
about_x k false true = ap (λ r. mul r (add (root_power k) (neg one))) root_power-half_turn ∙ simp expand
about_x k true false =
    ap (λ r. mul r (add (root_power k) (neg one))) (root_power-add turn half_turn ∙ ap₂ mul root_power-turn root_power-half_turn) ∙ simp expand
about_x k true true = ap (λ r. mul r (add one (root_power k))) root_power-turn ∙ simp expand

exchanged : (a j : Number) → mul (neg j) (add a (neg one)) ≡ mul one (mul j (add one (neg a)))
exchanged a j = simp expand

about_y : (k : ℕ) (row column : Bool) → unitary k 0 0 row column ≡ mul one (rotation_y k row column)
about_y k false false = simp expand
about_y k false true = sym (one-mul (mul i (add (root_power k) (neg one))))
about_y k true false = ap (λ r. mul r (add (root_power k) (neg one))) i-opposite ∙ exchanged (root_power k) i
about_y k true true = ap (λ r. mul r (add one (root_power k))) root_power-zero ∙ simp expand

about_z : (k : ℕ) (row column : Bool) → unitary 0 0 k row column ≡ mul two (rotation_z k row column)
about_z k false false = ap (add one) root_power-zero ∙ simp expand
about_z k false true = ap (λ r. mul (root_power (k + quarter_turn)) (add r (neg one))) root_power-zero ∙ simp expand
about_z k true false = ap (λ r. mul (root_power (half_turn + quarter_turn)) (add r (neg one))) root_power-zero ∙ simp expand
about_z k true true =
    ap₂ (λ r s. mul (root_power r) (add one s)) (zero-add k) root_power-zero ∙ mul_comm (root_power k) two

-- ---- two qubits
abbrev rzz_gates : ℕ → List ElementaryGate
rzz_gates k = Cx 0 1 ∷ U 1 0 0 k ∷ Cx 0 1 ∷ []

rzz_certified : (k : ℕ) → k < turn → Certified 2 (rzz_gates k) (rotation_zz k)
unfolding add mul neg root_power add_cyclotomic mul_cyclotomic neg_cyclotomic
rzz_certified = at_phases rzz_gates rotation_zz refl

-- ---- the gates
module _ (a : Angle) (k : ℕ) (e : phase_of_angle a ≡ Some k) where
  pub u1_map : HasMap (codes "u1") (a ∷ []) (0 ∷ []) (single (phase k))
  unfolding with_header angle_of values.applied gcd lowest limited phase_of_angle literal_value decimal
  u1_map = has_map (comes (ap (λ p. Called 2 ∷ (u_of 0 (Some 0) (Some 0) p ++ [])) e) refl) (unitary_map 0 0 k (phase k) two two_nonzero (about_z k))

  pub p_map : HasMap (codes "p") (a ∷ []) (0 ∷ []) (single (phase k))
  unfolding with_header angle_of values.applied gcd lowest limited phase_of_angle literal_value decimal
  p_map = has_map (comes (ap (λ p. Called 2 ∷ (u_of 0 (Some 0) (Some 0) p ++ [])) e) refl) (unitary_map 0 0 k (phase k) two two_nonzero (about_z k))

  pub rz_map : HasMap (codes "rz") (a ∷ []) (0 ∷ []) (single (rotation_z k))
  unfolding with_header angle_of values.applied gcd lowest limited phase_of_angle literal_value decimal
  rz_map = has_map (comes (ap (λ p. Called 2 ∷ ((Called 3 ∷ (u_of 0 (Some 0) (Some 0) p ++ [])) ++ [])) e) refl) (unitary_map 0 0 k (phase k) two two_nonzero (about_z k))

  pub rx_map : HasMap (codes "rx") (a ∷ []) (0 ∷ []) (single (rotation_x k))
  unfolding with_header angle_of values.applied gcd lowest limited phase_of_angle literal_value decimal
  rx_map = has_map (comes (ap (λ p. Called 2 ∷ ((Called 3 ∷ (u_of 0 p (Some (half_turn + quarter_turn)) (Some quarter_turn) ++ [])) ++ [])) e) refl) (unitary_map k (half_turn + quarter_turn) quarter_turn (rotation_x k) one one_nonzero (about_x k))

  pub ry_map : HasMap (codes "ry") (a ∷ []) (0 ∷ []) (single (rotation_y k))
  unfolding with_header angle_of values.applied gcd lowest limited phase_of_angle literal_value decimal
  ry_map = has_map (comes (ap (λ p. Called 2 ∷ ((Called 3 ∷ (u_of 0 p (Some 0) (Some 0) ++ [])) ++ [])) e) refl) (unitary_map k 0 0 (rotation_y k) one one_nonzero (about_y k))

  pub rzz_map : HasMap (codes "rzz") (a ∷ []) (0 ∷ 1 ∷ []) (rotation_zz k)
  unfolding with_header angle_of values.applied gcd lowest limited phase_of_angle literal_value decimal
  rzz_map = has_map (comes (ap (λ p. Called 2 ∷ Called 3 ∷ Applied (Cx 0 1) ∷ Called 2 ∷ ((Called 3 ∷ (u_of 1 (Some 0) (Some 0) p ++ [])) ++ Called 2 ∷ Called 3 ∷ Applied (Cx 0 1) ∷ [])) e) refl) (certified (rzz_certified k (phase_below a k e)))

module _ (a b : Angle) (j k : ℕ) (e : phase_of_angle a ≡ Some j) (f : phase_of_angle b ≡ Some k) where
  pub u2_map : HasMap (codes "u2") (a ∷ b ∷ []) (0 ∷ []) (single (three_rotations quarter_turn j k))
  unfolding with_header angle_of values.applied gcd lowest limited phase_of_angle literal_value decimal
  u2_map = has_map (comes (ap₂ (λ p q. Called 2 ∷ (u_of 0 (Some quarter_turn) p q ++ [])) e f) refl) (unitary_map quarter_turn j k (three_rotations quarter_turn j k) one one_nonzero (rotations quarter_turn j k))

module _ (a b c : Angle) (i j k : ℕ) (e : phase_of_angle a ≡ Some i) (f : phase_of_angle b ≡ Some j) (g : phase_of_angle c ≡ Some k) where
  pub u3_map : HasMap (codes "u3") (a ∷ b ∷ c ∷ []) (0 ∷ []) (single (three_rotations i j k))
  unfolding with_header angle_of
  u3_map = has_map (comes (ap (λ p. Called 2 ∷ (u_of 0 p (phase_of_angle b) (phase_of_angle c) ++ [])) e ∙ ap₂ (λ p q. Called 2 ∷ (u_of 0 (Some i) p q ++ [])) f g) refl) (unitary_map i j k (three_rotations i j k) one one_nonzero (rotations i j k))

  pub u_map : HasMap (codes "u") (a ∷ b ∷ c ∷ []) (0 ∷ []) (single (three_rotations i j k))
  unfolding with_header angle_of
  u_map = has_map (comes (ap (λ p. Called 2 ∷ (u_of 0 p (phase_of_angle b) (phase_of_angle c) ++ [])) e ∙ ap₂ (λ p q. Called 2 ∷ (u_of 0 (Some i) p q ++ [])) f g) refl) (unitary_map i j k (three_rotations i j k) one one_nonzero (rotations i j k))
