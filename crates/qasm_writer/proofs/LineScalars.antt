-- The map of a circuit's elements is a scalar times the circuit's.
use Rattle.std.proofs.Common.{◌≡◌, ℕ, ◌+◌, ◌*◌, ◌<◌, pos, add-one, get_or, take, List, [], ◌∷◌, ◌++◌, length, sym, ap, ◌∙◌, subst, arith}
use Rattle.std.proofs.Math.Seq.{take-length, take-suc}
use Rattle.std.specs.List.{All}
use Rattle.std.proofs.lemmas.List.{flat_map_more}
use Rattle.zx_model.specs.Constants.{two}
use Rattle.zx_model.specs.Number.{root_power, mul}
use Rattle.zx_model.proofs.Ring.{mul-one}
use Rattle.zx_model.specs.Phase.{half_turn, quarter_turn, eighth_turn}
use Rattle.zx_model.specs.Scalar.{numerator, denominator, IsScaled, IsWithin, most_root2, one_scalar, product_of_scalars}
use Rattle.zx_model.specs.declared.scalar.Scalar.{Scalar}
use Rattle.zx_gates.specs.Circuit.{IsGateOn, gate_limit}
use Rattle.zx_gates.specs.ElementaryMaps.{act_elementary, amp_elementary}
use Rattle.zx_gates.specs.Internal.Lowering.{acts_elementary}
use Rattle.zx_gates.specs.Internal.Scalars.{scalar}
use Rattle.zx_gates.specs.Maps.{act, acts, amp}
use Rattle.zx_gates.specs.declared.elementary.ElementaryGate.TheVariants as elementary
use Rattle.zx_gates.specs.declared.gate.Gate.{Gate}
use Rattle.zx_gates.specs.declared.gate.Gate.TheVariants.{H, Phase, Cz, Cx, Not}
use Rattle.zx_gates.proofs.LoweringLemmas.{acts_elementary-append, amp_elementary-acts, scaled_gate}
use Rattle.zx_gates.proofs.MapLemmas.{acts-append}
use Rattle.zx_gates.proofs.Multiples.{act-factor, acts-factor}
use Rattle.zx_gates.proofs.Scaling.{Scaled, scaled-refl, scaled-then, scaled-trans, scaled_amp, scaled_if_doubled}
use Rattle.zx_model.proofs.Scalars.{within_product}
use Rattle.qasm_writer.specs.Elements.{h, elements, elements_of}
use Rattle.qasm_writer.specs.Internal.LineScalars.{line_scalar}
use Rattle.qasm_writer.proofs.Maps.{cz_by_cx}
use Rattle.qasm_writer.proofs.WrittenLemmas.{phase_is_lowered}

-- ---- lines
hadamard : (n q : ℕ) → q < n → Scaled n (act_elementary (h q)) (scalar (pos 1) eighth_turn) (act (H q))
hadamard n q on = scaled_gate n (h q) on

-- H, CX and H
three : (n q r : ℕ) → IsGateOn n (Cz q r) → Scaled n (acts_elementary (elements (Cz q r))) (scalar (pos 2) quarter_turn) (acts (H r ∷ Cx q r ∷ H r ∷ []))
three n q r on =
    scaled-then n (act_elementary (h r)) (acts_elementary (elementary.Cx q r ∷ h r ∷ [])) (act (H r)) (acts (Cx q r ∷ H r ∷ [])) (scalar (pos 1) eighth_turn)
    (scalar (pos 1) eighth_turn) (act-factor n (H r)) (hadamard n r on.0.1)
    (scaled-then n (act_elementary (elementary.Cx q r)) (act_elementary (h r)) (act (Cx q r)) (act (H r)) one_scalar
    (scalar (pos 1) eighth_turn) (act-factor n (Cx q r)) (scaled-refl n (act (Cx q r))) (hadamard n r on.0.1))

controlled : (n q r : ℕ) → IsGateOn n (Cz q r) → Scaled n (acts_elementary (elements (Cz q r))) (scalar (pos 4) quarter_turn) (act (Cz q r))
controlled n q r on =
    scaled-trans n (acts_elementary (elements (Cz q r))) (acts (H r ∷ Cx q r ∷ H r ∷ [])) (act (Cz q r)) (scalar (pos 2) quarter_turn) (scalar (pos 2) 0)
    (three n q r on) (scaled_if_doubled n (acts (H r ∷ Cx q r ∷ H r ∷ [])) (act (Cz q r)) 1
    (λ f x l. cz_by_cx q r f x (subst (λ m. r < m) (sym l) on.0.1) on.0.2 ∙ ap (λ d. mul d (act (Cz q r) f x)) (sym (mul-one two))))

scaled_line : (n : ℕ) (gate : Gate) → IsGateOn n gate → Scaled n (acts_elementary (elements gate)) (line_scalar gate) (act gate)
scaled_line n (H q) on = hadamard n q on.0
scaled_line n (Phase q k) on =
    subst (λ gs. Scaled n (act_elementary (elementary.U q 0 0 k)) (scalar (pos 2) 0) (acts gs)) (phase_is_lowered q k on.0.1 on.1)
    (scaled_gate n (elementary.U q 0 0 k) on.0.0)
scaled_line n (Cz q r) on = controlled n q r on
scaled_line n (Cx control target) on = scaled-refl n (act (Cx control target))
scaled_line n (Not q) on = scaled_gate n (elementary.U q half_turn 0 half_turn) on.0

within_line : (gate : Gate) → IsWithin 4 (line_scalar gate)
within_line (Cx control target) = omega arith
within_line _ = omega arith

-- ---- the loop over the gates
-- what holds after the first gates
pub record IsScaledTo (n : ℕ) (gates : List Gate) (i : ℕ) (s : Scalar) : Type 0 where
  pub scaled : Scaled n (acts_elementary (elements_of (take i gates))) s (acts (take i gates))
  pub within : IsWithin (4 * i) s

pub scaled_none : (n : ℕ) (gates : List Gate) → IsScaledTo n gates 0 one_scalar
scaled_none n gates = record { scaled = scaled-refl n (λ f. f); within = omega arith }

line_more : (n : ℕ) (before : List Gate) (gate : Gate) (s : Scalar) → IsGateOn n gate → Scaled n (acts_elementary (elements_of before)) s (acts before)
    → Scaled n (acts_elementary (elements_of (before ++ gate ∷ []))) (product_of_scalars s (line_scalar gate)) (acts (before ++ gate ∷ []))
line_more n before gate s on p = record {
  equal = λ f x l.
      ap (λ k. mul (denominator t.root2) (k x)) (ap (λ es. acts_elementary es f) (sym (flat_map_more elements [] before gate)) ∙ acts_elementary-append (elements_of before) (elements gate) f)
      ∙ joined.equal f x l
      ∙ ap (λ k. mul (mul (numerator t.root2) (root_power t.turn)) (k x)) (sym (acts-append before (gate ∷ []) f));
}
  where
    t : Scalar
    t = product_of_scalars s (line_scalar gate)

    joined : Scaled n (λ f. acts_elementary (elements_of before) (acts_elementary (elements gate) f)) t (λ f. acts before (act gate f))
    joined = scaled-then n (acts_elementary (elements_of before)) (acts_elementary (elements gate)) (acts before) (act gate) s (line_scalar gate)
        (acts-factor n before) p (scaled_line n gate on)

pub scaled_next : (n : ℕ) (gates : List Gate) (i : ℕ) (gate : Gate) (s : Scalar) → i < length gates → gate ≡ get_or gates i gate → All (IsGateOn n) gates
    → IsScaledTo n gates i s → IsScaledTo n gates (i + 1) (product_of_scalars s (line_scalar gate))
scaled_next n gates i gate s inside is on d = record {
  scaled = subst (λ xs. Scaled n (acts_elementary (elements_of xs)) (product_of_scalars s (line_scalar gate)) (acts xs)) (sym one_more)
      (line_more n (take i gates) gate s (subst (IsGateOn n) (sym is) (on i gate inside)) d.scaled);
  within = let k : 4 * (i + 1) ≡ 4 * i + 4 = omega arith in
      subst (λ m. IsWithin m (product_of_scalars s (line_scalar gate))) (sym k) (within_product (4 * i) 4 s (line_scalar gate) d.within (within_line gate));
}
  where
    one_more : take (i + 1) gates ≡ take i gates ++ gate ∷ []
    one_more = rw add-one (take-suc gates i gate inside) ∙ ap (λ g. take i gates ++ g ∷ []) (sym is)

pub scaled_all : (n : ℕ) (gates : List Gate) (i : ℕ) (s : Scalar) → i ≡ length gates → IsScaledTo n gates i s
    → IsScaled n n (amp_elementary (elements_of gates)) s (amp gates)
scaled_all n gates i s whole d =
    scaled_amp n (amp_elementary (elements_of gates)) (acts_elementary (elements_of gates)) s gates (amp_elementary-acts (elements_of gates))
    (subst (λ xs. Scaled n (acts_elementary (elements_of xs)) s (acts xs)) (ap (λ k. take k gates) whole ∙ take-length gates) d.scaled)

-- the exponent fits
pub scaled_within : (n : ℕ) (gates : List Gate) (i : ℕ) (gate : Gate) (s : Scalar) → i < length gates → length gates < gate_limit → IsScaledTo n gates i s
    → IsWithin most_root2 (product_of_scalars s (line_scalar gate))
scaled_within n gates i gate s inside few d = omega (arith, within_product (4 * i) 4 s (line_scalar gate) d.within (within_line gate), inside, few)
