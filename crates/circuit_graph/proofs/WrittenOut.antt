-- What becomes of a circuit's numbers and map when Cx and Not are written out.
use Rattle.std.proofs.Common.{◌≡◌, refl, sym, ◌∙◌, ap, ap₂, ℕ, ◌+◌, ◌*◌, Bool, cond, List, [], ◌∷◌, ◌++◌, arith}
use Rattle.std.specs.List.{All, count_by}
use Rattle.std.proofs.lemmas.List.Elements.{All-head, All-tail}
use Rattle.std.proofs.lemmas.List.Sums.{sum_by-append}
use Rattle.zx_model.specs.Number.{Number, one, mul}
use Rattle.zx_model.specs.Constants.{two}
use Rattle.zx_model.specs.Internal.Powers.{power_of_two}
use Rattle.zx_model.proofs.Powers.{power_of_two-add}
use Rattle.zx_model.proofs.Ring.{one-mul, mul-one, mul_assoc}
use Rattle.zx_gates.specs.Circuit.{IsOnQubits, gate_odd_phases, is_odd_phase}
use Rattle.zx_gates.specs.Counting.{is_h, is_cx, is_not}
use Rattle.zx_gates.specs.Maps.{acts}
use Rattle.zx_gates.specs.declared.gate.Gate.{Gate}
use Rattle.zx_gates.specs.declared.gate.Gate.TheVariants.{H, Phase, Cz, Cx, Not}
use Rattle.zx_gates.proofs.MapLemmas.{acts-append}
use Rattle.zx_gates.proofs.Multiples.{act-factor}
use Rattle.circuit_laws.specs.Followed.{IsMultiple}
use Rattle.circuit_laws.proofs.ByHadamards.{cx_by_three, not_by_three}
use Rattle.circuit_graph.specs.Translation.{by_hadamards, written_out, written_count}

-- H, Cz and H are two times Cx, and likewise for Not
abbrev pub gate_scalar : Gate → Number
gate_scalar (Cx control target) = two
gate_scalar (Not q) = two
gate_scalar other = one

-- the number that the sum of a circuit's graph is times the circuit's map
abbrev pub scalar_of : List Gate → Number
scalar_of [] = one
scalar_of (gate ∷ gates) = mul (gate_scalar gate) (scalar_of gates)

pub count-cons : (p : Gate → Bool) (gate : Gate) (gates : List Gate) →
    count_by p (gate ∷ gates) ≡ count_by p (gate ∷ []) + count_by p gates
count-cons p gate gates = sum_by-append (λ g. cond (p g) 1 0) (gate ∷ []) gates

pub count-append : (p : Gate → Bool) (first second : List Gate) → count_by p (first ++ second) ≡ count_by p first + count_by p second
count-append p first second = sum_by-append (λ g. cond (p g) 1 0) first second

-- a gate's spiders, and its odd phase
spiders-gate : (gate : Gate) → count_by is_h (by_hadamards gate) ≡ count_by is_h (gate ∷ []) + 2 * count_by is_cx (gate ∷ []) + 2 * count_by is_not (gate ∷ [])
spiders-gate (H q) = refl
spiders-gate (Phase q k) = refl
spiders-gate (Cz p q) = refl
spiders-gate (Cx control target) = refl
spiders-gate (Not q) = refl

odd-gate : (gate : Gate) → gate_odd_phases (by_hadamards gate) ≡ gate_odd_phases (gate ∷ [])
odd-gate (H q) = refl
odd-gate (Phase q k) = refl
odd-gate (Cz p q) = refl
odd-gate (Cx control target) = refl
odd-gate (Not q) = refl

pub spiders-written : (gates : List Gate) → count_by is_h (written_out gates) ≡ count_by is_h gates + 2 * count_by is_cx gates + 2 * count_by is_not gates
spiders-written [] = refl
spiders-written (gate ∷ gates) =
    omega (arith, spiders-written gates, spiders-gate gate, count-append is_h (by_hadamards gate) (written_out gates), count-cons is_h gate gates, count-cons is_cx gate gates, count-cons is_not gate gates)

pub odd-written : (gates : List Gate) → gate_odd_phases (written_out gates) ≡ gate_odd_phases gates
odd-written [] = refl
odd-written (gate ∷ gates) =
    omega (arith, odd-written gates, odd-gate gate, count-append is_odd_phase (by_hadamards gate) (written_out gates), count-cons is_odd_phase gate gates)

-- a gate's map, when it is written out
gate-written : (n : ℕ) (gate : Gate) → IsOnQubits n gate → IsMultiple (gate_scalar gate) n (by_hadamards gate) (gate ∷ [])
gate-written n (H q) on f z l = sym (one-mul _)
gate-written n (Phase q k) on f z l = sym (one-mul _)
gate-written n (Cz p q) on f z l = sym (one-mul _)
gate-written n (Cx control target) on f z l = cx_by_three n control target on.1 on.2 f z l
gate-written n (Not q) on f z l = not_by_three n q on f z l

pub map-written : (n : ℕ) (gates : List Gate) → All (IsOnQubits n) gates → IsMultiple (scalar_of gates) n (written_out gates) gates
map-written n [] all f z l = sym (one-mul (f z))
map-written n (gate ∷ gates) all f z l =
    ap (λ (h : List Bool → Number). h z) (acts-append (by_hadamards gate) (written_out gates) f)
    ∙ gate-written n gate (All-head (IsOnQubits n) gate gates all) (acts (written_out gates) f) z l
    ∙ ap (mul (gate_scalar gate)) (act-factor n gate (scalar_of gates) (acts (written_out gates) f) (acts gates f) (map-written n gates (All-tail (IsOnQubits n) gate gates all) f) z l)
    ∙ sym (mul_assoc (gate_scalar gate) (scalar_of gates) (acts (gate ∷ gates) f z))

-- the number of a list is a power of two
power-gate : (gate : Gate) → gate_scalar gate ≡ power_of_two (written_count (gate ∷ []))
power-gate (H q) = refl
power-gate (Phase q k) = refl
power-gate (Cz p q) = refl
power-gate (Cx control target) = sym (mul-one two)
power-gate (Not q) = sym (mul-one two)

pub scalar_of-power : (gates : List Gate) → scalar_of gates ≡ power_of_two (written_count gates)
scalar_of-power [] = refl
scalar_of-power (gate ∷ gates) =
    let both : written_count (gate ∷ []) + written_count gates ≡ written_count (gate ∷ gates) =
    omega (arith, count-cons is_cx gate gates, count-cons is_not gate gates) in
    ap₂ mul (power-gate gate) (scalar_of-power gates) ∙ sym (power_of_two-add (written_count (gate ∷ [])) (written_count gates)) ∙ ap power_of_two both
