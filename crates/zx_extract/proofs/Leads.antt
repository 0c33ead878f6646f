-- Gates that are taken off one after the other.
use Rattle.std.proofs.Common.{◌≡◌, refl, sym, ◌∙◌, ap, subst, ℕ, ◌+◌, ◌≤◌, List, [], ◌++◌, length, length-append, append_assoc, arith}
use Rattle.std.specs.List.{All}
use Rattle.std.proofs.lemmas.List.Elements.{All-append, All-nil}
use Rattle.zx_model.specs.Number.{one}
use Rattle.zx_model.specs.Internal.Powers.{power_of_two}
use Rattle.zx_calculus.specs.Counts.{odd_phases, not_XY, XY_without_output}
use Rattle.zx_gates.specs.Circuit.{IsOnQubits, gate_odd_phases}
use Rattle.zx_gates.specs.declared.gate.Gate.{Gate}
use Rattle.gflow_laws.specs.Flow.{Correction}
use Rattle.circuit_laws.specs.Followed.{PeelsAt}
use Rattle.circuit_laws.proofs.Composing.{peels_nothing, peels_at_then}
use Rattle.zx_extract.specs.Internal.Leading.{Remainder, Leads}
use Rattle.zx_model.proofs.Powers.{power_of_two-add}
use Rattle.zx_gates.proofs.LoweringLemmas.{gate_odd_phases-append}

unfoldable pub leads_nothing : (s : Remainder) → Leads s 0 0 0 s
leads_nothing s = record {
  taken = [];
  gates = refl;
  doublings = 0;
  map = peels_nothing s.graph;
  few_doublings = omega arith;
  odd = omega arith;
  on_qubits = All-nil (IsOnQubits (length s.graph.outputs));
  few = omega arith;
  XY = omega arith;
  others = omega arith;
  inputs = refl;
  outputs = refl;
}

unfoldable pub leads_then : (s : Remainder) (k p q : ℕ) (t : Remainder) (l p' q' : ℕ) (u : Remainder) → Leads s k p q t → Leads t l p' q' u →
    Leads s (k + l) (p + p') (q + q') u
leads_then s k p q t l p' q' u a b = record {
  taken = b.taken ++ a.taken;
  gates = b.gates ∙ ap (λ r. b.taken ++ r) a.gates ∙ sym (append_assoc b.taken a.taken s.gates);
  doublings = a.doublings + b.doublings;
  map = subst (λ c. PeelsAt c s.graph (b.taken ++ a.taken) u.graph) (sym (power_of_two-add a.doublings b.doublings))
      (peels_at_then (power_of_two a.doublings) (power_of_two b.doublings)
      s.graph t.graph u.graph b.taken a.taken a.map b.map);
  few_doublings = omega (arith, a.few_doublings, b.few_doublings);
  odd = both_odd _ _ _ _ _ _ a.odd b.odd (gate_odd_phases-append b.taken a.taken);
  on_qubits = All-append (IsOnQubits (length s.graph.outputs)) b.taken a.taken
      (subst (λ n. All (IsOnQubits n) b.taken) a.outputs b.on_qubits) a.on_qubits;
  few = both_few _ _ _ _ _ a.few b.few (length-append b.taken a.taken);
  XY = both_gone _ _ _ _ _ a.XY b.XY;
  others = both_gone _ _ _ _ _ a.others b.others;
  inputs = b.inputs ∙ a.inputs;
  outputs = b.outputs ∙ a.outputs;
}
  where
    both_odd : (x y z first second all : ℕ) → y + first ≤ x → z + second ≤ y → all ≡ second + first → z + all ≤ x
    both_odd x y z first second all e f g = omega arith

    both_few : (a b k l all : ℕ) → a ≤ k → b ≤ l → all ≡ b + a → all ≤ k + l
    both_few a b k l all e f g = omega arith

    both_gone : (x y z p q : ℕ) → y + p ≡ x → z + q ≡ y → z + (p + q) ≡ x
    both_gone x y z p q e f = omega arith

-- within a larger bound; the flow plays no part
unfoldable pub leads_within : (s : Remainder) (k p q l : ℕ) (t : Remainder) {table : List Correction} → k ≤ l → Leads s k p q t →
    Leads s l p q (record t { table = table })
leads_within s k p q l t within a = record {
  taken = a.taken;
  gates = a.gates;
  doublings = a.doublings;
  map = a.map;
  few_doublings = a.few_doublings;
  odd = a.odd;
  on_qubits = a.on_qubits;
  few = at_most _ _ _ a.few within;
  XY = a.XY;
  others = a.others;
  inputs = a.inputs;
  outputs = a.outputs;
}
  where
    at_most : (a k l : ℕ) → a ≤ k → k ≤ l → a ≤ l
    at_most a k l e f = omega arith

-- gates that cost no number, where as many vertices of each kind are left
pub leads_same : (s t : Remainder) (k : ℕ) (taken : List Gate) → t.gates ≡ taken ++ s.gates →
    PeelsAt one s.graph taken t.graph →
    odd_phases t.graph + gate_odd_phases taken ≤ odd_phases s.graph → All (IsOnQubits (length s.graph.outputs)) taken →
    length taken ≤ k →
    XY_without_output t.graph ≡ XY_without_output s.graph → not_XY t.graph ≡ not_XY s.graph →
    t.graph.inputs ≡ s.graph.inputs → Leads s k 0 0 t
leads_same s t k taken gates map odd on few XY others inputs = record {
  taken = taken;
  gates = gates;
  doublings = 0;
  map = map;
  few_doublings = omega arith;
  odd = odd;
  on_qubits = on;
  few = few;
  XY = none_gone _ _ XY;
  others = none_gone _ _ others;
  inputs = inputs;
  outputs = map.0.outputs;
}
  where
    none_gone : (x y : ℕ) → x ≡ y → x + 0 ≡ y
    none_gone x y e = omega arith
