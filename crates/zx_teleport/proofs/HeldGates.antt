-- Gates whose phases are held where they come, one after the other.
use Rattle.std.proofs.Common.{◌≡◌, refl, sym, ◌∙◌, ap, ap₂, subst, ℕ, ◌+◌, ◌<◌, true, false, List, length, filter, get_or, Some, None, true≢false, arith}
use Rattle.std.proofs.lemmas.List.{get_or_default}
use Rattle.std.specs.List.{range_with_len}
use Rattle.zx_calculus.proofs.Ids.{by_test}
use Rattle.zx_gates.specs.Circuit.{Circuit, IsCircuit, is_odd_phase}
use Rattle.zx_gates.specs.declared.gate.Gate.{Gate}
use Rattle.zx_gates.specs.declared.gate.Gate.TheVariants.{H, Phase, Cz, Cx, Not}
use Rattle.circuit_graph.specs.Translation.{places}
use Rattle.teleport_laws.specs.Spots.{spot_at}
use Rattle.teleport_circuits.specs.Teleporting.{gate_at, phase_at, place_number, vertex_at}
use Rattle.teleport_circuits.proofs.Teleporting.{phase_at-low}
use Rattle.phase_groups.specs.Groups.{Phases, AreNone, IsAdded}
use Rattle.phase_groups.specs.Internal.Agreement.{Agrees}
use Rattle.phase_groups.proofs.Agreeing.{agrees-none, agrees-gate}
use Rattle.zx_reduce.proofs.Holdings.{place_here, picked-one, picked-none, picked-below}
use Rattle.zx_teleport.specs.Internal.Held.{AreHeldBelow}

pub gate_there : (c : Circuit) (gates : List Gate) (i j : ℕ) (x : Gate) → gates ≡ c.gates → i ≡ j → j < length c.gates → x ≡ get_or gates i x → x ≡ gate_at c j
gate_there c gates i j x all same there is =
    is ∙ ap₂ (λ gs k. get_or gs k x) all same ∙ get_or_default c.gates j x (H 0) there

-- no gate yet
pub none_held : (c : Circuit) (p : Phases) → AreNone (length c.gates) p → AreHeldBelow c 0 p
none_held c p none = agrees-none (phase_at c) (λ i. spot_at (vertex_at c i)) p none.groups none.none

odd_is_phase : (gate : Gate) → is_odd_phase gate ≡ true → (q : ℕ) × (k : ℕ) × (gate ≡ Phase q k)
odd_is_phase (H q) odd = absurd (true≢false (sym odd))
odd_is_phase (Phase q k) odd = (q, k, refl)
odd_is_phase (Cz p q) odd = absurd (true≢false (sym odd))
odd_is_phase (Cx p q) odd = absurd (true≢false (sym odd))
odd_is_phase (Not q) odd = absurd (true≢false (sym odd))

module _ (c : Circuit) (i : ℕ) (p q : Phases) (within : i < length c.gates) (held : AreHeldBelow c i p) where
  -- one more, of an odd phase
  odd_held : IsCircuit c → length p.phases ≡ length c.gates → is_odd_phase (gate_at c i) ≡ true →
      ((v : ℕ) → get_or (places c) i None ≡ Some v → IsAdded i v (phase_at c i) p q) → AreHeldBelow c (i + 1) q × (length q.phases ≡ length c.gates)
  odd_held formed count odd added =
      let gate = odd_is_phase (gate_at c i) odd in
      let here = place_here c i gate.0 gate.1 within gate.2 in
      let one = added _ here in (
        subst (λ gates. Agrees (phase_at c) gates (λ j. spot_at (vertex_at c j)) q) (sym (picked-one (λ j. is_odd_phase (gate_at c j)) i odd))
            (agrees-gate (phase_at c) (phase_at-low c formed) (filter (λ j. is_odd_phase (gate_at c j)) (range_with_len 0 i)) (λ j. spot_at (vertex_at c j)) p q i _ held
            (picked-below (λ j. is_odd_phase (gate_at c j)) i) (omega (arith, within, count)) (ap (λ v. spot_at (place_number v)) here) one),
        one.phases.count ∙ count,
      )

  -- one of an even phase or of none
  even_held : length p.phases ≡ length c.gates → is_odd_phase (gate_at c i) ≡ false → q ≡ p → AreHeldBelow c (i + 1) q × (length q.phases ≡ length c.gates)
  even_held count even same = (
    subst (λ gates. Agrees (phase_at c) gates (λ j. spot_at (vertex_at c j)) q) (sym (picked-none (λ j. is_odd_phase (gate_at c j)) i even))
        (subst (AreHeldBelow c i) (sym same) held),
    ap (λ (x : Phases). length x.phases) same ∙ count,
  )

  pub next_held : IsCircuit c → length p.phases ≡ length c.gates →
      (is_odd_phase (gate_at c i) ≡ true → (v : ℕ) → get_or (places c) i None ≡ Some v → IsAdded i v (phase_at c i) p q) →
      (is_odd_phase (gate_at c i) ≡ false → q ≡ p) → AreHeldBelow c (i + 1) q × (length q.phases ≡ length c.gates)
  next_held formed count odd even =
      by_test (is_odd_phase (gate_at c i)) (λ t. odd_held formed count t (odd t)) (λ f. even_held count f (even f))
