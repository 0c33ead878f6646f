-- Gates with other phases, one after the other.
use Rattle.std.proofs.Common.{◌≡◌, sym, ◌∙◌, ap, ℕ, suc, ◌+◌, ◌<◌, not, List, [], ◌∷◌, ◌++◌, drop, length, append_assoc, drop-cons, add-one}
use Rattle.std.proofs.lemmas.List.Elements.{filter-append}
use Rattle.zx_gates.specs.declared.gate.Gate.{Gate}
use Rattle.zx_gates.specs.declared.gate.Gate.TheVariants.{H}
use Rattle.zx_gates.specs.Circuit.{Circuit}
use Rattle.teleport_circuits.specs.Circuits.{with_phase_in, with_phases, is_idle, without_idle}
use Rattle.teleport_circuits.specs.Teleporting.{gate_at}

pub written_more : (c : Circuit) (phase : ℕ → ℕ) (i : ℕ) (before after all : List Gate) (k : ℕ) → i < length c.gates →
    before ++ without_idle (with_phases phase i (drop i c.gates)) ≡ all → k ≡ phase i →
    after ≡ before ++ without_idle (with_phase_in k (gate_at c i) ∷ []) →
    after ++ without_idle (with_phases phase (i + 1) (drop (i + 1) c.gates)) ≡ all
written_more c phase i before after all k there so_far is made =
    ap (λ j. after ++ without_idle (with_phases phase j (drop j c.gates))) (add-one i) ∙
    ap (λ xs. xs ++ without_idle (with_phases phase (suc i) (drop (suc i) c.gates))) (made ∙ ap (λ j. before ++ without_idle (with_phase_in j (gate_at c i) ∷ [])) is)
    ∙ append_assoc before (without_idle (with_phase_in (phase i) (gate_at c i) ∷ [])) (without_idle (with_phases phase (suc i) (drop (suc i) c.gates)))
    ∙ ap (λ xs. before ++ xs)
    (sym (filter-append (λ gate. not (is_idle gate)) (with_phase_in (phase i) (gate_at c i) ∷ []) (with_phases phase (suc i) (drop (suc i) c.gates)))
    ∙ ap (λ gates. without_idle (with_phases phase i gates)) (sym (drop-cons c.gates i (H 0) there)))
    ∙ so_far
