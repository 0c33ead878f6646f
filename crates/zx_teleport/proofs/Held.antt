-- Phases by groups are the new ones.
use Rattle.std.proofs.Common.{◌≡◌, refl, sym, ◌∙◌, ap, subst, ℕ, ◌≤◌, true, List, [], ◌∷◌, length, Result, Ok, Err, IfOk, OnOk}
use Rattle.std.proofs.Math.ListN.{get_or-eq_default}
use Rattle.zx_model.specs.Bits.{member}
use Rattle.zx_bits.proofs.Places.{member-picked}
use Rattle.zx_model.specs.Proportional.{Proportional}
use Rattle.zx_calculus.specs.Graph.{Graph, WellFormed}
use Rattle.zx_calculus.specs.Counts.{odd_phases}
use Rattle.zx_calculus.proofs.Ids.{by_test}
use Rattle.zx_calculus.specs.Reduced.{IsReduced}
use Rattle.zx_calculus.specs.Steps.{Step, IsRun, after}
use Rattle.zx_calculus.proofs.Steps.{step_kept, step_result}
use Rattle.zx_gates.specs.Circuit.{Circuit, IsCircuit, is_odd_phase, gate_odd_phases}
use Rattle.zx_gates.specs.Maps.{amp}
use Rattle.zx_gates.specs.declared.gate.Gate.TheVariants.{H}
use Rattle.circuit_graph.specs.Translation.{translated}
use Rattle.phase_groups.specs.Groups.{Phases, phase_of_gate, FollowRun}
use Rattle.phase_groups.proofs.FollowedRuns.{followed_run, agrees-ends}
use Rattle.teleport_laws.specs.Spots.{Spot, spot_at, moved, carried}
use Rattle.teleport_laws.specs.Groups.{teleported}
use Rattle.teleport_circuits.specs.Circuits.{IsSkeleton, with_phases, without_idle}
use Rattle.teleport_circuits.specs.Teleporting.{gate_at, phase_at, vertex_at, odd_gates, new_phase, spots_of, teleported_gates}
use Rattle.teleport_circuits.proofs.Moving.{skeleton_left}
use Rattle.teleport_circuits.proofs.Teleporting.{phase_at-low, teleported_map, graph_formed}
use Rattle.teleport_circuits.proofs.OddPhases.{teleported_odd, teleported_fewer}
use Rattle.zx_reduce.specs.Grouped.{GroupsTo}
use Rattle.zx_teleport.specs.Internal.Held.{AreHeldBelow, phases_held}
use Rattle.zx_teleport.specs.Together.{HasTeleported, IsTeleported}

-- a gate of an odd phase is one of those
odd_there : (c : Circuit) (i : ℕ) → is_odd_phase (gate_at c i) ≡ true → member i (odd_gates c) ≡ true
odd_there c i odd =
    member-picked (λ j. is_odd_phase (gate_at c j)) (length c.gates) i (λ k past. ap is_odd_phase (get_or-eq_default c.gates (H 0) past)) ∙ odd

held_is : (c : Circuit) (p : Phases) (spot : ℕ → Spot) → ((i : ℕ) → member i (odd_gates c) ≡ true → phase_of_gate p i ≡ teleported (phase_at c) spot (odd_gates c) i) →
    (i : ℕ) → phases_held c p i ≡ new_phase c spot i
held_is c p spot all i = by_test (is_odd_phase (gate_at c i)) (λ t. rw t (all i (odd_there c i t))) (λ f. rw f refl)

-- a phase is carried to the same place by whatever leads along the same steps
carried_same : (steps : List Step) (g k h : Graph) → WellFormed g → g ≡ k → (one : IsRun g steps h) (other : IsRun k steps h) (spot : Spot) →
    carried g steps h one spot ≡ carried k steps h other spot
carried_same [] g k h w same one other spot = refl
carried_same (s ∷ steps) g k h w same one other spot =
    carried_same steps one.0 other.0 h (step_kept g s one.0 w one.1)
    (step_result g s one.0 w one.1 ∙ ap (after s) same ∙ sym (step_result k s other.0 (subst WellFormed same w) other.1)) one.2 other.2 (moved (length steps) g s spot)
    ∙ ap (λ x. carried other.0 steps h other.2 (moved (length steps) x s spot)) same

-- the circuit with these phases
module _ (read made : Circuit) (p : Phases) (steps : List Step) (h : Graph) (run : IsRun (translated read) steps h)
    (phases : (i : ℕ) → member i (odd_gates read) ≡ true → phase_of_gate p i ≡ teleported (phase_at read) (spots_of read steps h run) (odd_gates read) i)
    (reduced : IsReduced h) (formed : IsCircuit read) (qubits : made.qubits ≡ read.qubits)
    (gates : made.gates ≡ without_idle (with_phases (phases_held read p) 0 read.gates)) where
  is : made.gates ≡ teleported_gates read steps h run
  is = gates ∙ ap (λ (phase : ℕ → ℕ). without_idle (with_phases phase 0 read.gates)) (λ i n. held_is read p (spots_of read steps h run) phases n i)

  pub is_teleported : IsTeleported read made steps h
  is_teleported = record {
    qubits = qubits;
    skeleton = subst (IsSkeleton read.gates) (sym is) (skeleton_left (new_phase read (spots_of read steps h run)) 0 read.gates);
    map = subst (λ gs. Proportional read.qubits read.qubits (amp gs) (amp read.gates)) (sym is) (teleported_map read steps h run formed);
    run = run;
    reduced = reduced;
    gates = λ other. is ∙ ap (λ (spots : ℕ → Spot). without_idle (with_phases (new_phase read spots) 0 read.gates))
        (λ j i. carried_same steps (translated read) (translated read) h (graph_formed read formed) refl run other (spot_at (vertex_at read i)) j);
    odd = subst (λ gs. gate_odd_phases gs ≤ odd_phases h) (sym is) (teleported_odd read steps h run formed);
    fewer = subst (λ gs. gate_odd_phases gs ≤ gate_odd_phases read.gates) (sym is) (teleported_fewer read steps h run formed);
  }

-- the same where groups of gates followed the steps
pub followed_teleported : (read made : Circuit) (x y : Phases) (g : Graph) (steps : List Step) (h : Graph) → g ≡ translated read → FollowRun g steps h x y → AreHeldBelow read (length read.gates) x →
    IsReduced h → IsCircuit read → made.qubits ≡ read.qubits → made.gates ≡ without_idle (with_phases (phases_held read y) 0 read.gates) → IsTeleported read made steps h
followed_teleported read made x y g steps h start followed held reduced formed qubits gates =
    let f : FollowRun (translated read) steps h x y = subst (λ k. FollowRun k steps h x y) start followed in
    is_teleported read made y steps h (followed_run (translated read) steps h x y f)
    (agrees-ends (phase_at read) (phase_at-low read formed) (odd_gates read) (vertex_at read) (translated read) steps h x y (graph_formed read formed) f held).phases
    reduced formed qubits gates

pub has_teleported : (read made : Circuit) (p : Phases) → GroupsTo read p → IsCircuit read → made.qubits ≡ read.qubits →
    made.gates ≡ without_idle (with_phases (phases_held read p) 0 read.gates) → HasTeleported read made
has_teleported read made p G formed qubits gates = record {
  steps = G.steps;
  end = G.graph;
  teleported = is_teleported read made p G.steps G.graph G.run G.phases G.reduced formed qubits gates;
}

-- what is said of an answer, together
pub all_of_it : {A E P : Type 0} (r : Result A E) (Q R S : A → Type 0) → OnOk r P → IfOk r Q → IfOk r R → ((a : A) → P → Q a → R a → S a) → IfOk r S
all_of_it (Ok a) Q R S p q r all = all a p q r
all_of_it (Err e) Q R S p q r all = tt
