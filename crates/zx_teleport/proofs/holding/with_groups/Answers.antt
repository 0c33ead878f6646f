-- One gate more.
use Rattle.std.proofs.Common.{◌≡◌, ◌∙◌, ap, ◌<◌, length, List, [], ◌∷◌, ◌++◌, refl, subst}
use Rattle.zx_gates.specs.declared.gate.Gate.{Gate}
use Rattle.teleport_circuits.specs.Circuits.{without_idle, with_phase_in}
use Rattle.teleport_circuits.specs.Teleporting.{gate_at}
use Rattle.zx_teleport.specs.Internal.Held.{phase_held, phases_held}
use Rattle.zx_teleport.proofs.HeldGates.{gate_there}
use Rattle.zx_teleport.proofs.Written.{written_more}
use Rattle.zx_teleport.proofs.holding.with_groups.Goals as goal

pub loop-i-preserved : goal.loop-i-preserved
loop-i-preserved c =
    let there : c.loop-i.i < length c.args.read.now.gates = subst (λ (gs : List Gate). c.loop-i.i < length gs) c.gates-gates.ensures.value c.loop-i-test.true in
    let first : c.index-gates-i.result ≡ gate_at c.args.read.now c.loop-i.i =
    gate_there c.args.read.now c.gates-gates.result.now c.loop-i.i c.loop-i.i c.index-gates-i.result c.gates-gates.ensures.value refl there c.index-gates-i.is in
    let second : c.index-gates-i-in-loop-i.result ≡ gate_at c.args.read.now c.loop-i.i =
    gate_there c.args.read.now c.gates-gates.result.now c.loop-i.i c.loop-i.i c.index-gates-i-in-loop-i.result c.gates-gates.ensures.value refl there c.index-gates-i-in-loop-i.is in
    record {
      qubits = c.push_with.ensures.qubits ∙ c.loop-i.invariant.qubits;
      gates = written_more c.args.read.now (phases_held c.args.read.now c.args.groups.now) c.loop-i.i
          c.loop-i.made.gates c.push_with.new.made.gates _ c.held_phase-phase.result there c.loop-i.invariant.gates
          (c.held_phase-phase.ensures ∙ ap (phase_held c.args.groups.now c.loop-i.i) first)
          (subst (λ gate. c.push_with.new.made.gates ≡ c.loop-i.made.gates ++ without_idle (with_phase_in c.held_phase-phase.result gate ∷ [])) second c.in_ok-push_with.ensures.gates);
    }
