-- The circuit with teleported phases is what is written.
use Rattle.std.proofs.Common.{◌∙◌, ap, rules, subst}
use Rattle.std.proofs.lemmas.Result.{IfOk-weaker}
use Rattle.zx_gates.specs.Circuit.{IsCircuit}
use Rattle.zx_gates.specs.ElementaryMaps.{amp_elementary}
use Rattle.zx_gates.specs.Maps.{amp}
use Rattle.zx_model.proofs.ProportionalLemmas.{proportional_sym}
use Rattle.zx_model.proofs.Scalars.{scaled_proportional}
use Rattle.qasm_writer.specs.Written.{written}
use Rattle.zx_run.proofs.OptimiseLemmas.{IsTeleportedText-written, measured_behind}
use Rattle.zx_run.proofs.teleporting.teleported_text.Goals as goal

pub returns : goal.returns
returns c = λ text accepted.
    let from = c.in_ok-lowered.lowered.gates in
    let lowered = c.in_ok-lowered.ensures in
    let circuit = c.in_ok-gates.gates in
    let found = c.in_ok-gates.ensures in
    let made = found.teleported in
    IfOk-weaker c.write_text.result _ _
    (λ output h. IsTeleportedText-written text output.items c.args.read.now from circuit accepted lowered.kept.qubits lowered.list
    (scaled_proportional c.args.read.now.qubits c.args.read.now.qubits (amp_elementary c.args.read.now.gates) (amp from.gates) c.in_ok-lowered.lowered.scalar lowered.kept.scaled) lowered.odd
    (record {
      qubits = made.qubits;
      skeleton = made.skeleton;
      map = proportional_sym from.qubits from.qubits (amp circuit.gates) (amp from.gates) made.map;
      odd = made.fewer;
      reduced = record {
        steps = found.steps;
        end = found.end;
        run = made.run;
        reduced = made.reduced;
        odd = made.odd;
      };
      put_together = made.gates made.run;
    })
    (subst IsCircuit c.gates.view_is c.gates.invariant.circuit)
    (measured_behind c.args.read.now circuit c.requires (made.qubits ∙ lowered.kept.qubits))
    (h ∙ ap (written circuit c.args.read.now.bits) (search rules)))
    c.write_text.ensures.text
