-- One more gate stands at the end, and one fewer is left.
use Rattle.std.proofs.Common.{◌∙◌}
use Rattle.zx_gen.specs.Generator.{generated}
use Rattle.zx_gen.proofs.DrawLemmas.{drawn_more}
use Rattle.zx_gen.proofs.generator.generate.Goals as goal

pub loop-preserved : goal.loop-preserved
loop-preserved c = record {
  qubits = c.push.ensures.qubits ∙ c.loop.invariant.qubits;
  gates =
      rw c.in_ok-push.ensures.ok
      (drawn_more c.loop.circuit.gates c.draw_gate.result c.args.qubits c.args.gates c.loop.counter c.loop.generator
      c.draw_gate.new.generator (generated c.args.seed c.args.qubits c.args.gates) c.loop-test.true c.draw_gate.ensures.gate
      c.loop.invariant.gates);
}
