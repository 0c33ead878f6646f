-- The gate's links lead on.
use Rattle.zx_peephole.proofs.WalkLemmas.{linked_last}
use Rattle.zx_peephole.proofs.finding.before.Goals as goal

pub returns-clause-walk : goal.returns-clause-walk
returns-clause-walk c = record {
  first = linked_last c.args.work.now c.first_qubit.result _ c.args.place c.link.result c.requires.sound
      c.requires.qubits.first c.requires.before c.requires.first c.first_qubit.ensures c.link.ensures;
  second = linked_last c.args.work.now c.second_qubit.result _ c.args.place c.link-2.result c.requires.sound
      c.requires.qubits.second c.requires.before c.requires.second c.second_qubit.ensures c.link-2.ensures;
}
