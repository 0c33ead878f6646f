-- The links of the gate at the place lead on.
use Rattle.zx_peephole.proofs.WalkLemmas.{nearest_before, followed_last}
use Rattle.zx_peephole.proofs.finding.pass.Goals as goal

pub returns-clause-walk : goal.returns-clause-walk
returns-clause-walk c =
    let before = nearest_before c.args.work.now.gates.items c.args.gate.now c.args.walk c.args.place c.requires.walk c.requires.nearest in
    record {
      first = followed_last c.args.work.now c.first_qubit.result _ c.args.walk.place c.args.walk.first c.args.place
          c.followed.result c.requires.sound c.requires.qubits.first c.requires.within before c.requires.walk.first
          c.requires.nearest.first c.first_qubit.ensures c.followed.ensures;
      second = followed_last c.args.work.now c.second_qubit.result _ c.args.walk.place c.args.walk.second c.args.place
          c.followed-2.result c.requires.sound c.requires.qubits.second c.requires.within before c.requires.walk.second
          c.requires.nearest.second c.second_qubit.ensures c.followed-2.ensures;
    }
