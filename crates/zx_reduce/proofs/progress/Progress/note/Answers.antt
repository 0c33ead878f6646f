-- The outputs are plain, and the phase is held by the vertex at the output.
use Rattle.std.proofs.lemmas.Result.{on_ok_weaker}
use Rattle.zx_reduce.proofs.Growths.{plain_inside}
use Rattle.zx_reduce.proofs.Grouping.{note_inside}
use Rattle.zx_reduce.proofs.progress.Progress.note.Goals as goal

pub last_spider-v-requires-clause-plain : goal.last_spider-v-requires-clause-plain
last_spider-v-requires-clause-plain c = plain_inside _ c.args.self.now c.self.view_is c.requires.grown

pub returns : goal.returns
returns c =
    on_ok_weaker c.add_to.result
    (note_inside _ c.args.self.now c.self.view_is c.args.gate c.args.q c.args.phase c.last_spider-v.result c.add_to.new.phases c.last_spider-v.ensures)
    c.add_to.ensures
