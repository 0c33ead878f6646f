-- One vertex in an empty set.
use Rattle.zx_flow.proofs.Answering.{on_both}
use Rattle.zx_flow.proofs.RoomLemmas.{one_member}
use Rattle.zx_flow.proofs.sets.put_within.Goals as goal

pub returns-clause-ok : goal.returns-clause-ok
returns-clause-ok c =
    on_both c.toggle_one_within.result
    (one_member c.clear.new.self.ids c.toggle_one_within.new.set.ids c.args.id c.clear.ensures.ids)
    c.toggle_one_within.ensures.rising c.toggle_one_within.ensures.ok
