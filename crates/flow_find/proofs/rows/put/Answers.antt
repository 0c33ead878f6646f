-- A row without columns.
use Rattle.std.proofs.lemmas.Result.{on_ok_weaker}
use Rattle.flow_find.proofs.Steps.{put_spent, nothing_from_first}
use Rattle.flow_find.proofs.rows.put.Goals as goal

pub relieve-requires : goal.relieve-requires
relieve-requires c = nothing_from_first c.args.row.columns.ids c.in-None.ensures.first

pub returns-in-None : goal.returns-in-None
returns-in-None c =
    on_ok_weaker c.relieve.result
    (λ spent. put_spent c.args.row c.deref_mut-in-None.result.now c.args.rows.now.items c.relieve.new.rows c.args.rows.now.len
    c.deref_mut-in-None.ensures.value c.args.rows.now.ok.0 spent)
    c.relieve.ensures
