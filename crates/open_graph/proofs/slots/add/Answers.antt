use Rattle.std.proofs.Common.{◌∙◌}
use Rattle.open_graph.proofs.ReachLemmas.{room_added}
use Rattle.open_graph.proofs.slots.add.Goals as goal

pub returns-clause-ok : goal.returns-clause-ok
returns-clause-ok c p = c.give_row.ensures.same p ∙ c.in_ok-v.ensures.ok p

pub returns-clause-room : goal.returns-clause-room
returns-clause-room c reach =
    room_added reach c.args.slots.now.slots c.give_row.new.slots.slots c.args.kept.now.items c.give_row.new.kept.items c.in_ok-v.v
    c.in_ok-v.ensures.vacant c.give_row.ensures.there
    (λ p apart. c.give_row.ensures.others p apart ∙ c.in_ok-v.ensures.others p apart)
    c.give_row.ensures.room c.give_row.ensures.others_kept c.give_row.ensures.covers c.give_row.ensures.empty
