-- The vertex is none of its neighbours, so it is one more.
use Rattle.std.proofs.Common.{◌∙◌, ap, subst, IsOk, ◌||◌, eqb}
use Rattle.std.proofs.lemmas.Bool.{false≢true}
use Rattle.zx_model.specs.Bits.{member}
use Rattle.zx_calculus.proofs.Positions.{on_ok}
use Rattle.open_graph.proofs.RowLemmas.{member-inserted}
use Rattle.open_graph.proofs.slots.copy_row_and_itself.Goals as goal

pub insert_within-requires : goal.insert_within-requires
insert_within-requires c = c.in_ok-copy_row.ensures.members c.args.u ∙ c.requires.no_loop

pub returns-clause-members : goal.returns-clause-members
returns-clause-members c =
    on_ok c.insert_within.result
    (λ more q. ap (member q) more ∙ member-inserted q c.args.u c.copy_row.new.set.ids ∙ ap (λ b. eqb q c.args.u || b) (c.in_ok-copy_row.ensures.members q))
    c.insert_within.ensures.ok

pub returns-in_err-copy_row-clause-has_room : goal.returns-in_err-copy_row-clause-has_room
returns-in_err-copy_row-clause-has_room c le lt below =
    absurd (false≢true (subst IsOk c.in_err-copy_row.was (c.copy_row.ensures.has_room le below)))

pub returns-clause-has_room : goal.returns-clause-has_room
returns-clause-has_room c le lt below = c.insert_within.ensures.has_room lt (c.copy_row.ensures.keeps_room le)

pub returns-clause-keeps_room : goal.returns-clause-keeps_room
returns-clause-keeps_room c le = c.insert_within.ensures.keeps_room (c.copy_row.ensures.keeps_room le)
