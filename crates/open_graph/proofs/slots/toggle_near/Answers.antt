-- The copy has what the row has.
use Rattle.std.proofs.Common.{◌∙◌, sym, ap₂, subst, IsOk, ◌&&◌, eqb}
use Rattle.std.proofs.lemmas.Bool.{false≢true}
use Rattle.zx_model.specs.Bits.{xor}
use Rattle.zx_calculus.proofs.Positions.{on_ok}
use Rattle.open_graph.specs.Internal.Slots.{told_at}
use Rattle.open_graph.specs.Internal.Changes.{two_among}
use Rattle.open_graph.proofs.RowToggles.{rows_alike}
use Rattle.open_graph.proofs.ReachLemmas.{keeps_same}
use Rattle.open_graph.proofs.slots.toggle_near.Goals as goal

pub toggle_among-requires : goal.toggle_among-requires
toggle_among-requires c q there = c.requires.near_live q (sym (c.in_ok-copy_row.ensures.members q) ∙ there)

pub returns-clause-toggled : goal.returns-clause-toggled
returns-clause-toggled c =
    on_ok c.toggle_among.result
    (λ toggled. rows_alike c.args.slots.now.slots c.toggle_among.new.slots.slots _ (two_among (told_at c.args.slots.now.slots c.args.u).row) toggled
    (λ p q. ap₂ (λ a b. a && xor b (eqb q p)) (c.in_ok-copy_row.ensures.members p) (c.in_ok-copy_row.ensures.members q)))
    c.toggle_among.ensures.toggled

pub returns-clause-holds : goal.returns-clause-holds
returns-clause-holds c holds = record { near = c.copy_row.ensures.keeps_room holds.near; far = holds.far }

pub returns-clause-has_room : goal.returns-clause-has_room
returns-clause-has_room c holds rows below =
    c.toggle_among.ensures.has_room rows (λ q there. below q (sym (c.in_ok-copy_row.ensures.members q) ∙ there))

pub returns-in_err-copy_row-clause-room : goal.returns-in_err-copy_row-clause-room
returns-in_err-copy_row-clause-room c = keeps_same c.args.reach c.args.slots.now.slots

pub returns-in_err-copy_row-clause-holds : goal.returns-in_err-copy_row-clause-holds
returns-in_err-copy_row-clause-holds c holds = record { near = c.copy_row.ensures.keeps_room holds.near; far = holds.far }

pub returns-in_err-copy_row-clause-has_room : goal.returns-in_err-copy_row-clause-has_room
returns-in_err-copy_row-clause-has_room c holds rows below =
    absurd (false≢true (subst IsOk c.in_err-copy_row.was (c.copy_row.ensures.has_room holds.near below)))
