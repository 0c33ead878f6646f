-- The copies have what the rows have, and the two vertices.
use Rattle.std.proofs.Common.{◌∙◌, sym, ap₂, ◌∷◌, ◌&&◌}
use Rattle.zx_model.specs.Bits.{xor}
use Rattle.zx_calculus.specs.Toggles.{across}
use Rattle.zx_calculus.proofs.Positions.{on_ok}
use Rattle.open_graph.specs.Internal.Slots.{told_at}
use Rattle.open_graph.proofs.RowToggles.{rows_alike, closed_live}
use Rattle.open_graph.proofs.slots.toggle_around.Goals as goal

pub copy_row_and_itself-requires-clause-near_live : goal.copy_row_and_itself-requires-clause-near_live
copy_row_and_itself-requires-clause-near_live c q there = c.requires.near_live c.args.u q there

pub copy_row_and_itself-requires-clause-no_loop : goal.copy_row_and_itself-requires-clause-no_loop
copy_row_and_itself-requires-clause-no_loop c = c.requires.no_loop c.args.u

pub copy_row_and_itself-requires-2-clause-near_live : goal.copy_row_and_itself-requires-2-clause-near_live
copy_row_and_itself-requires-2-clause-near_live c q there = c.requires.near_live c.args.v q there

pub copy_row_and_itself-requires-2-clause-no_loop : goal.copy_row_and_itself-requires-2-clause-no_loop
copy_row_and_itself-requires-2-clause-no_loop c = c.requires.no_loop c.args.v

pub toggle_across-requires-clause-left_live : goal.toggle_across-requires-clause-left_live
toggle_across-requires-clause-left_live c q there =
    closed_live c.args.slots.now.slots c.args.u q c.requires.u_live c.requires.near_live (sym (c.in_ok-copy_row_and_itself.ensures.members q) ∙ there)

pub toggle_across-requires-clause-right_live : goal.toggle_across-requires-clause-right_live
toggle_across-requires-clause-right_live c q there =
    closed_live c.args.slots.now.slots c.args.v q c.requires.v_live c.requires.near_live (sym (c.in_ok-copy_row_and_itself-2.ensures.members q) ∙ there)

pub returns-clause-toggled : goal.returns-clause-toggled
returns-clause-toggled c =
    let near = c.in_ok-copy_row_and_itself.ensures.members in
    let far = c.in_ok-copy_row_and_itself-2.ensures.members in
    on_ok c.toggle_across.result
    (λ toggled. rows_alike c.args.slots.now.slots c.toggle_across.new.slots.slots _
    (across (c.args.u ∷ (told_at c.args.slots.now.slots c.args.u).row) (c.args.v ∷ (told_at c.args.slots.now.slots c.args.v).row)) toggled
    (λ p q. ap₂ xor (ap₂ (λ a b. a && b) (near p) (far q)) (ap₂ (λ a b. a && b) (near q) (far p))))
    c.toggle_across.ensures.toggled

pub returns-clause-holds : goal.returns-clause-holds
returns-clause-holds c holds =
    record { near = c.copy_row_and_itself.ensures.keeps_room holds.near; far = c.copy_row_and_itself-2.ensures.keeps_room holds.far }

pub returns-clause-has_room : goal.returns-clause-has_room
returns-clause-has_room c holds rows left right =
    c.toggle_across.ensures.has_room rows
    (λ q there. left q (sym (c.in_ok-copy_row_and_itself.ensures.members q) ∙ there))
    (λ q there. right q (sym (c.in_ok-copy_row_and_itself-2.ensures.members q) ∙ there))
