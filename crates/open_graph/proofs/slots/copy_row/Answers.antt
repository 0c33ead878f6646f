-- The row of the vertex is copied.
use Rattle.std.proofs.Common.{◌∙◌, sym, ap, subst}
use Rattle.zx_model.specs.Bits.{member}
use Rattle.zx_bits.specs.Sets.{IsBelow}
use Rattle.zx_calculus.proofs.Positions.{on_ok}
use Rattle.open_graph.proofs.ReachLemmas.{live_within, row_at}
use Rattle.open_graph.proofs.slots.copy_row.Goals as goal

pub copy_within-requires : goal.copy_within-requires
copy_within-requires c q there =
    live_within c.args.slots.now.slots q c.len.result c.len.ensures
    (c.requires.near_live q (ap (member q) (row_at c.args.slots.now.slots c.args.u c.get.result c.index.result.now c.get.ensures c.index.ensures) ∙ there))

pub returns-clause-members : goal.returns-clause-members
returns-clause-members c =
    on_ok c.copy_within.result
    (λ same q. same q ∙ ap (member q) (sym (row_at c.args.slots.now.slots c.args.u c.get.result c.index.result.now c.get.ensures c.index.ensures)))
    c.copy_within.ensures.ok

pub returns-clause-has_room : goal.returns-clause-has_room
returns-clause-has_room c le below =
    c.copy_within.ensures.has_room
    (subst (IsBelow c.args.reach) (row_at c.args.slots.now.slots c.args.u c.get.result c.index.result.now c.get.ensures c.index.ensures) below) le
