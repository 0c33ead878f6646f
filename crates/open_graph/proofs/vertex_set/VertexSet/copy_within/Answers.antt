use Rattle.std.proofs.Common.{◌∙◌, ap, arith}
use Rattle.zx_model.specs.Bits.{xor, member}
use Rattle.zx_calculus.proofs.Positions.{on_ok}
use Rattle.open_graph.proofs.vertex_set.VertexSet.copy_within.Goals as goal

pub returns-clause-ok : goal.returns-clause-ok
returns-clause-ok c =
    on_ok c.toggle_all_within.result
    (λ toggled w. toggled w ∙ ap (λ xs. xor (member w xs) (member w c.args.other.now.ids)) c.clear.ensures.ids)
    c.toggle_all_within.ensures.ok

pub returns-clause-has_room : goal.returns-clause-has_room
returns-clause-has_room c below le =
    let kept = c.clear.ensures.keeps_room in
    c.toggle_all_within.ensures.has_room below (omega (arith, le, kept))

pub returns-clause-keeps_room : goal.returns-clause-keeps_room
returns-clause-keeps_room c le =
    let kept = c.clear.ensures.keeps_room in
    c.toggle_all_within.ensures.keeps_room (omega (arith, le, kept))
