use Rattle.std.proofs.Common.{◌≡◌, ◌∙◌, sym, ap, ◌<◌, length, [], rules}
use Rattle.std.proofs.lemmas.List.{get_or_default}
use Rattle.open_graph.specs.Internal.Room.{row_kept}
use Rattle.open_graph.proofs.RoomLemmas.{vacant-put}
use Rattle.open_graph.proofs.ReachLemmas.{same_put}
use Rattle.open_graph.proofs.slots.give_row.Goals as goal

pub returns-then-get-len-clause-same : goal.returns-then-get-len-clause-same
returns-then-get-len-clause-same c =
    let value : c.replace-row.result ≡ c.index_mut.result.now = c.replace-row.ensures.value in
    let within : c.get-then-get-len.result < length c.args.kept.now.items = search rules in
    let kept : c.index_mut.result.now ≡ row_kept c.args.kept.now.items c.get-then-get-len.result = c.index_mut.ensures.value ∙ get_or_default _ _ _ _ within in
    let empty : c.replace-row.result.ids ≡ [] = ap (λ r. r.ids) (value ∙ kept) ∙ c.requires.empty c.get-then-get-len.result in
    let alone : c.index_mut-then-get-len.result.now.row.ids ≡ [] = search rules in
    same_put c.args.slots.now.slots c.get-then-get-len-2.result c.replace-row.result c.index_mut-then-get-len.result.now c.index_mut-then-get-len.ensures.value (empty ∙ sym alone)

pub returns-then-get-len-clause-spare : goal.returns-then-get-len-clause-spare
returns-then-get-len-clause-spare c =
    vacant-put c.args.slots.now.slots c.get-then-get-len-2.result _ c.index_mut-then-get-len.result.now c.index_mut-then-get-len.ensures.value
