-- What is found by halves is how many are lower.
use Rattle.std.proofs.Common.{◌∙◌, ltb, sym, ap, rules}
use Rattle.std.proofs.lemmas.List.Sorted.{IsPartitionPoint-from_clause}
use Rattle.zx_text.specs.Numbered.{number_in}
use Rattle.zx_text.proofs.NumberLemmas.{number_at, parted}
use Rattle.zx_text.proofs.graph_writer.number_of.Goals as goal

pub returns : goal.returns
returns c =
    let id = c.get-id.result in
    let used = c.args.used.now in
    let at = IsPartitionPoint-from_clause (λ y. ltb y id) used c.partition_point.result
    c.partition_point.ensures.partitioned (parted used id c.requires) (λ a r f h. search rules) in
    sym (number_at used id c.partition_point.result c.partition_point.ensures.bound at.0 at.1)
    ∙ ap (number_in used) c.get-id.ensures
