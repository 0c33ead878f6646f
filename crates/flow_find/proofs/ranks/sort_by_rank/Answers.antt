-- Each call of the key gives the rank.
use Rattle.std.proofs.Common.{rules}
use Rattle.std.proofs.lemmas.List.Sorted.{IsNonDecreasingBy-from_sort_by_key}
use Rattle.move_laws.specs.Ranks.{rank_in}
use Rattle.flow_find.proofs.ranks.sort_by_rank.Goals as goal

pub returns-clause-sorted : goal.returns-clause-sorted
returns-clause-sorted c = IsNonDecreasingBy-from_sort_by_key (rank_in c.args.ranks.now) _ c.sort_unstable_by_key.ensures.sorted (λ a r q k. search rules)
