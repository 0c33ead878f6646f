-- The vertices without outputs, sorted, are the order.
use Rattle.std.proofs.Common.{subst, ℕ, List}
use Rattle.std.specs.List.Sorted.{IsPermutation}
use Rattle.move_laws.specs.Ranks.{rank_in}
use Rattle.flow_find.proofs.Ranked.{sorted_is_order}
use Rattle.flow_find.proofs.ranks.find_by_rank.Goals as goal

pub find_cheap-requires : goal.find_cheap-requires
find_cheap-requires c =
    let g = c.args.g.now.graph in
    let sorted : List ℕ = c.sort_by_rank.new.order.items in
    sorted_is_order g (rank_in c.args.ranks.now) c.requires.0 c.requires.1 sorted c.measured.ensures.valid c.requires.2
    (subst (λ (l : List ℕ). IsPermutation l sorted) c.in_ok-order.ensures.value c.sort_by_rank.ensures.permutation)
    c.sort_by_rank.ensures.sorted
