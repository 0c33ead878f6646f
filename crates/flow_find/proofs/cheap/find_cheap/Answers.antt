-- The table of the sets in their own order is a flow.
use Rattle.std.proofs.Common.{◌∙◌, sym, subst, ℕ, List}
use Rattle.zx_calculus.specs.Graph.{Distinct}
use Rattle.flow_find.specs.Internal.Next.{HasSetsOf}
use Rattle.flow_find.proofs.Orders.{is_order}
use Rattle.flow_find.proofs.Choosing.{both_ok}
use Rattle.flow_find.proofs.cheap.find_cheap.Goals as goal

pub table_of-requires : goal.table_of-requires
table_of-requires c = subst Distinct (sym c.deref.ensures.value) (is_order c.args.g.now.graph c.args.order.items c.requires).each_once

pub returns : goal.returns
returns c = both_ok c.reordered.result
    (λ new along sets. c.in_ok-correct_all.ensures.flow new.table (along ∙ c.deref-2.ensures.value)
    (subst (λ (o : List ℕ). HasSetsOf c.correct_all.new.table.table o new.table) c.deref-2.ensures.value sets))
    c.reordered.ensures.order c.reordered.ensures.sets
