use Rattle.std.proofs.Common.{◌∙◌, sym, ap, subst}
use Rattle.zx_calculus.specs.Graph.{Distinct}
use Rattle.gflow_laws.specs.Flow.{order_of}
use Rattle.zx_flow.specs.Internal.Sets.{Corrections}
use Rattle.zx_flow.proofs.SetLemmas.{order_of-table_of}
use Rattle.zx_flow.proofs.corrections.Corrections.order.Goals as goal

pub returns-clause-value : goal.returns-clause-value
returns-clause-value c =
    c.deref.ensures.value ∙ sym (order_of-table_of c.self.inside.sets.lists c.self.inside.order.items)
    ∙ ap (λ (k : Corrections). order_of k.table) c.self.view_is

pub returns-clause-each_once : goal.returns-clause-each_once
returns-clause-each_once c =
    subst Distinct
    (sym (order_of-table_of c.self.inside.sets.lists c.self.inside.order.items)
    ∙ ap (λ (k : Corrections). order_of k.table) c.self.view_is)
    c.self.invariant.each_once
