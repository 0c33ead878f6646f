use Rattle.std.proofs.Common.{◌∙◌, ap, ap₂, ℕ, cond, eqb, List}
use Rattle.gflow_laws.specs.Flow.{Correction}
use Rattle.gflow_laws.specs.Tables.{with_sets}
use Rattle.zx_flow.specs.Internal.Sets.{Corrections}
use Rattle.zx_flow.proofs.SetLemmas.{table_of-changed}
use Rattle.zx_flow.proofs.TableChanges.{within}
use Rattle.zx_flow.proofs.corrections.Corrections.replace.Goals as goal

pub put-requires : goal.put-requires
put-requires c = within c.self.invariant c.self.view_is c.args.v c.requires

pub returns : goal.returns
returns c =
    table_of-changed c.self.inside.sets.lists c.put.new.self.lists c.self.inside.order.items c.args.v c.put.ensures.others
    ∙ ap₂ (λ (s : List ℕ) (t : List Correction). with_sets (λ u members. cond (eqb u c.args.v) s members) t)
    c.put.ensures.own (ap (λ (k : Corrections). k.table) c.self.view_is)
