-- The table has each vertex whose set is still to come.
use Rattle.std.proofs.Common.{◌∙◌, sym, ap}
use Rattle.zx_model.specs.Bits.{member}
use Rattle.zx_calculus.proofs.Ids.{and-right}
use Rattle.gflow_laws.specs.Flow.{order_of}
use Rattle.zx_text.specs.Files.{non_outputs}
use Rattle.zx_text.proofs.SetLemmas.{in_all, order_of-no_sets}
use Rattle.zx_text.proofs.set_part.SetPart.of_order.Goals as goal

pub invariant_of-result : goal.invariant_of-result
invariant_of-result c =
    let made = c.in-Ok-Some.ensures in
    let table = rw c.in-Ok-Some.field-0-is at made.table in
    let all = rw c.in-Ok-Some.field-0-is at made.all in
    let fits = rw c.in-Ok-Some.field-0-is at made.fits in (
      c.part.invariant.0,
      λ v inside.
          ap (λ t. member v (order_of t)) table ∙ ap (member v) (order_of-no_sets c.args.order.now)
          ∙ in_all (λ u. member u c.args.order.now) (non_outputs c.args.part.graph) v (and-right _ _ (and-right _ _ fits)) (ap (member v) (sym all) ∙ inside),
    )
