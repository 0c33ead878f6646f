-- Equal slices.
use Rattle.std.proofs.Common.{sym, ◌∙◌}
use Rattle.std.proofs.lemmas.Bool.Decides.{Decides-eqb}
use Rattle.std.proofs.lemmas.Slice.Eq.{slice_eq-Decides}
use Rattle.flow_tests.proofs.tests.finding.has_order.Goals as goal

pub returns : goal.returns
returns c = λ is.
    sym c.order.ensures.value ∙ (slice_eq-Decides Decides-eqb c.order.result.now c.args.order.now c.eq.result c.eq.ensures).0 is
