-- A list that is searched.
use Rattle.std.proofs.Common.{◌∙◌}
use Rattle.zx_calculus.proofs.Positions.{any-member}
use Rattle.flow_tests.proofs.tests.drawing.stands_in.Goals as goal

pub returns : goal.returns
returns c = c.contains.ensures.value ∙ any-member c.args.v c.args.order.now
