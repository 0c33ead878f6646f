-- A vertex in a set of one.
use Rattle.std.proofs.Common.{arith}
use Rattle.flow_find.proofs.Choosing.{only_one}
use Rattle.flow_find.proofs.cheap.alone_in.Goals as goal

pub returns-in-None : goal.returns-in-None
returns-in-None c = record {
  only = only_one c.args.row.now.columns.ids c.in_ok-v.v c.in_ok-v.ensures.first.1 c.in_ok-v.ensures.first.2
      (λ w above. c.in-None.ensures.first w (omega (arith, above, c.get.ensures)));
  plane = c.is_xy.ensures c.if-is_xy.true;
}
