use Rattle.zx_extract.specs.Internal.Choosing.{HasOnly}
use Rattle.zx_extract.proofs.few_rows.only_rows.Given as goal

abbrev pub invariant-loop-r : goal.invariant-loop-r
invariant-loop-r l = HasOnly l.m l.set.bits l.r l.only
