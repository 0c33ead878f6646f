use Rattle.std.proofs.Common.{◌≡◌}
use Rattle.zx_extract.proofs.ChosenRows.{with_copied}
use Rattle.zx_extract.proofs.few_rows.push_copy.Given as goal

abbrev pub invariant-loop-c : goal.invariant-loop-c
invariant-loop-c l = l.m ≡ with_copied l.fn.m l.row.bits l.c
