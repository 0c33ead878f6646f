use Rattle.std.proofs.Common.{◌≡◌, ◌≤◌, take}
use Rattle.zx_extract.specs.Choosing.{member_count}
use Rattle.zx_extract.proofs.few_rows.count_members.Given as goal

abbrev pub invariant-loop-r : goal.invariant-loop-r
invariant-loop-r l = record {
  counted : l.count ≡ member_count (take l.r l.set.bits);
  few : l.count ≤ l.r;
}
