use Rattle.std.proofs.Common.{length}
use Rattle.zx_extract.proofs.frontier.Frontier.+write_gadget_on.Given as goal

-- The gates that are left.
abbrev pub decreases-write_gadget_on : goal.decreases-write_gadget_on
decreases-write_gadget_on l = length l.others.now
