use Rattle.std.proofs.Common.{length}
use Rattle.flow_find.proofs.search.any_noted.Given as goal

abbrev pub decreases-noted : goal.decreases-noted
decreases-noted l = length l.noted.items
