-- What the search has come to.
use Rattle.flow_find.specs.Internal.Searching.{IsUnderWay, left_in}
use Rattle.flow_find.proofs.search.find.Given as goal

abbrev pub invariant-taking : goal.invariant-taking
invariant-taking l = IsUnderWay l.g.graph l.search

abbrev pub decreases-taking : goal.decreases-taking
decreases-taking l = left_in l.g.graph l.search
