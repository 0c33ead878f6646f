-- What `==` on kinds answers is `same_kind` by definition; a search would compare the kinds case by case.
use Rattle.qasm_reader.specs.Internal.Taking.{same_kind}
use Rattle.qasm_reader.proofs.tokens.same_kind.Goals as goal

pub returns : goal.returns
unfolding same_kind
returns c = c.eq.ensures
