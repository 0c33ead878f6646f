-- The law, by its lemmas.
use Rattle.flow_find.proofs.Unions.{still_corrected, both_stuck, one_largest}
use Rattle.flow_find.proofs.laws.stuck_sets_are_one_together.Goals as goal

pub returns-clause-fewer : goal.returns-clause-fewer
returns-clause-fewer c = still_corrected

pub returns-clause-union : goal.returns-clause-union
returns-clause-union c = λ g one other a b. both_stuck one other g a b

pub returns-clause-one_largest : goal.returns-clause-one_largest
returns-clause-one_largest c = λ g one other a b. one_largest one other g a b
