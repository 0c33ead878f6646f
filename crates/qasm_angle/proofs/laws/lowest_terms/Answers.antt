use Rattle.qasm_angle.proofs.GcdLemmas.{IsGcd-gcd}
use Rattle.qasm_angle.proofs.LowestLemmas.{lowest_pos, lowest_coprime, lowest_same, lowest_unique}
use Rattle.qasm_angle.proofs.laws.lowest_terms.Goals as goal

pub returns-clause-greatest_common_divisor : goal.returns-clause-greatest_common_divisor
returns-clause-greatest_common_divisor c a b = IsGcd-gcd a b

pub returns-clause-positive : goal.returns-clause-positive
returns-clause-positive c a b p = lowest_pos a b p

pub returns-clause-no_common_divisor : goal.returns-clause-no_common_divisor
returns-clause-no_common_divisor c a b p = lowest_coprime a b p

pub returns-clause-same_fraction : goal.returns-clause-same_fraction
returns-clause-same_fraction c a b p = lowest_same a b p

pub returns-clause-unique : goal.returns-clause-unique
returns-clause-unique c x y p q e f g = lowest_unique x y p q e f g
