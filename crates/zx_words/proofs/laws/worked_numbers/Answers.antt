-- The words that are written out compute.
use Rattle.std.proofs.Common.{refl}
use Rattle.std.specs.Fmt.{digits}
use Rattle.zx_words.specs.Command.{numeral_in}
use Rattle.zx_words.proofs.laws.worked_numbers.Goals as goal

pub returns-clause-numbers : goal.returns-clause-numbers
unfolding numeral_in digits
returns-clause-numbers c = refl

pub returns-clause-greatest : goal.returns-clause-greatest
unfolding numeral_in digits
returns-clause-greatest c = refl

pub returns-clause-seed : goal.returns-clause-seed
unfolding numeral_in digits
returns-clause-seed c = refl

pub returns-clause-no_qubits : goal.returns-clause-no_qubits
unfolding numeral_in digits
returns-clause-no_qubits c = refl

pub returns-clause-qubits : goal.returns-clause-qubits
unfolding numeral_in digits
returns-clause-qubits c = refl

pub returns-clause-gates : goal.returns-clause-gates
unfolding numeral_in digits
returns-clause-gates c = refl

pub returns-clause-zero : goal.returns-clause-zero
unfolding numeral_in digits
returns-clause-zero c = refl

pub returns-clause-sign : goal.returns-clause-sign
unfolding numeral_in digits
returns-clause-sign c = refl

pub returns-clause-too_few : goal.returns-clause-too_few
unfolding numeral_in digits
returns-clause-too_few c = refl

pub returns-clause-too_many : goal.returns-clause-too_many
unfolding numeral_in digits
returns-clause-too_many c = refl

pub returns-clause-separator : goal.returns-clause-separator
unfolding numeral_in digits
returns-clause-separator c = refl

pub returns-clause-separators : goal.returns-clause-separators
unfolding numeral_in digits
returns-clause-separators c = refl
