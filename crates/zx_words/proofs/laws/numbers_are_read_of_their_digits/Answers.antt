-- A number is read of its decimal digits alone.
use Rattle.std.proofs.Common.{refl, sym}
use Rattle.zx_words.proofs.WordLemmas.{number_passes, number_is}
use Rattle.zx_words.proofs.laws.numbers_are_read_of_their_digits.Goals as goal

pub returns-clause-read : goal.returns-clause-read
returns-clause-read c = λ most n le small. sym (number_passes most n _ le small refl)

pub returns-clause-only : goal.returns-clause-only
returns-clause-only c = number_is
