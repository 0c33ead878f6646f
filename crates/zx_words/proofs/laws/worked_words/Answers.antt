-- The words that are written out compute.
use Rattle.std.proofs.Common.{refl}
use Rattle.zx_words.proofs.laws.worked_words.Goals as goal

pub returns-clause-plain : goal.returns-clause-plain
returns-clause-plain c = refl

pub returns-clause-flags : goal.returns-clause-flags
returns-clause-flags c = refl

pub returns-clause-scalar : goal.returns-clause-scalar
returns-clause-scalar c = refl

pub returns-clause-scalar_twice : goal.returns-clause-scalar_twice
returns-clause-scalar_twice c = refl

pub returns-clause-twice : goal.returns-clause-twice
returns-clause-twice c = refl

pub returns-clause-valued : goal.returns-clause-valued
returns-clause-valued c = refl

pub returns-clause-no_word : goal.returns-clause-no_word
returns-clause-no_word c = refl

pub returns-clause-further : goal.returns-clause-further
returns-clause-further c = refl

pub returns-clause-help : goal.returns-clause-help
returns-clause-help c = refl

pub returns-clause-help_of_opt : goal.returns-clause-help_of_opt
returns-clause-help_of_opt c = refl

pub returns-clause-separator : goal.returns-clause-separator
returns-clause-separator c = refl

pub returns-clause-behind : goal.returns-clause-behind
returns-clause-behind c = refl

pub returns-clause-teleport : goal.returns-clause-teleport
returns-clause-teleport c = refl

pub returns-clause-teleport_end : goal.returns-clause-teleport_end
returns-clause-teleport_end c = refl

pub returns-clause-teleport_flag : goal.returns-clause-teleport_flag
returns-clause-teleport_flag c = refl

pub returns-clause-reduce : goal.returns-clause-reduce
returns-clause-reduce c = refl

pub returns-clause-flow : goal.returns-clause-flow
returns-clause-flow c = refl

pub returns-clause-graph : goal.returns-clause-graph
returns-clause-graph c = refl

pub returns-clause-compile : goal.returns-clause-compile
returns-clause-compile c = refl

pub returns-clause-same : goal.returns-clause-same
returns-clause-same c = refl
