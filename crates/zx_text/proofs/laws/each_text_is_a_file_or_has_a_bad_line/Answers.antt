-- Each law is a lemma.
use Rattle.zx_text.specs.Internal.GraphFormat.{graph_files}
use Rattle.zx_text.proofs.DecisionLemmas.{file_or_bad}
use Rattle.zx_text.proofs.BadLineLemmas.{no_file}
use Rattle.zx_text.proofs.StopLemmas.{by_lines}
use Rattle.zx_text.proofs.laws.each_text_is_a_file_or_has_a_bad_line.Goals as goal

pub returns-clause-either : goal.returns-clause-either
returns-clause-either c = λ wanted text short. file_or_bad (graph_files wanted) (by_lines wanted) text short

pub returns-clause-never_both : goal.returns-clause-never_both
returns-clause-never_both c = λ wanted text line bad file. no_file bad file
