-- Each law is a lemma.
use Rattle.std.proofs.Common.{◌⊎◌, ℕ, List, inl, inr}
use Rattle.zx_diagram.specs.Diagram.{Diagram}
use Rattle.zx_text.proofs.DecisionLemmas.{file_or_bad}
use Rattle.diagram_text.specs.Reading.{SpellsDiagram, IsFileText, IsBadLine}
use Rattle.diagram_text.specs.Internal.DiagramFormat.{diagram_files}
use Rattle.diagram_text.proofs.StopLemmas.{by_lines, no_file}
use Rattle.diagram_text.proofs.laws.each_text_is_a_file_or_has_a_bad_line.Goals as goal

some_diagram : {text : List ℕ} → IsFileText text ⊎ ((line : ℕ) × IsBadLine text line) → ((d : Diagram) × SpellsDiagram text d) ⊎ ((line : ℕ) × IsBadLine text line)
some_diagram (inl file) = inl (file.diagram, file.spells)
some_diagram (inr bad) = inr bad

pub returns-clause-either : goal.returns-clause-either
returns-clause-either c = λ text short. some_diagram (file_or_bad diagram_files by_lines text short)

pub returns-clause-never_both : goal.returns-clause-never_both
returns-clause-never_both c = λ text line d bad spells. no_file bad d spells
