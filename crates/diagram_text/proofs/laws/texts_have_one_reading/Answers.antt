-- Each law is a lemma.
use Rattle.diagram_text.proofs.StopLemmas as stop
use Rattle.diagram_text.proofs.laws.texts_have_one_reading.Goals as goal

pub returns-clause-one_diagram : goal.returns-clause-one_diagram
returns-clause-one_diagram c = λ text d e short a b. stop.one_diagram a b short

pub returns-clause-one_bad_line : goal.returns-clause-one_bad_line
returns-clause-one_bad_line c = λ text line other a b. stop.one_bad_line a b

pub returns-clause-no_file : goal.returns-clause-no_file
returns-clause-no_file c = λ text line d bad spells. stop.no_file bad d spells
