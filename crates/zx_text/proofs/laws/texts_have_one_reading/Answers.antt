-- Each law is a lemma.
use Rattle.zx_text.proofs.StopLemmas as stop
use Rattle.zx_text.proofs.laws.texts_have_one_reading.Goals as goal

pub returns-clause-one_file : goal.returns-clause-one_file
returns-clause-one_file c = λ text g h table other short a b. stop.one_file a b short

pub returns-clause-one_bad_line : goal.returns-clause-one_bad_line
returns-clause-one_bad_line c = λ wanted text line other a b. stop.one_bad_line a b

pub returns-clause-no_file : goal.returns-clause-no_file
returns-clause-no_file c = λ wanted text line g table bad spells fits. stop.no_file bad g table spells fits
