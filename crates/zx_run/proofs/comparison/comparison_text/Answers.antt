-- The measurements are the same where the test says so.
use Rattle.std.proofs.Common.{◌≡◌, true, rules}
use Rattle.zx_run.proofs.comparison.comparison_text.Goals as goal

pub line_about_gates-requires-clause-measures : goal.line_about_gates-requires-clause-measures
line_about_gates-requires-clause-measures c =
    let same : c.have_same_measures.result ≡ true = search rules in c.have_same_measures.ensures.same same
