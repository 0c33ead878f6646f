-- The numbers are those of the gates.
use Rattle.std.proofs.Common.{◌≡◌, IfOk, subst}
use Rattle.zx_report.specs.Report.{report_lines}
use Rattle.zx_optimise.specs.Optimising.{counts_of}
use Rattle.zx_run.proofs.CountsLemmas.{same_counts}
use Rattle.zx_run.proofs.output.report_lines.Goals as goal

pub returns : goal.returns
returns c =
    let read = c.counts.ensures in
    let made = c.counts-2.ensures in
    let first = same_counts c.counts.result c.args.read.now.gates read.total read.odd read.two_qubit read.h read.phase read.cz read.cx read.nots in
    let second = same_counts c.counts-2.result c.args.made.now.gates made.total made.odd made.two_qubit made.h made.phase made.cz made.cx made.nots in
    subst (λ counts. IfOk c.report.result (λ lines. lines.items ≡ report_lines counts (counts_of c.args.made.now.gates))) first
    (subst (λ counts. IfOk c.report.result (λ lines. lines.items ≡ report_lines c.counts.result counts)) second c.report.ensures)
