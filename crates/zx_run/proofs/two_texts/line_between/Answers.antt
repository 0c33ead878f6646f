-- What was passed has no such line.
use Rattle.std.proofs.Common.{true≢false, sym, ◌∙◌, arith}
use Rattle.std.proofs.lemmas.List.{length-take-le}
use Rattle.std.proofs.lemmas.Bool.Decides.{Decides-eqb}
use Rattle.zx_run.proofs.PartingLemmas.{are_lines_up_to, lines_up_to, parted_at, no_earlier, ends_inside}
use Rattle.zx_run.proofs.two_texts.line_between.Goals as goal
use Rattle.zx_run.proofs.two_texts.line_between.Goals.{else-begins-via-then-begins+else-is_line_at, else-begins-via-else-begins}

pub returns-then-is_line_at-clause-parted : goal.returns-then-is_line_at-clause-parted
returns-then-is_line_at-clause-parted c =
    let text = c.args.text.now in
    let at = c.loop-at.at in
    let within = c.loop-at-test.true in
    record {
      parted = parted_at text at (c.loop-at.invariant.lines c.if-begins.true) (c.is_line_at.ensures.begins c.if-is_line_at.true);
      foremost = λ before behind is.
          let n = c.loop-at.invariant.none before behind is in
          let m = length-take-le at text (omega (arith, within)) in omega (arith, n, m);
    }

pub loop-at-preserved : goal.loop-at-preserved
loop-at-preserved c =
    let text = c.args.text.now in
    let at = c.loop-at.at in
    let within = c.loop-at-test.true in
    record {
      lines = λ is. are_lines_up_to text at within ((Decides-eqb _ _).0 is);
      begins = λ lines. (Decides-eqb _ _).1 (lines_up_to text at within lines);
      none = λ first second parted. no_earlier text first second at (c.loop-at.invariant.none first second parted) parted
          (λ lines rest is. elim c.else-begins.branch [
            | else-begins-via-then-begins+else-is_line_at w ↦ true≢false (sym (w.is_line_at.ensures.found rest is) ∙ w.if-is_line_at.false)
            | else-begins-via-else-begins w ↦ true≢false (sym (c.loop-at.invariant.begins lines) ∙ w.if-begins.false)
          ]);
    }

pub returns-clause-none : goal.returns-clause-none
returns-clause-none c = λ is first second parted.
    let n = c.loop-at-test.false in
    let m = c.loop-at.invariant.none first second parted in
    ends_inside c.args.text.now first second parted (omega (arith, n, m))
