use Rattle.std.proofs.Common.{◌≡◌, sym, ◌∙◌, ap, arith}
use Rattle.zx_extract.proofs.ChosenRows.{first_bits, with_last, no_bits, all_bits, copied_more, unset_more}
use Rattle.zx_extract.proofs.few_rows.push_copy.Goals as goal
use Rattle.zx_extract.proofs.few_rows.push_copy.Goals.{then-get, else-get}

pub loop-c-init : goal.loop-c-init
loop-c-init c = c.in_ok-push_row.ensures.ok ∙ ap (with_last c.args.m.now) (sym (no_bits c.args.m.now.columns c.args.row.now.bits))

pub loop-c-preserved : goal.loop-c-preserved
loop-c-preserved c =
    elim c.if-get.branch [
      | then-get w ↦
          w.m-is
          ∙ copied_more c.args.m.now c.loop-c.m _ c.args.row.now.bits c.loop-c.c c.height-last.result c.height-last.ensures.value c.loop-c.invariant w.flip.ensures
          (sym c.get.ensures ∙ w.if-get.true)
      | else-get w ↦
          w.m-is ∙ c.loop-c.invariant
          ∙ ap (with_last c.args.m.now) (unset_more c.args.m.now.columns c.args.row.now.bits c.loop-c.c (sym c.get.ensures ∙ w.if-get.false))
    ]

pub returns : goal.returns
returns c =
    let m = c.args.m.now in
    let end : c.loop-c.c ≡ m.columns = omega (arith, c.loop-c-test.false, c.len-c-end.ensures, c.requires) in
    c.loop-c.invariant ∙ ap (with_last m) (ap (first_bits m.columns c.args.row.now.bits) end ∙ all_bits m.columns c.args.row.now.bits c.requires)
