-- One more row.
use Rattle.std.proofs.Common.{◌∙◌, sym}
use Rattle.zx_extract.specs.Internal.Frontiers.{remainder_of}
use Rattle.zx_extract.proofs.BesideRow.{beside_nothing, beside_last, beside_row}
use Rattle.zx_extract.proofs.frontier.Frontier.gather_sets.Goals as goal

pub loop-c-init : goal.loop-c-init
loop-c-init c = beside_nothing (remainder_of c.args.self.now)
    c.args.t c.requires.ready c.requires.frontier c.requires.picked

pub corrects_last-requires-clause-last : goal.corrects_last-requires-clause-last
corrects_last-requires-clause-last c = (
  c.requires.last.0,
  beside_last (remainder_of c.args.self.now) c.args.t c.loop-c.c c.requires.last.0 (remainder_of c.loop-c.self)
      c.loop-c.invariant c.requires.last.1,
)

pub loop-c-preserved : goal.loop-c-preserved
loop-c-preserved c =
    beside_row (remainder_of c.args.self.now) c.args.t c.loop-c.c c.requires.last.0 (remainder_of c.loop-c.self)
    c.loop-c.invariant c.requires.last.1 (remainder_of c.add_set.new.self) c.if-c-t.false
    c.in_ok-add_set.ensures.added c.in_ok-add_set.ensures.output
    (sym (c.corrects_last.ensures c.in_ok-add_set.ensures.added c.in_ok-add_set.ensures.output)
    ∙ c.if-not-corrects_last.false) c.in_ok-add_set.ensures
