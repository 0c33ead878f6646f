use Rattle.std.proofs.Common.{◌<◌, sym, ◌∙◌, length, arith}
use Rattle.std.proofs.lemmas.List.{get_or_default}
use Rattle.graph_like.specs.Classes.{named_by}
use Rattle.graph_like.specs.Internal.Fusing.{near_at}
use Rattle.graph_like.proofs.FusingLemmas.{stage_kept, stage_taken, within-taken}
use Rattle.graph_like.proofs.classes.Contraction.visit.Goals.{else-v-u-via-then-v-u+else-index-v, else-v-u-via-else-v-u}
use Rattle.graph_like.proofs.classes.Contraction.visit.Goals as goal

pub returns-then-index-v-clause-within : goal.returns-then-index-v-clause-within
returns-then-index-v-clause-within c =
    within-taken c.args.self.now.near.items c.take_in.new.self.near.items (named_by c.args.self.now.least.items) (named_by c.take_in.new.self.least.items)
    c.args.u c.args.v (length c.args.self.now.near.items) c.in_ok-take_in.ensures.taken c.requires.within

pub returns-then-index-v-clause-stage : goal.returns-then-index-v-clause-stage
returns-then-index-v-clause-stage c = λ d i low at s.
    let there : c.args.v < length c.args.self.now.least.items = omega arith in
    stage_taken d (named_by c.args.self.now.least.items) (named_by c.take_in.new.self.least.items) (near_at c.args.self.now.near.items) (near_at c.take_in.new.self.near.items)
    c.args.u c.args.v i c.requires.own c.if-v-u.true
    (get_or_default c.args.self.now.least.items c.args.v c.args.v c.index.result.now there ∙ sym c.index.ensures ∙ c.if-index-v.true)
    c.in_ok-take_in.ensures.taken low at s

pub returns-clause-stage : goal.returns-clause-stage
returns-clause-stage c = λ d i low at s.
    let there : c.args.v < length c.args.self.now.least.items = omega arith in
    stage_kept d (named_by c.args.self.now.least.items) (near_at c.args.self.now.near.items) c.args.u c.args.v i c.requires.own
    (elim c.else-v-u.branch [
      | else-v-u-via-then-v-u+else-index-v w ↦
          λ n e. w.if-index-v.false (w.index.ensures ∙ get_or_default c.args.self.now.least.items c.args.v w.index.result.now c.args.v there ∙ e)
      | else-v-u-via-else-v-u w ↦ λ n e. n w.if-v-u.false
    ]) low at s
