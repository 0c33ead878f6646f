-- A step that is done, or nothing.
use Rattle.std.proofs.Common.{◌≡◌, sym, ◌∙◌, ap, subst, true, arith}
use Rattle.zx_calculus.specs.Steps.{allowed}
use Rattle.graph_rewrites.specs.Steps.{step_named}
use Rattle.zx_reduce.specs.Internal.Progress.{Progress}
use Rattle.zx_reduce.proofs.Doing.{tries_none, tries_step}
use Rattle.zx_reduce.proofs.progress.Progress.try_step.Goals as goal
use Rattle.zx_reduce.proofs.progress.Progress.try_step.Goals.{then-self, else-self}

pub returns : goal.returns
returns c =
    let same = ap (λ (p : Progress). p.steps) c.self.view_is in
    let few = c.if-self-ge-MOST_TRIED.false in
    tries_step c.args.self.now c.args.step.now c.do_step.new.self (omega (arith, same, few)) c.in_ok-do_step.ensures

pub returns-then-not-is_allowed : goal.returns-then-not-is_allowed
returns-then-not-is_allowed c = tries_none c.args.self.now

pub returns-then-self-ge-MOST_TRIED : goal.returns-then-self-ge-MOST_TRIED
returns-then-self-ge-MOST_TRIED c = tries_none c.args.self.now

pub do_step-requires-clause-allowed : goal.do_step-requires-clause-allowed
do_step-requires-clause-allowed c =
    subst (λ g. allowed g (step_named c.args.step.now) ≡ true) c.graph.ensures (sym c.is_allowed.ensures.value ∙ c.if-not-is_allowed.false)

pub do_step-requires-clause-whole : goal.do_step-requires-clause-whole
do_step-requires-clause-whole c takes =
    let out = c.if-is_split.false in
    elim c.if-self.branch [
      | then-self w ↦ let is = w.value-is in let split = w.is_split.ensures in cc
      | else-self w ↦ let not = w.if-self.false in let same = ap (λ (p : Progress). p.takes_gates) c.self.view_is in let t = takes in cc
    ]

pub do_step-requires-clause-few : goal.do_step-requires-clause-few
do_step-requires-clause-few c =
    let same = ap (λ (p : Progress). p.steps) c.self.view_is in
    let few = c.if-self-ge-MOST_TRIED.false in
    omega (arith, same, few)
