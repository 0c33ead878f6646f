-- What is wrong with one of two texts is wrong with both.
use Rattle.std.proofs.Common.{◌+◌, IfErr, inl, inr, refl, sym, subst, take, drop, length}
use Rattle.std.proofs.lemmas.Result.{err_from_is_err_and}
use Rattle.zx_run.specs.declared.status.Status.{Status}
use Rattle.zx_run.specs.TwoTexts.{IsFirstFaultOfTwo, parting_line}
use Rattle.zx_run.specs.Internal.Refusals.{IsRefusalFor}
use Rattle.zx_run.proofs.TwoTextsLemmas.{first_refused, second_refused_at}
use Rattle.zx_run.proofs.two_reader.two_circuits.Goals as goal

pub returns-in_default-clause-refusal : goal.returns-in_default-clause-refusal
returns-in_default-clause-refusal c = inr (c.requires, inl (c.line_between.ensures.none c.in_default.is, refl))

pub returns-in_err-first-clause-refusal : goal.returns-in_err-first-clause-refusal
returns-in_err-first-clause-refusal c =
    let text = c.args.text.now in
    let at = c.in-Some.at in
    let why : Status → Type 0 = IsRefusalFor (IsFirstFaultOfTwo text) in
    let p = err_from_is_err_and c.from_residual.result c.from_residual.ensures.1 in
    subst (λ r. IfErr r why) (sym p.1)
    (subst why (sym p.2)
    (first_refused text (take at text) (drop (at + length parting_line) text) c.requires c.in-Some.ensures.parted _
    c.in_err-first.ensures.refusal))

pub returns-in_err-second-clause-refusal : goal.returns-in_err-second-clause-refusal
returns-in_err-second-clause-refusal c =
    let text = c.args.text.now in
    let at = c.in-Some.at in
    let why : Status → Type 0 = IsRefusalFor (IsFirstFaultOfTwo text) in
    let p = err_from_is_err_and c.from_residual-in_err-second.result c.from_residual-in_err-second.ensures.1 in
    subst (λ r. IfErr r why) (sym p.1)
    (subst why (sym p.2)
    (second_refused_at text at c.in-Some.ensures.within c.requires c.in-Some.ensures.parted
    c.in_ok-first.first c.in_ok-first.ensures.accepted _ c.in_err-second.ensures.refusal))
