-- What stops the gate on its way to the front decides what it ends.
use Rattle.std.proofs.Common.{◌≡◌, sym, ap, ◌∙◌, subst, ℕ, List}
use Rattle.zx_gates.specs.declared.gate.Gate.{Gate}
use Rattle.zx_peephole.specs.Internal.Marks.{meets_none}
use Rattle.zx_peephole.specs.Internal.Stops.{IsStop, IsFreeBetween}
use Rattle.zx_peephole.proofs.FindingLemmas.{if_none}
use Rattle.zx_peephole.proofs.SearchLemmas.{unmet, nothing_stops, stops_as_pair, stops_straight, nothing_before}
use Rattle.zx_peephole.proofs.SearchLemmas.{stops_as_triple, other_before}
use Rattle.zx_peephole.proofs.finding.find.Goals as goal

-- the last stop before one of two equal places
stop_before : {gates : List Gate} {gate : Gate} {n m i : ℕ} → n ≡ m → IsStop gates gate n i → IsStop gates gate m i
stop_before {gates} {gate} {n} {m} {i} is = subst (λ (k : ℕ). IsStop gates gate k i) is

pub returns-then-meets_none-clause-none : goal.returns-then-meets_none-clause-none
returns-then-meets_none-clause-none c =
    unmet c.args.work.now c.requires c.index-gate.result.now c.index-gate.ensures
    (ap (λ (l : List (List ℕ)). meets_none l c.index-gate.result.now) (sym c.deref.ensures.value)
    ∙ sym c.meets_none.ensures ∙ c.if-meets_none.true)

pub returns-in_err-stop-clause-none : goal.returns-in_err-stop-clause-none
returns-in_err-stop-clause-none c =
    if_none c.from_residual.result _
    (nothing_stops c.args.work.now c.requires c.index-gate.result.now c.index-gate.ensures
    (subst (λ (n : ℕ). IsFreeBetween c.args.work.now.gates.items c.index-gate.result.now 0 n) c.start.ensures.place
    c.in_err-stop.ensures.none))

pub returns-then-cancels_or_merges-clause-found : goal.returns-then-cancels_or_merges-clause-found
returns-then-cancels_or_merges-clause-found c =
    stops_as_pair c.args.work.now c.requires c.index-gate.result.now c.index-gate.ensures c.in_ok-stop.stop
    (stop_before c.start.ensures.place c.in_ok-stop.ensures.found) c.index-earlier.result.now c.index-earlier.ensures
    (sym c.cancels_or_merges.ensures ∙ c.if-cancels_or_merges.true)

pub returns-then-not-turns-clause-none : goal.returns-then-not-turns-clause-none
returns-then-not-turns-clause-none c =
    stops_straight c.args.work.now c.requires c.index-gate.result.now c.index-gate.ensures c.in_ok-stop.stop
    (stop_before c.start.ensures.place c.in_ok-stop.ensures.found) c.index-earlier.result.now c.index-earlier.ensures
    (sym c.cancels_or_merges.ensures ∙ c.if-cancels_or_merges.false) (sym c.turns.ensures ∙ c.if-not-turns.true)

pub returns-in_err-first-clause-none : goal.returns-in_err-first-clause-none
returns-in_err-first-clause-none c =
    if_none c.from_residual-in_err-first.result _
    (nothing_before c.args.work.now c.requires c.index-gate.result.now c.index-gate.ensures c.in_ok-stop.stop
    (stop_before c.start.ensures.place c.in_ok-stop.ensures.found) c.index-earlier.result.now c.index-earlier.ensures
    (sym c.cancels_or_merges.ensures ∙ c.if-cancels_or_merges.false)
    (subst (λ (n : ℕ). IsFreeBetween c.args.work.now.gates.items c.index-gate.result.now 0 n) c.before-2.ensures.place
    c.in_err-first.ensures.none))

pub returns-then-cancels_or_merges-2-clause-found : goal.returns-then-cancels_or_merges-2-clause-found
returns-then-cancels_or_merges-2-clause-found c =
    stops_as_triple c.args.work.now c.requires c.index-gate.result.now c.index-gate.ensures c.in_ok-stop.stop
    (stop_before c.start.ensures.place c.in_ok-stop.ensures.found) c.index-earlier.result.now c.index-earlier.ensures c.in_ok-first.first
    (stop_before c.before-2.ensures.place c.in_ok-first.ensures.found) c.index.result.now c.index.ensures
    (sym c.turns.ensures ∙ c.if-not-turns.false) (sym c.cancels_or_merges-2.ensures ∙ c.if-cancels_or_merges-2.true)

pub returns-else-cancels_or_merges-2-clause-none : goal.returns-else-cancels_or_merges-2-clause-none
returns-else-cancels_or_merges-2-clause-none c =
    other_before c.args.work.now c.requires c.index-gate.result.now c.index-gate.ensures c.in_ok-stop.stop
    (stop_before c.start.ensures.place c.in_ok-stop.ensures.found) c.index-earlier.result.now c.index-earlier.ensures c.in_ok-first.first
    (stop_before c.before-2.ensures.place c.in_ok-first.ensures.found) c.index.result.now c.index.ensures
    (sym c.cancels_or_merges.ensures ∙ c.if-cancels_or_merges.false) (sym c.cancels_or_merges-2.ensures ∙ c.if-cancels_or_merges-2.false)
