-- A candidate that is taken has no more odd phases.
use Rattle.std.proofs.Common.{◌≤◌, ◌∙◌, sym, subst, rules}
use Rattle.zx_gates.specs.Circuit.{gate_odd_phases}
use Rattle.zx_optimise.specs.Optimising.{most_optimised_root2}
use Rattle.zx_optimise.proofs.CandidateLemmas.{dearer-odd, offers-candidate}
use Rattle.zx_optimise.proofs.optimiser.cheaper.Goals as goal

pub returns-then-is_dearer-clause-offers : goal.returns-then-is_dearer-clause-offers
returns-then-is_dearer-clause-offers c =
    let count = c.counts-count.result in
    let fewer = dearer-odd c.counts-2.result count (sym c.is_dearer.ensures ∙ c.if-is_dearer.true) in
    offers-candidate most_optimised_root2 c.args.read.now c.args.best c.args.candidate c.requires.best c.requires.candidate (search rules)
    (subst (λ n. n ≤ gate_odd_phases c.args.best.gates.gates) c.counts-count.ensures.odd (subst (λ n. count.odd ≤ n) c.counts-2.ensures.odd fewer))
