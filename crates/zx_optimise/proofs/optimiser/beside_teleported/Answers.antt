-- Both circuits may be taken.
use Rattle.zx_optimise.proofs.CandidateLemmas.{candidate-whole, costs_no_more-trans, taken_cheap, taken-trans, than_teleported}
use Rattle.zx_optimise.proofs.optimiser.beside_teleported.Goals as goal

pub cheaper-requires-clause-candidate : goal.cheaper-requires-clause-candidate
cheaper-requires-clause-candidate c = candidate-whole c.args.read.now c.in_ok-teleported.teleported c.in_ok-teleported.ensures.candidate

pub cheaper-best-requires-clause-candidate : goal.cheaper-best-requires-clause-candidate
cheaper-best-requires-clause-candidate c = c.in_ok-shrunk.ensures c.args.read.now c.in_ok-teleported.ensures.candidate

pub returns-clause-than_teleported : goal.returns-clause-than_teleported
returns-clause-than_teleported c =
    let made = c.beside_fewer.result in
    let between = c.cheaper.result in
    let teleported = c.in_ok-teleported.teleported in
    than_teleported c.args.read.now made.gates teleported.gates c.in_ok-teleported.ensures.cleanup
    (λ within. costs_no_more-trans made.gates between.gates teleported.gates
    (taken_cheap between made (taken-trans between c.cheaper-best.result made c.cheaper-best.ensures.than_best c.beside_fewer.ensures.than_best))
    (c.cheaper.ensures.than_candidate within))

pub beside_fewer-requires-clause-candidate : goal.beside_fewer-requires-clause-candidate
beside_fewer-requires-clause-candidate c = c.in_ok-fewer.ensures c.args.read.now c.in_ok-teleported.ensures.candidate

pub returns-clause-than_best : goal.returns-clause-than_best
returns-clause-than_best c =
    taken-trans c.args.best c.cheaper-best.result c.beside_fewer.result
    (taken-trans c.args.best c.cheaper.result c.cheaper-best.result c.cheaper.ensures.than_best c.cheaper-best.ensures.than_best)
    c.beside_fewer.ensures.than_best
