-- The phase, and then the edges.
use Rattle.zx_extract.specs.Internal.Frontiers.{remainder_of}
use Rattle.zx_extract.proofs.Calls.{on_both}
use Rattle.zx_extract.proofs.Settled.{phase_settles}
use Rattle.zx_extract.proofs.SettledOutputs.{settling_is}
use Rattle.zx_extract.proofs.frontier.Frontier.settle.Goals as goal

pub take_edges-requires-clause-ready : goal.take_edges-requires-clause-ready
take_edges-requires-clause-ready c = (phase_settles (remainder_of c.args.self.now)
    c.args.q _ c.requires.ready c.in_ok-take_phase.ensures).ready

pub returns : goal.returns
returns c =
    on_both c.take_edges.result (λ settles apart. settling_is
    (remainder_of c.args.self.now) c.args.q c.args.end _ _ c.requires.ready c.in_ok-take_phase.ensures settles apart)
    c.take_edges.ensures.settles c.take_edges.ensures.apart
