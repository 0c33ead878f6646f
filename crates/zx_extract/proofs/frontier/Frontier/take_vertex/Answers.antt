-- A gadget on outputs.
use Rattle.zx_calculus.specs.Graph as zx
use Rattle.zx_extract.proofs.LastVertex.{only_YZ}
use Rattle.zx_extract.proofs.Taking.{none_free, legs_last, legs_none, legs_plane, gadget_taken}
use Rattle.zx_extract.proofs.frontier.Frontier.take_vertex.Goals as goal

pub take_legs-requires-clause-free : goal.take_legs-requires-clause-free
take_legs-requires-clause-free c = none_free c.args.v c.requires.ready c.in-None.ensures.none

pub take_gadget-requires-clause-last : goal.take_gadget-requires-clause-last
take_gadget-requires-clause-last c = legs_last c.requires.last c.in_ok-take_legs-in-None.ensures.taken

pub take_gadget-requires-clause-plane : goal.take_gadget-requires-clause-plane
take_gadget-requires-clause-plane c = legs_plane c.requires.last c.in_ok-take_legs-in-None.ensures.taken zx.YZ
    (only_YZ c.requires.ready c.requires.frontier c.requires.last c.in-None.ensures.none)

pub take_gadget-requires-clause-alone : goal.take_gadget-requires-clause-alone
take_gadget-requires-clause-alone c =
    legs_none c.requires.last c.in_ok-take_legs-in-None.ensures.taken c.in-None.ensures.none

pub returns-in_ok-take_gadget-in-None : goal.returns-in_ok-take_gadget-in-None
returns-in_ok-take_gadget-in-None c =
    let both = gadget_taken c.in_ok-take_legs-in-None.ensures.taken c.in_ok-take_gadget-in-None.ensures in
    record { taken = both.0; shorter = both.1 }
