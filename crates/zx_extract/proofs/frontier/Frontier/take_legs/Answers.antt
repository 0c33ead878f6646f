-- With a leg that has no input, and with none.
use Rattle.std.proofs.lemmas.Result.{on_ok_weaker}
use Rattle.zx_extract.specs.Internal.Frontiers.{remainder_of}
use Rattle.zx_extract.proofs.LastVertex.{last_live, last_no_output}
use Rattle.zx_extract.proofs.SharedLegs.{takes_nothing, none_one, shared_all}
use Rattle.zx_extract.proofs.frontier.Frontier.take_legs.Goals as goal

pub spare_leg-requires-clause-live : goal.spare_leg-requires-clause-live
spare_leg-requires-clause-live c = last_live c.requires.ready c.requires.frontier c.requires.last

pub spare_leg-requires-clause-inner : goal.spare_leg-requires-clause-inner
spare_leg-requires-clause-inner c = last_no_output c.requires.ready c.requires.frontier c.requires.last

pub returns-in-Some-clause-one : goal.returns-in-Some-clause-one
returns-in-Some-clause-one c = on_ok_weaker c.share_leg.result
    (shared_all (remainder_of c.args.self.now) c.args.v c.in-Some.z (remainder_of c.share_leg.new.self)) c.share_leg.ensures

pub returns-in-None-clause-taken : goal.returns-in-None-clause-taken
returns-in-None-clause-taken c = takes_nothing (remainder_of c.args.self.now) c.args.v
    c.requires.ready c.requires.frontier c.requires.free

pub returns-in-None-clause-one : goal.returns-in-None-clause-one
returns-in-None-clause-one c = none_one (remainder_of c.args.self.now) c.args.v c.in-None.ensures.none
