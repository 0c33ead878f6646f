use Rattle.std.proofs.Common.{ap}
use Rattle.zx_extract.specs.Internal.Holders.{Holders}
use Rattle.zx_extract.proofs.HoldersTables.{Taken, taken_alone}
use Rattle.zx_extract.proofs.holders.Holders.take_alone.Goals as goal
use Rattle.zx_extract.proofs.holders.Holders.take_alone.Goals.{After-clear}

gone : (c : After-clear) → Taken c.clear.new.self.lists c.pop.new.self.items c.args.self.now.flow
gone c = taken_alone c.in-Some.v c.in-Some.ensures.items c.self.invariant (ap (λ (h : Holders). h.flow) c.self.view_is) c.requires
    (c.clear.ensures.own, c.clear.ensures.others)

pub invariant_of-self : goal.invariant_of-self
invariant_of-self c = (gone (goal.at.invariant_of-self c).After-clear).ordered

pub returns-in-Some : goal.returns-in-Some
returns-in-Some c = (gone (goal.at.returns-in-Some c).After-clear).sets
