use Rattle.std.proofs.Common.{ap, rules}
use Rattle.zx_calculus.specs.Turns.{in_plane}
use Rattle.open_graph.specs.Planes.{plane_named}
use Rattle.open_graph.proofs.Seeing.{live_there, kept_on, weight_seen}
use Rattle.open_graph.proofs.open_graph.OpenGraph.set_weight.Goals as goal

pub set_kind-requires : goal.set_kind-requires
set_kind-requires c = live_there c.self.invariant c.self.view_is c.args.v c.requires.live

pub invariant_of-self : goal.invariant_of-self
invariant_of-self c =
    kept_on c.self.invariant
    (weight_seen c.self.invariant c.self.view_is c.set_kind.new.slots.slots c.args.v (in_plane (plane_named c.args.plane) c.args.phase)
    (search rules) c.requires.plane c.set_kind.ensures.puts).sound (c.set_kind.ensures.room c.self.inside.reach) c.self.invariant.scratch

pub returns-clause-ok : goal.returns-clause-ok
returns-clause-ok c =
    (weight_seen c.self.invariant c.self.view_is c.set_kind.new.slots.slots c.args.v (in_plane (plane_named c.args.plane) c.args.phase)
    (search rules) c.requires.plane c.set_kind.ensures.puts).graph

pub returns-clause-valid : goal.returns-clause-valid
returns-clause-valid c = (invariant_of-self c).sound.well_formed

pub returns-clause-room : goal.returns-clause-room
returns-clause-room c = rw (c.set_kind.ensures.room 0).spare (ap (λ g. g.room) c.self.view_is)
