-- Both rows of each pair are toggled, so the rows are symmetric again.
use Rattle.open_graph.proofs.Seeing.{live_there, kept_on, kept_after, among_seen}
use Rattle.open_graph.proofs.open_graph.OpenGraph.toggle_among.Goals as goal

pub toggle_among-requires : goal.toggle_among-requires
toggle_among-requires c p there = live_there c.self.invariant c.self.view_is p (c.requires p there)

pub invariant_of-self-in_default : goal.invariant_of-self-in_default
invariant_of-self-in_default c =
    kept_on c.self.invariant ((among_seen c.self.invariant c.self.view_is c.toggle_among.new.slots.slots c.args.vertices.now.ids c.in_default.ensures.toggled).0) c.toggle_among.ensures.room c.self.invariant.scratch

pub returns-clause-ok : goal.returns-clause-ok
returns-clause-ok c = (among_seen c.self.invariant c.self.view_is c.toggle_among.new.slots.slots c.args.vertices.now.ids c.in_default.ensures.toggled).1

pub returns-clause-valid : goal.returns-clause-valid
returns-clause-valid c = (invariant_of-self-in_default c).sound.well_formed

pub invariant_of-self : goal.invariant_of-self
invariant_of-self c =
    kept_after c.self.invariant c.clear.ensures.sound c.toggle_among.new.slots.slots c.clear.new.kept.items c.toggle_among.ensures.room c.clear.ensures.room c.self.invariant.scratch

pub returns-in-Err-clause-valid : goal.returns-in-Err-clause-valid
returns-in-Err-clause-valid c = (invariant_of-self c).sound.well_formed
