-- Both rows of each pair are toggled, so the rows are symmetric again.
use Rattle.open_graph.proofs.Seeing.{live_there, kept_on, kept_after, across_seen}
use Rattle.open_graph.proofs.open_graph.OpenGraph.toggle_across.Goals as goal

pub toggle_across-requires-clause-left_live : goal.toggle_across-requires-clause-left_live
toggle_across-requires-clause-left_live c p there = live_there c.self.invariant c.self.view_is p (c.requires.left_live p there)

pub toggle_across-requires-clause-right_live : goal.toggle_across-requires-clause-right_live
toggle_across-requires-clause-right_live c p there = live_there c.self.invariant c.self.view_is p (c.requires.right_live p there)

pub invariant_of-self-in_default : goal.invariant_of-self-in_default
invariant_of-self-in_default c =
    kept_on c.self.invariant ((across_seen c.self.invariant c.self.view_is c.toggle_across.new.slots.slots c.args.left.now.ids c.args.right.now.ids c.in_default.ensures.toggled).0) c.toggle_across.ensures.room c.self.invariant.scratch

pub returns-clause-ok : goal.returns-clause-ok
returns-clause-ok c = (across_seen c.self.invariant c.self.view_is c.toggle_across.new.slots.slots c.args.left.now.ids c.args.right.now.ids c.in_default.ensures.toggled).1

pub returns-clause-valid : goal.returns-clause-valid
returns-clause-valid c = (invariant_of-self-in_default c).sound.well_formed

pub invariant_of-self : goal.invariant_of-self
invariant_of-self c =
    kept_after c.self.invariant c.clear.ensures.sound c.toggle_across.new.slots.slots c.clear.new.kept.items c.toggle_across.ensures.room c.clear.ensures.room c.self.invariant.scratch

pub returns-in-Err-clause-valid : goal.returns-in-Err-clause-valid
returns-in-Err-clause-valid c = (invariant_of-self c).sound.well_formed
