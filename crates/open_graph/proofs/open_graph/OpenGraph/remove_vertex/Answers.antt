use Rattle.open_graph.proofs.Seeing.{live_there, removed_seen}
use Rattle.open_graph.proofs.open_graph.OpenGraph.remove_vertex.Goals as goal

pub remove-requires-clause-live : goal.remove-requires-clause-live
remove-requires-clause-live c = live_there c.self.invariant c.self.view_is c.args.v c.requires.live

pub invariant_of-self : goal.invariant_of-self
invariant_of-self c =
    record {
      sound = (removed_seen c.self.invariant c.self.view_is c.remove.new.slots.slots c.args.v c.requires.interior c.remove.ensures.removed).0;
      room = c.remove.ensures.room c.self.inside.reach c.self.invariant.room;
      scratch = c.self.invariant.scratch;
    }

pub returns-clause-ok : goal.returns-clause-ok
returns-clause-ok c = (removed_seen c.self.invariant c.self.view_is c.remove.new.slots.slots c.args.v c.requires.interior c.remove.ensures.removed).1

pub returns-clause-valid : goal.returns-clause-valid
returns-clause-valid c = (invariant_of-self c).sound.well_formed
