use Rattle.open_graph.proofs.Seeing.{live_there, kept_on, toggle_seen}
use Rattle.open_graph.proofs.open_graph.OpenGraph.toggle_edge.Goals as goal

pub toggle-requires-clause-u_live : goal.toggle-requires-clause-u_live
toggle-requires-clause-u_live c = live_there c.self.invariant c.self.view_is c.args.u c.requires.u_live

pub toggle-requires-clause-v_live : goal.toggle-requires-clause-v_live
toggle-requires-clause-v_live c = live_there c.self.invariant c.self.view_is c.args.v c.requires.v_live

pub invariant_of-self : goal.invariant_of-self
invariant_of-self c =
    kept_on c.self.invariant
    (toggle_seen c.self.invariant c.self.view_is c.toggle.new.slots.slots c.toggle.result c.args.u c.args.v
    c.requires.u_live c.requires.v_live c.requires.different c.toggle.ensures.ok c.toggle.ensures.err).sound c.toggle.ensures.room c.self.invariant.scratch

pub returns-clause-ok : goal.returns-clause-ok
returns-clause-ok c =
    (toggle_seen c.self.invariant c.self.view_is c.toggle.new.slots.slots c.toggle.result c.args.u c.args.v
    c.requires.u_live c.requires.v_live c.requires.different c.toggle.ensures.ok c.toggle.ensures.err).ok

pub returns-clause-err : goal.returns-clause-err
returns-clause-err c =
    (toggle_seen c.self.invariant c.self.view_is c.toggle.new.slots.slots c.toggle.result c.args.u c.args.v
    c.requires.u_live c.requires.v_live c.requires.different c.toggle.ensures.ok c.toggle.ensures.err).err

pub returns-clause-valid : goal.returns-clause-valid
returns-clause-valid c = (invariant_of-self c).sound.well_formed
