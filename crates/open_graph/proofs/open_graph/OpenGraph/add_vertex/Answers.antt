use Rattle.std.proofs.Common.{rules}
use Rattle.zx_calculus.specs.Turns.{in_plane}
use Rattle.open_graph.specs.Planes.{plane_named}
use Rattle.open_graph.proofs.Seeing.{add_seen}
use Rattle.open_graph.proofs.open_graph.OpenGraph.add_vertex.Goals as goal

pub add-requires : goal.add-requires
add-requires c = c.self.invariant.room.empty

pub invariant_of-self : goal.invariant_of-self
invariant_of-self c =
    let made = add_seen c.self.invariant c.self.view_is c.add.new.slots.slots c.add.result (in_plane (plane_named c.args.plane) c.args.phase) (search rules)
    c.add.ensures.vacant c.add.ensures.least c.add.ensures.ok c.add.ensures.err in
    record { sound = made.sound; room = c.add.ensures.room c.self.inside.reach c.self.invariant.room; scratch = c.self.invariant.scratch }

pub returns : goal.returns
returns c =
    let made = add_seen c.self.invariant c.self.view_is c.add.new.slots.slots c.add.result (in_plane (plane_named c.args.plane) c.args.phase) (search rules)
    c.add.ensures.vacant c.add.ensures.least c.add.ensures.ok c.add.ensures.err in
    record {
      fresh = made.fresh;
      least = made.least;
      ok = made.ok;
      err = made.err;
      has_room = search rules;
      room = search rules;
      same_room = search rules;
      valid = made.sound.well_formed;
    }
