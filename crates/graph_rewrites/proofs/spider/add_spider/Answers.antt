-- The new vertex and its edge.
use Rattle.std.proofs.Common.{◌<◌, ◌∙◌, sym, ap, subst, IsOk}
use Rattle.std.proofs.lemmas.Bool.{false≢true}
use Rattle.open_graph.specs.Rooms.{Room}
use Rattle.graph_rewrites.proofs.Spiders.{b_still_live, new_there, b_apart, spider_added}
use Rattle.graph_rewrites.proofs.spider.add_spider.Goals as goal

pub toggle_edge-requires-clause-u_live : goal.toggle_edge-requires-clause-u_live
toggle_edge-requires-clause-u_live c =
    b_still_live c.args.g.now.graph c.args.b c.in_ok-new.new c.new.result c.add_vertex.new.self.graph c.requires.live c.in_ok-new.ensures.fresh c.new.ensures c.in_ok-new.ensures.ok

pub toggle_edge-requires-clause-v_live : goal.toggle_edge-requires-clause-v_live
toggle_edge-requires-clause-v_live c =
    new_there c.args.g.now.graph c.args.b c.in_ok-new.new c.new.result c.add_vertex.new.self.graph c.requires.live c.in_ok-new.ensures.fresh c.new.ensures c.in_ok-new.ensures.ok

pub toggle_edge-requires-clause-different : goal.toggle_edge-requires-clause-different
toggle_edge-requires-clause-different c =
    b_apart c.args.g.now.graph c.args.b c.in_ok-new.new c.new.result c.add_vertex.new.self.graph c.requires.live c.in_ok-new.ensures.fresh c.new.ensures c.in_ok-new.ensures.ok

pub returns-clause-added : goal.returns-clause-added
returns-clause-added c =
    spider_added c.args.g.now.graph c.args.b c.in_ok-new.new c.new.result c.add_vertex.new.self.graph c.requires.live c.in_ok-new.ensures.fresh c.new.ensures c.in_ok-new.ensures.ok c.requires.valid
    c.toggle_edge.new.self.graph c.in_ok-toggle_edge.ensures.ok

pub returns-in_err-toggle_edge-clause-has_room : goal.returns-in_err-toggle_edge-clause-has_room
returns-in_err-toggle_edge-clause-has_room c spare b_below new_below =
    let same = sym (ap (λ (r : Room). r.reach) c.in_ok-new.ensures.room) in
    absurd (false≢true (subst IsOk c.in_err-toggle_edge.was
    (c.toggle_edge.ensures.has_room (subst (λ r. c.args.b < r) same b_below)
    (subst (λ r. c.in_ok-new.new < r) same (subst (λ n. n < c.args.g.now.room.reach) (sym c.in_ok-new.ensures.least) new_below)))))

pub returns-clause-room : goal.returns-clause-room
returns-clause-room c = c.toggle_edge.ensures.room ∙ c.in_ok-new.ensures.room
