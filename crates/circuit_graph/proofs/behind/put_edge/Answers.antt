-- The edge between the last spiders is toggled.
use Rattle.std.proofs.lemmas.Result.{on_ok_weaker}
use Rattle.circuit_graph.proofs.Calls.{here_live, wires_apart, toggle_peel}
use Rattle.circuit_graph.proofs.behind.put_edge.Goals as goal

pub toggle_edge-requires-clause-u_live : goal.toggle_edge-requires-clause-u_live
toggle_edge-requires-clause-u_live c = here_live c.args.g.now.graph c.args.p c.last_spider-first.result c.last_spider-first.ensures.valid c.last_spider-first.ensures.value

pub toggle_edge-requires-clause-v_live : goal.toggle_edge-requires-clause-v_live
toggle_edge-requires-clause-v_live c = here_live c.args.g.now.graph c.args.q c.last_spider-second.result c.last_spider-first.ensures.valid c.last_spider-second.ensures.value

pub toggle_edge-requires-clause-different : goal.toggle_edge-requires-clause-different
toggle_edge-requires-clause-different c =
    wires_apart c.args.g.now.graph c.args.p c.args.q c.last_spider-first.result c.last_spider-second.result c.last_spider-first.ensures.valid c.last_spider-first.ensures.value c.last_spider-second.ensures.value c.requires.apart

pub returns-clause-put : goal.returns-clause-put
returns-clause-put c =
    on_ok_weaker c.toggle_edge.result
    (toggle_peel c.args.g.now.graph c.args.p c.args.q c.last_spider-first.result c.last_spider-second.result _ c.last_spider-first.ensures.valid c.last_spider-first.ensures.value c.last_spider-second.ensures.value c.requires.apart)
    c.toggle_edge.ensures.ok
