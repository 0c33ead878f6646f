-- The step that the new weight is.
use Rattle.zx_extract.proofs.Calls.{output_live, phase_taken, weight_plane}
use Rattle.zx_extract.proofs.frontier.Frontier.take_phase.Goals as goal
use Rattle.std.proofs.lemmas.Result.{on_ok_weaker}

pub weight-plane-requires : goal.weight-plane-requires
weight-plane-requires c = output_live c.args.q c.requires.ready c.present-here.ensures

pub set_weight-requires-clause-live : goal.set_weight-requires-clause-live
set_weight-requires-clause-live c = output_live c.args.q c.requires.ready c.present-here.ensures

pub set_weight-requires-clause-plane : goal.set_weight-requires-clause-plane
set_weight-requires-clause-plane c = λ _. weight_plane c.args.q c.requires.ready c.present-here.ensures c.weight-plane.ensures.value

pub returns : goal.returns
returns c = on_ok_weaker c.write_phase.result (phase_taken c.args.q c.requires.ready c.present-here.ensures
    c.weight-plane.ensures.value c.new.ensures c.set_weight.ensures.ok) c.write_phase.ensures
