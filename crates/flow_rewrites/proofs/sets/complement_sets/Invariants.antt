-- The sets so far are changed, but that of u.
use Rattle.std.proofs.Common.{◌≡◌, take}
use Rattle.gflow_laws.specs.Seen.{seen}
use Rattle.gflow_laws.specs.Flow.{order_of, set_of}
use Rattle.gflow_laws.specs.Internal.Changes.{AreChanged}
use Rattle.zx_flow.specs.Internal.Beside.{beside_change}
use Rattle.flow_rewrites.specs.Internal.Stages.{view}
use Rattle.flow_rewrites.proofs.sets.complement_sets.Given as goal

abbrev pub invariant-loop-i : goal.invariant-loop-i
invariant-loop-i l =
    let s = view l.stage (seen l.g.graph) l.u in
    let t = l.initial.f.flow in
    record {
      sets : AreChanged (beside_change s l.u (set_of t l.u)) (take l.i (order_of t)) t l.f.flow;
      room : l.f.room ≡ l.initial.f.room;
    }
