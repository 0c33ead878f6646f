-- The condition of the plane decides.
use Rattle.std.proofs.Common.{◌∙◌, sym, ap}
use Rattle.zx_calculus.specs.Graph.{XY, XZ, YZ}
use Rattle.open_graph.specs.Planes.{plane_named}
use Rattle.flow_check.proofs.ConditionLemmas.{plane_passes, plane_fails}
use Rattle.flow_check.proofs.conditions.plane_failing.Goals as goal

pub returns-then-holds_in : goal.returns-then-holds_in
returns-then-holds_in c = plane_passes (plane_named c.args.plane) c.args.inside c.args.odd (sym c.holds_in.ensures ∙ c.if-holds_in.true)

pub returns-in-XY : goal.returns-in-XY
returns-in-XY c = plane_fails (plane_named c.args.plane) XY c.args.inside c.args.odd (ap plane_named c.in-XY.is) (sym c.holds_in.ensures ∙ c.if-holds_in.false)

pub returns-in-XZ : goal.returns-in-XZ
returns-in-XZ c = plane_fails (plane_named c.args.plane) XZ c.args.inside c.args.odd (ap plane_named c.in-XZ.is) (sym c.holds_in.ensures ∙ c.if-holds_in.false)

pub returns-in-YZ : goal.returns-in-YZ
returns-in-YZ c = plane_fails (plane_named c.args.plane) YZ c.args.inside c.args.odd (ap plane_named c.in-YZ.is) (sym c.holds_in.ensures ∙ c.if-holds_in.false)
