-- One more row.
use Rattle.std.proofs.Common.{◌∙◌, sym}
use Rattle.std.proofs.lemmas.Option.{slice_get_within}
use Rattle.zx_calculus.specs.Graph.{plain}
use Rattle.circuit_laws.proofs.Places.{member-places}
use Rattle.zx_extract.specs.Internal.Frontiers.{remainder_of}
use Rattle.zx_extract.proofs.LastVertex.{last_live, last_no_output}
use Rattle.zx_extract.proofs.SharedLegs.{shared_nothing, shared_last, shared_row, shared_skip, shared_itself}
use Rattle.zx_extract.proofs.frontier.Frontier.share_leg.Goals as goal

pub loop-q-init : goal.loop-q-init
loop-q-init c = shared_nothing (remainder_of c.args.self.now) c.args.v c.args.z
    c.requires.ready c.requires.frontier c.requires.free c.requires.spare

pub add_row-requires-clause-c_on_wires : goal.add_row-requires-clause-c_on_wires
add_row-requires-clause-c_on_wires c = slice_get_within c.loop-q.self.graph.graph.outputs c.args.z
    (plain c.loop-q.invariant.spare.leg) c.loop-q.invariant.spare.output

pub loop-q-preserved-then-q-z : goal.loop-q-preserved-then-q-z
loop-q-preserved-then-q-z c = shared_itself c.loop-q.invariant c.if-q-z.true

pub loop-q-preserved-then-not-has : goal.loop-q-preserved-then-not-has
loop-q-preserved-then-not-has c =
    let last = shared_last (remainder_of c.args.self.now) c.args.v c.args.z c.loop-q.q (remainder_of c.loop-q.self)
    c.loop-q.invariant c.requires.last in
    let rows = c.loop-q.invariant.taken.rows in
    shared_skip c.loop-q.invariant c.present.result c.present.ensures
    (sym (c.has.ensures (member-places c.loop-q.self.graph.graph.outputs c.loop-q.q (plain c.present.result) c.present.ensures)
    (last_live rows.ready rows.frontier last) (last_no_output rows.ready rows.frontier last)) ∙ c.if-not-has.true)

pub loop-q-preserved : goal.loop-q-preserved
loop-q-preserved c =
    let last = shared_last (remainder_of c.args.self.now) c.args.v c.args.z c.loop-q.q (remainder_of c.loop-q.self)
    c.loop-q.invariant c.requires.last in
    let rows = c.loop-q.invariant.taken.rows in
    shared_row (remainder_of c.args.self.now) c.args.v c.args.z c.loop-q.q (remainder_of c.loop-q.self)
    c.loop-q.invariant c.requires.last c.present.result (remainder_of c.add_row.new.self) c.present.ensures
    (sym (c.has.ensures (member-places c.loop-q.self.graph.graph.outputs c.loop-q.q (plain c.present.result) c.present.ensures)
    (last_live rows.ready rows.frontier last) (last_no_output rows.ready rows.frontier last)) ∙ c.if-not-has.false)
    c.in_ok-add_row.ensures
