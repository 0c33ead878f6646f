-- The three one after the other.
use Rattle.std.proofs.Common.{◌∙◌, sym, ap, subst, IsOk}
use Rattle.std.proofs.lemmas.Bool.{false≢true}
use Rattle.zx_bits.specs.Sets.{IsBelow}
use Rattle.gflow_laws.specs.Flow.{order_of, set_of}
use Rattle.open_graph.specs.Rooms.{Room}
use Rattle.zx_flow.proofs.Below.{complement_below}
use Rattle.zx_calculus.proofs.Edges.{joined_comm}
use Rattle.gflow_laws.specs.Seen.{seen, complemented}
use Rattle.zx_calculus.proofs.Positions.{on_ok}
use Rattle.flow_rewrites.proofs.StageLemmas.{three_complements}
use Rattle.flow_rewrites.proofs.sets.pivot_sets.Goals as goal

pub complement_sets-requires-2-clause-beside : goal.complement_sets-requires-2-clause-beside
complement_sets-requires-2-clause-beside c =
    (c.requires.u_live, joined_comm c.args.g.now.graph.edges c.args.v c.args.u ∙ c.requires.adjacent)

pub returns-clause-sets : goal.returns-clause-sets
returns-clause-sets c =
    on_ok c.complement_sets-3.result
    (three_complements (seen c.args.g.now.graph) c.args.u c.args.v c.args.f.now.flow c.complement_sets.new.f.flow
    c.complement_sets-2.new.f.flow c.complement_sets-3.new.f.flow c.in_ok-complement_sets.ensures.table
    c.in_ok-complement_sets-2.ensures.table)
    c.complement_sets-3.ensures.table

pub returns-in_err-complement_sets-clause-has_room : goal.returns-in_err-complement_sets-clause-has_room
returns-in_err-complement_sets-clause-has_room c order below =
    absurd (false≢true (subst IsOk c.in_err-complement_sets.was (c.complement_sets.ensures.has_room order (below c.args.u))))

pub returns-in_err-complement_sets-2-clause-has_room : goal.returns-in_err-complement_sets-2-clause-has_room
returns-in_err-complement_sets-2-clause-has_room c order below =
    let reach = c.args.f.now.room.reach in
    let f1 = c.complement_sets.new.f in
    let same = sym (ap (λ (r : Room). r.reach) c.complement_sets.ensures.room) in
    let below1 = complement_below (seen c.args.g.now.graph) c.args.u c.args.f.now.flow reach (order c.args.u c.requires.u_there) below
    f1.flow c.in_ok-complement_sets.ensures.table in
    absurd (false≢true (subst IsOk c.in_err-complement_sets-2.was
    (c.complement_sets-2.ensures.has_room
    (subst (λ r. IsBelow r (order_of f1.flow)) same (subst (IsBelow reach) (sym c.in_ok-complement_sets.ensures.order) order))
    (subst (λ r. IsBelow r (set_of f1.flow c.args.v)) same (below1 c.args.v)))))

pub returns-clause-has_room : goal.returns-clause-has_room
returns-clause-has_room c order below =
    let s = seen c.args.g.now.graph in
    let reach = c.args.f.now.room.reach in
    let f1 = c.complement_sets.new.f in
    let f2 = c.complement_sets-2.new.f in
    let same = sym (ap (λ (r : Room). r.reach) (c.complement_sets-2.ensures.room ∙ c.complement_sets.ensures.room)) in
    let below1 = complement_below s c.args.u c.args.f.now.flow reach (order c.args.u c.requires.u_there) below
    f1.flow c.in_ok-complement_sets.ensures.table in
    let below2 = complement_below (complemented s c.args.u) c.args.v f1.flow reach (order c.args.v c.requires.v_there) below1
    f2.flow c.in_ok-complement_sets-2.ensures.table in
    c.complement_sets-3.ensures.has_room
    (subst (λ r. IsBelow r (order_of f2.flow)) same
    (subst (IsBelow reach) (sym (c.in_ok-complement_sets-2.ensures.order ∙ c.in_ok-complement_sets.ensures.order)) order))
    (subst (λ r. IsBelow r (set_of f2.flow c.args.u)) same (below2 c.args.u))
