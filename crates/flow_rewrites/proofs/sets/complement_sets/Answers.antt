-- One more set is changed.
use Rattle.std.proofs.Common.{◌≡◌, ◌∙◌, sym, ap, subst, ◌<◌, true, IsOk, [], ◌∷◌, length, get_or, take, take_all, arith}
use Rattle.std.proofs.lemmas.Bool.{false≢true}
use Rattle.zx_model.specs.Bits.{member}
use Rattle.zx_calculus.proofs.Positions.{on_ok}
use Rattle.gflow_laws.specs.Seen.{seen}
use Rattle.gflow_laws.specs.Flow.{order_of, set_of, odd_in}
use Rattle.gflow_laws.specs.Internal.Changes.{AreChanged}
use Rattle.gflow_laws.proofs.SetChanges.{changed_grows}
use Rattle.open_graph.specs.Rooms.{Room}
use Rattle.zx_flow.specs.Internal.Beside.{beside_change}
use Rattle.zx_flow.proofs.Beside.{own_kept_beside, beside_same, complement_last}
use Rattle.flow_rewrites.specs.Internal.Stages.{view}
use Rattle.flow_rewrites.proofs.StageLemmas.{plane_of_view}
use Rattle.flow_rewrites.proofs.sets.complement_sets.Goals as goal

pub vertex_at-x-requires : goal.vertex_at-x-requires
vertex_at-x-requires c = omega (arith, ap length c.order-i-end.ensures.value, ap length c.loop-i.invariant.sets.order)

pub complement_set-requires-clause-u_there : goal.complement_set-requires-clause-u_there
complement_set-requires-clause-u_there c = ap (member c.args.u) c.loop-i.invariant.sets.order ∙ c.requires.there

pub loop-i-preserved : goal.loop-i-preserved
loop-i-preserved c =
    let t = c.args.f.now.flow in
    let now = c.loop-i.f.flow in
    let own = set_of t c.args.u in
    let s = view c.args.stage.now (seen c.args.g.now.graph) c.args.u in
    let within : c.loop-i.i < length (order_of t) = omega (arith, ap length c.order-i-end.ensures.value) in
    record {
      sets = changed_grows (beside_change s c.args.u own) (order_of t) c.loop-i.i c.vertex_at-x.result t
          now c.complement_set.new.self.flow c.order-i-end.ensures.valid within
          (c.vertex_at-x.ensures.value ∙ ap (λ order. get_or order c.loop-i.i 0) c.loop-i.invariant.sets.order) c.loop-i.invariant.sets
          (beside_same s c.args.u own (set_of now c.args.u) (c.vertex_at-x.result ∷ []) now c.complement_set.new.self.flow
          (own_kept_beside s c.args.u own (take c.loop-i.i (order_of t)) t now c.loop-i.invariant.sets)
          (c.in_ok-complement_set.ensures.sets s (c.changes_plane-changes.ensures.value
          ∙ ap odd_in (sym (plane_of_view c.args.g.now.graph c.args.u c.args.stage.now c.changes_plane-changes.ensures.valid c.requires.live
          c.requires.beside))) c.odd_has-is_odd.ensures));
      room = c.complement_set.ensures.room ∙ c.loop-i.invariant.room;
    }

pub returns-in_err-complement_set-clause-has_room : goal.returns-in_err-complement_set-clause-has_room
returns-in_err-complement_set-clause-has_room c order own =
    let t = c.args.f.now.flow in
    let now = c.loop-i.f.flow in
    let same = sym (ap (λ (r : Room). r.reach) c.loop-i.invariant.room) in
    let listed : member c.vertex_at-x.result (order_of t) ≡ true =
    sym (ap (member c.vertex_at-x.result) c.loop-i.invariant.sets.order) ∙ c.vertex_at-x.ensures.there in
    let fits = c.complement_set.ensures.has_room (subst (λ r. c.vertex_at-x.result < r) same (order c.vertex_at-x.result listed))
    (subst (λ r. c.args.u < r) same (order c.args.u c.requires.there))
    (λ w inside. subst (λ r. w < r) same (own w
    (sym (own_kept_beside (view c.args.stage.now (seen c.args.g.now.graph) c.args.u) c.args.u (set_of t c.args.u) (take c.loop-i.i (order_of t)) t now c.loop-i.invariant.sets w) ∙ inside))) in
    absurd (false≢true (subst IsOk c.in_err-complement_set.was fits))

pub complement_own-requires : goal.complement_own-requires
complement_own-requires c = ap (member c.args.u) c.loop-i.invariant.sets.order ∙ c.requires.there

pub returns-clause-table : goal.returns-clause-table
returns-clause-table c =
    let t = c.args.f.now.flow in
    let s = view c.args.stage.now (seen c.args.g.now.graph) c.args.u in
    let all : take c.loop-i.i (order_of t) ≡ order_of t =
    take_all c.loop-i.i (order_of t) (omega (arith, ap length c.order-i-end.ensures.value)) in
    on_ok c.complement_own.result
    (λ own. complement_last s c.args.u t c.loop-i.f.flow c.complement_own.new.self.flow c.requires.there
    (subst (λ done. AreChanged (beside_change s c.args.u (set_of t c.args.u)) done t c.loop-i.f.flow) all
    c.loop-i.invariant.sets)
    (own s (c.changes_plane-changes.ensures.value
    ∙ ap odd_in (sym (plane_of_view c.args.g.now.graph c.args.u c.args.stage.now c.changes_plane-changes.ensures.valid c.requires.live
    c.requires.beside))) (set_of t c.args.u)))
    c.complement_own.ensures.sets

pub returns-clause-has_room : goal.returns-clause-has_room
returns-clause-has_room c order own =
    c.complement_own.ensures.has_room (subst (λ r. c.args.u < r) (sym (ap (λ (r : Room). r.reach) c.loop-i.invariant.room)) (order c.args.u c.requires.there))

pub returns-clause-room : goal.returns-clause-room
returns-clause-room c = c.complement_own.ensures.room ∙ c.loop-i.invariant.room

pub returns-clause-order : goal.returns-clause-order
returns-clause-order c =
    on_ok c.complement_own.result
    (λ own. (own (view c.args.stage.now (seen c.args.g.now.graph) c.args.u)
    (c.changes_plane-changes.ensures.value
    ∙ ap odd_in (sym (plane_of_view c.args.g.now.graph c.args.u c.args.stage.now c.changes_plane-changes.ensures.valid c.requires.live
    c.requires.beside))) (set_of c.args.f.now.flow c.args.u)).order ∙ c.loop-i.invariant.sets.order)
    c.complement_own.ensures.sets
