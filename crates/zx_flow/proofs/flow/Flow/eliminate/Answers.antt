-- One more set is cleared.
use Rattle.std.proofs.Common.{◌≡◌, ◌∙◌, ap, subst, ◌<◌, [], ◌∷◌, length, get_or, take, take_all, arith}
use Rattle.zx_model.specs.Bits.{member}
use Rattle.gflow_laws.specs.Flow.{order_of, set_of}
use Rattle.gflow_laws.specs.Internal.Changes.{AreChanged}
use Rattle.gflow_laws.proofs.SetChanges.{changed_grows}
use Rattle.zx_flow.specs.Internal.Clearing.{clearing_change}
use Rattle.zx_flow.proofs.Clearing.{own_kept, changed_by_own, cleared_done}
use Rattle.zx_flow.proofs.flow.Flow.eliminate.Goals as goal

pub vertex_at-v-requires : goal.vertex_at-v-requires
vertex_at-v-requires c = omega (arith, ap length c.order-i-end.ensures.value, ap length c.loop-i.invariant.sets.order)

pub clear-requires-clause-u_there : goal.clear-requires-clause-u_there
clear-requires-clause-u_there c = ap (member c.args.u) c.loop-i.invariant.sets.order ∙ c.requires

pub loop-i-preserved : goal.loop-i-preserved
loop-i-preserved c =
    let t = c.args.self.now.flow in
    let now = c.loop-i.self.flow in
    let own = set_of t c.args.u in
    let within : c.loop-i.i < length (order_of t) = omega (arith, ap length c.order-i-end.ensures.value) in
    record {
      sets = changed_grows (clearing_change c.args.u own) (order_of t) c.loop-i.i c.vertex_at-v.result t now
          c.clear.new.self.flow c.order-i-end.ensures.valid within
          (c.vertex_at-v.ensures.value ∙ ap (λ order. get_or order c.loop-i.i 0) c.loop-i.invariant.sets.order)
          c.loop-i.invariant.sets
          (changed_by_own c.args.u own (set_of now c.args.u) (c.vertex_at-v.result ∷ []) now c.clear.new.self.flow
          (own_kept c.args.u own (take c.loop-i.i (order_of t)) t now c.loop-i.invariant.sets) c.in_ok-clear.ensures.sets);
      room = c.clear.ensures.room ∙ c.loop-i.invariant.room;
    }

pub remove-requires : goal.remove-requires
remove-requires c = ap (member c.args.u) c.loop-i.invariant.sets.order ∙ c.requires

pub returns-clause-flow : goal.returns-clause-flow
returns-clause-flow c =
    let t = c.args.self.now.flow in
    let all : take c.loop-i.i (order_of t) ≡ order_of t =
    take_all c.loop-i.i (order_of t) (omega (arith, ap length c.order-i-end.ensures.value)) in
    cleared_done c.args.u t c.loop-i.self.flow c.remove.new.self.flow
    (subst (λ done. AreChanged (clearing_change c.args.u (set_of t c.args.u)) done t c.loop-i.self.flow) all c.loop-i.invariant.sets)
    c.remove.ensures.flow
