-- The order without the vertex.
use Rattle.std.proofs.Common.{◌≡◌, ◌∙◌, ap, ap₂, ◌-◌, not, eqb, length, vec_len, vec_capacity, ℕ, true, arith, rules}
use Rattle.std.proofs.lemmas.Fn.{filter_same}
use Rattle.gflow_laws.specs.Tables.{without_set}
use Rattle.open_graph.specs.Rooms.{Room}
use Rattle.zx_flow.specs.Internal.Sets.{Corrections, table_of}
use Rattle.zx_flow.proofs.SetLemmas.{table_of-without, length-without, HoldsOnce-without, without}
use Rattle.zx_flow.proofs.TableChanges.{listed}
use Rattle.zx_flow.proofs.corrections.Corrections.remove.Goals as goal
use Rattle.zx_flow.proofs.corrections.Corrections.remove.Goals.{After-retain}

kept : (c : After-retain) → c.retain.new.self.items ≡ without c.args.v c.self.inside.order.items
kept c = filter_same _ (λ u. not (eqb u c.args.v)) _ (λ x b f r. search rules) _ _ c.retain.ensures.filtered

pub invariant_of-self : goal.invariant_of-self
invariant_of-self c =
    rw (kept (goal.at.invariant_of-self c).After-retain)
    (HoldsOnce-without c.self.inside.sets.lists c.clear.new.self.lists c.self.inside.order.items c.args.v c.self.invariant
    (omega (arith, c.clear.ensures.length)))

pub returns : goal.returns
returns c =
    let same = kept (goal.at.returns c).After-retain in
    let less = length-without c.args.v c.self.inside.order.items c.self.invariant.each_once (listed c.self.invariant c.self.view_is c.args.v true c.requires) in
    let was : vec_capacity c.self.inside.order - vec_len c.self.inside.order ≡ c.args.self.now.room.spare = ap (λ (k : Corrections). k.room.spare) c.self.view_is in
    record {
      table = ap (table_of c.clear.new.self.lists) same
          ∙ table_of-without c.self.inside.sets.lists c.clear.new.self.lists c.self.inside.order.items c.args.v c.clear.ensures.others
          ∙ ap (λ (k : Corrections). without_set c.args.v k.table) c.self.view_is;
      room = ap₂ (λ (s r : ℕ). the_room s r)
          (omega (arith, less, was, ap length same, c.retain.ensures.capacity, c.retain.new.self.ok.0, c.self.inside.order.ok.0, c.self.inside.order.ok.1))
          (c.clear.ensures.reach ∙ ap (λ (k : Corrections). k.room.reach) c.self.view_is);
    }
  where
    the_room : ℕ → ℕ → Room
    the_room s r = record { spare = s; reach = r }
