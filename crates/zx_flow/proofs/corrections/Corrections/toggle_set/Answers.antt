-- The table's set is toggled.
use Rattle.std.proofs.Common.{◌≡◌, ap, subst, ◌<◌}
use Rattle.std.specs.Prelude.{IsOk}
use Rattle.std.proofs.lemmas.Result.{on_ok_weaker, on_err_weaker}
use Rattle.gflow_laws.specs.Flow.{set_of}
use Rattle.zx_bits.specs.Sets.{IsBelow}
use Rattle.zx_flow.specs.VertexSets.{set_at}
use Rattle.zx_flow.specs.Internal.Sets.{Corrections}
use Rattle.zx_flow.proofs.SetLemmas.{HoldsOnce-grown}
use Rattle.zx_flow.proofs.TableChanges.{same_table, set_told, toggled_table}
use Rattle.zx_flow.proofs.corrections.Corrections.toggle_set.Goals as goal

pub invariant_of-self : goal.invariant_of-self
invariant_of-self c = HoldsOnce-grown c.self.invariant c.toggle_set.ensures.grown

pub returns : goal.returns
returns c =
    let told : set_at c.self.inside.sets.lists c.args.u ≡ set_of c.args.self.now.table c.args.u =
    set_told c.self.invariant c.self.view_is c.args.u c.requires.u_there in
    record {
      ok = rw (← told) (on_ok_weaker c.toggle_set.result
          (toggled_table c.self.invariant c.self.view_is c.toggle_set.new.self.lists c.args.v (set_at c.self.inside.sets.lists c.args.u) c.requires.v_there)
          c.toggle_set.ensures.ok);
      err = on_err_weaker c.toggle_set.result (same_table c.self.invariant c.self.view_is c.toggle_set.new.self.lists) c.toggle_set.ensures.err;
      has_room = rw (← told) (subst (λ (k : Corrections). c.args.v < k.room.reach →
          IsBelow k.room.reach (set_at c.self.inside.sets.lists c.args.u) → IsOk c.toggle_set.result) c.self.view_is c.toggle_set.ensures.has_room);
      room = rw c.toggle_set.ensures.reach (ap (λ (k : Corrections). k.room) c.self.view_is);
    }
