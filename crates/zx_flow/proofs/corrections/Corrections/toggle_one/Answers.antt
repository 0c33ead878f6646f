-- The table's set is toggled.
use Rattle.std.proofs.Common.{ap, subst, ◌<◌, [], ◌∷◌}
use Rattle.std.specs.Prelude.{IsOk}
use Rattle.std.proofs.lemmas.Result.{on_ok_weaker, on_err_weaker}
use Rattle.zx_flow.specs.Internal.Sets.{Corrections}
use Rattle.zx_flow.proofs.SetLemmas.{HoldsOnce-grown}
use Rattle.zx_flow.proofs.TableChanges.{same_table, toggled_table}
use Rattle.zx_flow.proofs.corrections.Corrections.toggle_one.Goals as goal

pub invariant_of-self : goal.invariant_of-self
invariant_of-self c = HoldsOnce-grown c.self.invariant c.toggle_one.ensures.grown

pub returns : goal.returns
returns c = record {
  ok = on_ok_weaker c.toggle_one.result
      (toggled_table c.self.invariant c.self.view_is c.toggle_one.new.self.lists c.args.v (c.args.w ∷ []) c.requires) c.toggle_one.ensures.ok;
  err = on_err_weaker c.toggle_one.result (same_table c.self.invariant c.self.view_is c.toggle_one.new.self.lists) c.toggle_one.ensures.err;
  has_room = subst (λ (k : Corrections). c.args.v < k.room.reach → c.args.w < k.room.reach → IsOk c.toggle_one.result) c.self.view_is
      c.toggle_one.ensures.has_room;
  room = rw c.toggle_one.ensures.reach (ap (λ (k : Corrections). k.room) c.self.view_is);
}
