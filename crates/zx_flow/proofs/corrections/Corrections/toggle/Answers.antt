-- The table's set is toggled.
use Rattle.std.proofs.Common.{ap, subst, ◌<◌}
use Rattle.std.specs.Prelude.{IsOk}
use Rattle.std.proofs.lemmas.Result.{on_ok_weaker, on_err_weaker}
use Rattle.zx_bits.specs.Sets.{IsBelow}
use Rattle.zx_flow.specs.Internal.Sets.{Corrections}
use Rattle.zx_flow.proofs.SetLemmas.{HoldsOnce-grown}
use Rattle.zx_flow.proofs.TableChanges.{same_table, toggled_table}
use Rattle.zx_flow.proofs.corrections.Corrections.toggle.Goals as goal

pub invariant_of-self : goal.invariant_of-self
invariant_of-self c = HoldsOnce-grown c.self.invariant c.toggle.ensures.grown

pub returns : goal.returns
returns c = record {
  ok = on_ok_weaker c.toggle.result
      (toggled_table c.self.invariant c.self.view_is c.toggle.new.self.lists c.args.v c.args.members.now.ids c.requires) c.toggle.ensures.ok;
  err = on_err_weaker c.toggle.result (same_table c.self.invariant c.self.view_is c.toggle.new.self.lists) c.toggle.ensures.err;
  has_room = subst (λ (k : Corrections). c.args.v < k.room.reach → IsBelow k.room.reach c.args.members.now.ids → IsOk c.toggle.result) c.self.view_is
      c.toggle.ensures.has_room;
  room = rw c.toggle.ensures.reach (ap (λ (k : Corrections). k.room) c.self.view_is);
}
