-- All conditions hold at the vertices that were passed.
use Rattle.std.proofs.Common.{◌≡◌, ℕ, true, take}
use Rattle.std.specs.List.{list_all}
use Rattle.zx_model.specs.Bits.{member}
use Rattle.gflow_laws.specs.Seen.{seen}
use Rattle.flow_check.specs.Failures.{all_hold}
use Rattle.flow_check.proofs.checking.check.Given as goal

abbrev pub invariant-loop-v : goal.invariant-loop-v
invariant-loop-v l = record {
  marks : (w : ℕ) → member w l.passed.ids ≡ member w (take l.v-index l.v-items);
  held : list_all (all_hold (seen l.g.graph) l.t.table) (take l.v-index l.v-items) ≡ true;
}
