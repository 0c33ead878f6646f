-- The order so far, without sets.
use Rattle.std.proofs.Common.{◌≡◌, ℕ, true, take}
use Rattle.std.specs.List.{list_all}
use Rattle.zx_model.specs.Bits.{member}
use Rattle.zx_calculus.specs.Graph.{in_order, different}
use Rattle.zx_text.specs.Files.{non_outputs}
use Rattle.zx_text.specs.Internal.Stepping.{no_sets}
use Rattle.zx_text.proofs.set_part.place_all.Given as goal

abbrev pub invariant-loop-number : goal.invariant-loop-number
invariant-loop-number l = record {
  table : l.table.table ≡ no_sets (take l.number-index l.order);
  placed : (w : ℕ) → member w l.placed.ids ≡ member w (take l.number-index l.order);
  once : in_order different (take l.number-index l.order) ≡ true;
  no_others : list_all (λ v. member v (non_outputs l.part.graph)) (take l.number-index l.order) ≡ true;
}
