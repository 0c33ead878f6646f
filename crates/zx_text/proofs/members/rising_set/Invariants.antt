-- The numbers so far rise, the set has them, and none is below the greatest of them.
use Rattle.std.proofs.Common.{◌≡◌, ℕ, ◌<◌, true, false, ltb, take}
use Rattle.std.specs.List.{list_all}
use Rattle.zx_model.specs.Bits.{member}
use Rattle.zx_calculus.specs.Graph.{in_order}
use Rattle.zx_text.proofs.members.rising_set.Given as goal

abbrev pub invariant-loop-number : goal.invariant-loop-number
invariant-loop-number l = record {
  same : (w : ℕ) → member w l.set.ids ≡ member w (take l.number-index l.numbers);
  rising : in_order ltb (take l.number-index l.numbers) ≡ true;
  bounded : list_all (λ w. ltb w l.bound) (take l.number-index l.numbers) ≡ true;
  below : list_all (λ w. ltb w l.least) (take l.number-index l.numbers) ≡ true;
  least : (n : ℕ) → n < l.least → list_all (λ w. ltb w n) (take l.number-index l.numbers) ≡ false;
}
