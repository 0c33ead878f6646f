-- The sum of a spider and a gadget on it.
use Rattle.std.proofs.Common.{◌≡◌}
use Rattle.zx_model.specs.Number.{Number, zero, one, add, mul, neg}
use Rattle.zx_model.proofs.Ring.{expand}
use Rattle.zx_calculus.proofs.Turning.{around}

-- a product over the vertices times that over the edges and those over the ends, as `term` brackets it
abbrev product : Number → Number → Number → Number → Number → Number
product a b edge input output = mul (mul a (mul b one)) (mul (mul edge one) (mul (mul input one) (mul output one)))

-- the four summands of a spider and a gadget on it, at input and output 1: s*(1+w) - s*(1-w)
pub gadget_at_one : (s w : Number) → s ≡ one →
    add (product one (add one (mul one w)) one zero zero)
    (add (product one (add one (mul (neg one) w)) one zero zero)
    (add (product s (add one (mul one w)) one one one)
    (add (product s (add one (mul (neg one) w)) (neg one) one one) zero))) ≡ mul (add one one) w
gadget_at_one s w e = rw e (simp expand (around one w))
