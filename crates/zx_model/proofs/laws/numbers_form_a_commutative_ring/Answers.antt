use Rattle.zx_model.proofs.Ring.{add_comm, add_assoc, add-zero, add-neg, mul_comm, mul_assoc, mul-one, mul-add}
use Rattle.zx_model.proofs.laws.numbers_form_a_commutative_ring.Goals as goal

pub returns : goal.returns
returns c = record {
  sum_commutes = add_comm;
  sum_associates = add_assoc;
  zero_is_neutral = add-zero;
  opposites = add-neg;
  product_commutes = mul_comm;
  product_associates = mul_assoc;
  one_is_neutral = mul-one;
  product_distributes = mul-add;
}
