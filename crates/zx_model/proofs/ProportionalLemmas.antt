-- Proportionality is an equivalence, and weaker than equality.
use Rattle.std.proofs.Common.{◌≡◌, ◌≢◌, ℕ, Bool, List, length, sym, ◌∙◌, ap}
use Rattle.zx_model.specs.Number.{Number, zero, one, mul}
use Rattle.zx_model.specs.Proportional.{Proportional}
use Rattle.zx_model.proofs.Ring.{one_nonzero, mul_assoc, mul_comm}
use Rattle.zx_model.proofs.Domain.{mul-nonzero}

pub proportional_of_scaled : (n m : ℕ) (f g : List Bool → List Bool → Number) (left right : Number) → left ≢ zero → right ≢ zero → ((x y : List Bool) → length x ≡ n → length y ≡ m → mul left (f x y) ≡ mul right (g x y)) → Proportional n m f g
proportional_of_scaled n m f g left right p q e = record {
  left = left;
  right = right;
  left_nonzero = p;
  right_nonzero = q;
  equal = e;
}

pub proportional_refl : (n m : ℕ) (f : List Bool → List Bool → Number) → Proportional n m f f
proportional_refl n m f = record {
  left = one;
  right = one;
  left_nonzero = one_nonzero;
  right_nonzero = one_nonzero;
  equal = λ x y p q i. mul one (f x y);
}

pub proportional_sym : (n m : ℕ) (f g : List Bool → List Bool → Number) → Proportional n m f g → Proportional n m g f
proportional_sym n m f g p = record {
  left = p.right;
  right = p.left;
  left_nonzero = p.right_nonzero;
  right_nonzero = p.left_nonzero;
  equal = λ x y k l. sym (p.equal x y k l);
}

-- a*f = b*g and c*g = d*h give (c*a)*f = (b*d)*h
chained : (a b c d f g h : Number) → mul a f ≡ mul b g → mul c g ≡ mul d h → mul (mul c a) f ≡ mul (mul b d) h
chained a b c d f g h p q =
    mul_assoc c a f ∙ ap (mul c) p ∙ sym (mul_assoc c b g) ∙ ap (λ x. mul x g) (mul_comm c b) ∙ mul_assoc b c g ∙ ap (mul b) q ∙ sym (mul_assoc b d h)

pub proportional_trans : (n m : ℕ) (f g h : List Bool → List Bool → Number) → Proportional n m f g → Proportional n m g h → Proportional n m f h
proportional_trans n m f g h p q = record {
  left = mul q.left p.left;
  right = mul p.right q.right;
  left_nonzero = mul-nonzero q.left p.left q.left_nonzero p.left_nonzero;
  right_nonzero = mul-nonzero p.right q.right p.right_nonzero q.right_nonzero;
  equal = λ x y k l. chained p.left p.right q.left q.right (f x y) (g x y) (h x y) (p.equal x y k l) (q.equal x y k l);
}
