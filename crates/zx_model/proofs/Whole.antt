-- The ring laws of the whole numbers, and a set by which `simp` proves polynomial identities of them.
use Rattle.std.proofs.Common.{◌≡◌, ◌+◌, ◌*◌, ℤ, pos, ◌+ℤ◌, ◌*ℤ◌, neg_ℤ, sym, ◌∙◌, ap, arith}
use borrow.Author.Differences.{up, down, same_in, sum_is_lem, product_is, neg_is}
use lib.IntN.{+ℤ_comm, +ℤ_assoc, +ℤ_idl, +ℤ_idr, +ℤ_invr, neg_ℤ-neg_ℤ, neg_ℤ-+ℤ, *ℤ_comm, zero-*ℤ, *ℤ-zero}

pub add_left_comm : (a b c : ℤ) → a +ℤ (b +ℤ c) ≡ b +ℤ (a +ℤ c)
add_left_comm a b c = same_in _ _ (omega (arith, sum_is_lem))

up-mul : (a b : ℤ) → up (a *ℤ b) ≡ up a * up b + down a * down b
up-mul a b = (product_is a b).0

down-mul : (a b : ℤ) → down (a *ℤ b) ≡ up a * down b + down a * up b
down-mul a b = (product_is a b).1

up-neg : (a : ℤ) → up (neg_ℤ a) ≡ down a
up-neg a = (neg_is a).0

down-neg : (a : ℤ) → down (neg_ℤ a) ≡ up a
down-neg a = (neg_is a).1

pub mul_assoc : (a b c : ℤ) → (a *ℤ b) *ℤ c ≡ a *ℤ (b *ℤ c)
mul_assoc a b c =
    same_in _ _ (simp (up-mul, down-mul) (omega arith))

pub mul_left_comm : (a b c : ℤ) → a *ℤ (b *ℤ c) ≡ b *ℤ (a *ℤ c)
mul_left_comm a b c = sym (mul_assoc a b c) ∙ ap (λ x. x *ℤ c) (*ℤ_comm a b) ∙ mul_assoc b a c

pub mul-add : (a b c : ℤ) → a *ℤ (b +ℤ c) ≡ a *ℤ b +ℤ a *ℤ c
mul-add a b c =
    let positive = ap (λ x. up a * x) (sum_is_lem b c) in
    let negative = ap (λ x. down a * x) (sum_is_lem b c) in
    same_in _ _
    (omega (arith, positive, negative, product_is a (b +ℤ c), product_is a b, product_is a c, sum_is_lem (a *ℤ b) (a *ℤ c)))

pub add-mul : (a b c : ℤ) → (a +ℤ b) *ℤ c ≡ a *ℤ c +ℤ b *ℤ c
add-mul a b c = *ℤ_comm (a +ℤ b) c ∙ mul-add c a b ∙ ap (λ x. x +ℤ c *ℤ b) (*ℤ_comm c a) ∙ ap (λ x. a *ℤ c +ℤ x) (*ℤ_comm c b)

pub mul-neg : (a b : ℤ) → a *ℤ neg_ℤ b ≡ neg_ℤ (a *ℤ b)
mul-neg a b = same_in _ _ (simp (up-neg, down-neg, up-mul, down-mul) (omega arith))

pub neg-mul : (a b : ℤ) → neg_ℤ a *ℤ b ≡ neg_ℤ (a *ℤ b)
neg-mul a b = *ℤ_comm (neg_ℤ a) b ∙ mul-neg b a ∙ ap neg_ℤ (*ℤ_comm b a)

pub mul-one : (a : ℤ) → a *ℤ pos 1 ≡ a
mul-one a = same_in _ _ (omega (arith, product_is a (pos 1)))

pub one-mul : (a : ℤ) → pos 1 *ℤ a ≡ a
one-mul a = *ℤ_comm (pos 1) a ∙ mul-one a

-- both sides of an identity become sums of signed monomials, brackets to the right and in one order
pub ruleset expand = (mul-add, add-mul, mul-neg, neg-mul, neg_ℤ-+ℤ, neg_ℤ-neg_ℤ, mul_assoc, *ℤ_comm, mul_left_comm, +ℤ_assoc, +ℤ_comm, add_left_comm)

-- the numbers 0 and 1 go
pub ruleset units = (zero-*ℤ, *ℤ-zero, one-mul, mul-one, +ℤ_idl, +ℤ_idr)
