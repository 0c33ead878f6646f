-- The scalars of steps that are done one after the other, and how large they are.
use Rattle.std.proofs.Common.{◌≡◌, sym, subst, ℕ, ◌+◌, ◌*◌, ◌<◌, ◌≤◌, List, [], length, drop, map, arith}
use borrow.Author.Differences.{ints}
use Rattle.zx_model.specs.Scalar.{IsWithin, most_root2, product_of_scalars, quotient_of_scalars}
use Rattle.zx_model.specs.declared.scalar.Scalar.{Scalar}
use Rattle.zx_model.proofs.Scalars.{within_product, within_more}
use Rattle.zx_calculus.specs.Graph.{Graph}
use Rattle.zx_calculus.specs.Steps.{IsRun}
use Rattle.zx_calculus.specs.StepScalars.{IsSumTimes}
use Rattle.graph_rewrites.specs.declared.step.Step as named
use Rattle.graph_rewrites.specs.Steps.{step_named}
use Rattle.zx_moves.specs.Internal.Scaling.{Scales}
use Rattle.zx_teleport.specs.Scalars.{most_teleported_root2}
use Rattle.zx_reduce.specs.Scaling.{most_steps, most_reduced_root2}
use Rattle.zx_teleport.specs.Internal.Scaling.{HaveScalar}

-- one step more
pub next_fits : (i n : ℕ) (s t : Scalar) → n ≤ most_steps → i < n → IsWithin (2 * i) s → IsWithin 2 t → IsWithin most_root2 (product_of_scalars s t)
next_fits i n s t few below p q = within_more (2 * i + 2) most_root2 (product_of_scalars s t) (within_product (2 * i) 2 s t p q) (fits i n few below)
  where
    fits : (i n : ℕ) → n ≤ most_steps → i < n → 2 * i + 2 ≤ most_root2
    fits i n a b = omega (arith, a, b)

-- all steps
pub all_done : (g k : Graph) (steps : List named.Step) (i n : ℕ) (s : Scalar) → drop i steps ≡ [] → Scales g n s k →
    ((h : Graph) → IsRun g (map step_named steps) h → IsRun k (map step_named (drop i steps)) h) → HaveScalar g (map step_named steps) s
all_done g k steps i n s done scales left h run =
    subst (IsSumTimes g s) (subst (λ xs. IsRun k (map step_named xs) h) done (left h run)) scales.sum

pub twice : (i n : ℕ) (s : Scalar) → i ≤ n → IsWithin (2 * i) s → IsWithin (2 * n) s
twice i n s few p = within_more (2 * i) (2 * n) s p (more i n few)
  where
    more : (i n : ℕ) → i ≤ n → 2 * i ≤ 2 * n
    more i n a = omega (arith, a)

-- the steps of a simplification
pub few_seen : (steps seen : List named.Step) → seen ≡ steps → length steps ≤ most_steps → length seen ≤ most_steps
few_seen steps seen same few = subst (λ xs. length xs ≤ most_steps) (sym same) few

-- the quotient of two
within_quotient : (a b : ℕ) (s t : Scalar) → IsWithin a s → IsWithin b t → IsWithin (a + b) (quotient_of_scalars s t)
within_quotient a b s t p q = omega (arith, ints, p, q)

pub quotient_small : (steps seen : List named.Step) (s t : Scalar) → seen ≡ steps → length steps ≤ most_steps → IsWithin most_reduced_root2 s → IsWithin (2 * length seen) t →
    IsWithin most_teleported_root2 (quotient_of_scalars s t)
quotient_small steps seen s t same few p q =
    within_more (most_reduced_root2 + 2 * length seen) most_teleported_root2 (quotient_of_scalars s t) (within_quotient most_reduced_root2 (2 * length seen) s t p q)
    (below (length seen) (few_seen steps seen same few))
  where
    below : (count : ℕ) → count ≤ most_steps → most_reduced_root2 + 2 * count ≤ most_teleported_root2
    below count b = omega (arith, b)

pub quotient_fits : (s : Scalar) → IsWithin most_teleported_root2 s → IsWithin most_root2 s
quotient_fits s p = within_more most_teleported_root2 most_root2 s p (omega arith)
