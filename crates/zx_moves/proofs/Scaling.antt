-- Scalars of steps one after the other.
use Rattle.std.proofs.Common.{◌≡◌, refl, sym, ◌∙◌, ap, subst, ℕ, ◌+◌, ◌*◌, ◌-◌, ◌<◌, ◌≤◌, length, arith, List, map}
use Rattle.zx_model.specs.Scalar.{IsScaled, IsWithin, one_scalar, product_of_scalars, most_root2}
use Rattle.zx_model.specs.declared.scalar.Scalar.{Scalar}
use Rattle.zx_model.proofs.Scalars.{scaled_refl, scaled_trans, within_product, within_more}
use Rattle.zx_calculus.specs.Graph.{Graph, WellFormed}
use Rattle.zx_calculus.specs.Sum.{graph_sum}
use Rattle.zx_calculus.specs.Steps.{Step, IsStep}
use Rattle.zx_calculus.specs.StepScalars.{step_scalar}
use Rattle.zx_calculus.proofs.Steps.{step_sum, inputs_kept, outputs_kept}
use Rattle.zx_calculus.proofs.StepScalars.{step_scaled, step_within}
use Rattle.graph_rewrites.specs.declared.step.Step.{Step as TraceStep}
use Rattle.open_graph.specs.OpenGraph.{most_vertices_in_memory}
use Rattle.zx_moves.specs.Moving.{most_moves, steps_of, GainsMoves}
use Rattle.zx_moves.specs.Scaling.{most_exponent}
use Rattle.zx_moves.specs.Internal.Scaling.{Scales}
use Rattle.zx_moves.specs.declared.moves.Move.{Move}
use Rattle.graph_rewrites.specs.Steps.{step_named}
use Rattle.zx_moves.proofs.MovesMade.{gained_few_moves}
use Rattle.zx_moves.proofs.MoveRuns.{length-steps_of}
use Rattle.zx_moves.proofs.MoveCounts.{most_moves-few}
use Rattle.std.proofs.lemmas.List.{length-map}

pub scales_none : (g : Graph) → Scales g 0 one_scalar g
scales_none g = record {
  sum = scaled_refl (length g.inputs) (length g.outputs) (graph_sum g);
  small = omega arith;
  inputs = refl;
  outputs = refl;
}

pub scales_then : {g k h : Graph} {a b : ℕ} {s t : Scalar} → Scales g a s k → Scales k b t h → Scales g (a + b) (product_of_scalars s t) h
scales_then {g} {k} {h} {a} {b} {s} {t} p q = record {
  sum = scaled_trans (length g.inputs) (length g.outputs) (graph_sum g) (graph_sum k) (graph_sum h) s t p.sum
      (subst (λ m. IsScaled (length g.inputs) m (graph_sum k) t (graph_sum h)) p.outputs (subst (λ n. IsScaled n (length k.outputs) (graph_sum k) t (graph_sum h)) p.inputs q.sum));
  small = within_product a b s t p.small q.small;
  inputs = q.inputs ∙ p.inputs;
  outputs = q.outputs ∙ p.outputs;
}

pub scales_more : {g h : Graph} {a : ℕ} {s : Scalar} (b : ℕ) → Scales g a s h → a ≤ b → Scales g b s h
scales_more {g} {h} {a} {s} b p more = record { sum = p.sum; small = within_more a b s p.small more; inputs = p.inputs; outputs = p.outputs }

-- nothing is done yet
pub scales_begin : {g h : Graph} {s : Scalar} (start : ℕ) → s ≡ one_scalar → h ≡ g → Scales g (12 * (start - start)) s h
scales_begin {g} {h} {s} start one same =
    scales_more (12 * (start - start)) (subst (λ k. Scales g 0 s k) (sym same) (subst (λ t. Scales g 0 t g) (sym one) (scales_none g))) (omega arith)

-- a step has its own scalar
pub scales_step : (g : Graph) (step : Step) (h : Graph) (s : Scalar) → WellFormed g → IsStep g step h → s ≡ step_scalar g step → Scales g 2 s h
scales_step g step h s w done is = record {
  sum = subst (λ t. IsScaled (length g.inputs) (length g.outputs) (graph_sum g) t (graph_sum h)) (sym is) (step_scaled g step h w (λ x y. step_sum g step h x y w done));
  small = subst (IsWithin 2) (sym is) (step_within g step);
  inputs = inputs_kept g step h done;
  outputs = outputs_kept g step h done;
}

-- ---- moves
-- a graph with few vertices allows few moves
pub few_made : {g h : Graph} {before after : List TraceStep} {made : ℕ} → GainsMoves g h before after 0 made → WellFormed g →
    made ≤ 3 * length g.vertices
few_made {g} {made = made} gains w = few made (most_moves g) (length g.vertices) (gained_few_moves gains w) (most_moves-few g w)
  where
    few : (made moves n : ℕ) → made ≤ 0 + moves → moves ≤ 3 * n → made ≤ 3 * n
    few made moves n a b = omega (arith, a, b)

-- so many moves are made, and one more is multiplied in
pub one_more_fits : {g h : Graph} {before after : List TraceStep} {start now : ℕ} (s t : Scalar) → GainsMoves g h before after start now → WellFormed g → length g.vertices ≤ most_vertices_in_memory →
    IsWithin (12 * (now - start)) s → IsWithin 12 t → IsWithin most_root2 (product_of_scalars s t)
one_more_fits {g} {start = start} {now = now} s t gains w few p q =
    within_more (12 * (now - start) + 12) most_root2 (product_of_scalars s t) (within_product (12 * (now - start)) 12 s t p q)
    (fits start now (most_moves g) (length g.vertices) (gained_few_moves gains w) (most_moves-few g w) few)
  where
    fits : (start now moves n : ℕ) → now ≤ start + moves → moves ≤ 3 * n → n ≤ most_vertices_in_memory → 12 * (now - start) + 12 ≤ most_root2
    fits start now moves n a b c = omega (arith, a, b, c)

pub one_more_scales : {g k h : Graph} {before after : List TraceStep} {start now ticked : ℕ} {s t r : Scalar} → GainsMoves g k before after start now →
    Scales g (12 * (now - start)) s k → Scales k 12 t h → r ≡ product_of_scalars s t → ticked ≡ now + 1 →
    Scales g (12 * (ticked - start)) r h
one_more_scales {g} {h = h} {start = start} {now = now} {ticked = ticked} gains p q is tick =
    subst (λ x. Scales g (12 * (ticked - start)) x h) (sym is) (scales_more (12 * (ticked - start)) (scales_then p q) (more start now ticked gains.count gains.counter tick))
  where
    more : (start now ticked n : ℕ) → now ≡ start + n → ticked ≡ now + 1 → 12 * (now - start) + 12 ≤ 12 * (ticked - start)
    more start now ticked n a b = omega (arith, a, b)

pub all_scale : {g h : Graph} {before after : List TraceStep} {start now : ℕ} {s : Scalar} → GainsMoves g h before after start now → WellFormed g →
    Scales g (12 * (now - start)) s h → Scales g (most_exponent g) s h
all_scale {g} {start = start} {now = now} gains w p =
    scales_more (most_exponent g) p (few start now (most_moves g) (length g.vertices) (gained_few_moves gains w) (most_moves-few g w))
  where
    few : (start now moves n : ℕ) → now ≤ start + moves → moves ≤ 3 * n → 12 * (now - start) ≤ 36 * n
    few start now moves n a b = omega (arith, a, b)

-- ---- steps of a move
pub steps_six : (g : Graph) (m : Move) (steps : List TraceStep) → map step_named steps ≡ steps_of g m → length steps ≤ 6
steps_six g m steps planned = let named = length-map steps step_named in let most = length-steps_of g m in let same = ap length planned in omega (arith, named, most, same)

pub few_fit : (i n : ℕ) (s t : Scalar) → n ≤ 6 → i < n → IsWithin (2 * i) s → IsWithin 2 t → IsWithin most_root2 (product_of_scalars s t)
few_fit i n s t six below p q =
    within_more (2 * i + 2) most_root2 (product_of_scalars s t) (within_product (2 * i) 2 s t p q) (fits i n six below)
  where
    fits : (i n : ℕ) → n ≤ 6 → i < n → 2 * i + 2 ≤ most_root2
    fits i n a b = omega (arith, a, b)

pub twelve : (i n : ℕ) → n ≤ 6 → i ≤ n → 2 * i ≤ 12
twelve i n a b = omega (arith, a, b)

pub scales_next : {g k h : Graph} {s t r : Scalar} (i : ℕ) → Scales g (2 * i) s k → Scales k 2 t h → r ≡ product_of_scalars s t → Scales g (2 * (i + 1)) r h
scales_next {g} {h = h} i p q is = subst (λ x. Scales g (2 * (i + 1)) x h) (sym is) (scales_more (2 * (i + 1)) (scales_then p q) (omega arith))
