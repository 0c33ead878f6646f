-- Steps that can be done one after the other.
use Rattle.std.proofs.Common.{◌≡◌, sym, ◌∙◌, ap, subst, ℕ, ◌+◌, ◌<◌, suc, true, List, ◌∷◌, length, map, get_or, drop, drop-cons, add-one}
use Rattle.zx_calculus.specs.Graph.{Graph, WellFormed}
use Rattle.zx_calculus.specs.Steps.{Step, allowed, IsStep, IsRun}
use Rattle.zx_calculus.proofs.Steps.{step_kept, step_result, step_allowed}
use Rattle.graph_rewrites.specs.declared.step.Step as named
use Rattle.graph_rewrites.specs.Steps.{step_named}
use Rattle.zx_teleport.specs.Internal.Scaling.{MayRun}

module _ (g k : Graph) (s : Step) (steps : List Step) (formed : WellFormed g) (step : IsStep g s k) where
  one_end : (j : Graph) → IsStep g s j → k ≡ j
  one_end j c = step_result g s k formed step ∙ sym (step_result g s j formed c)

  pub may_run_on : MayRun g (s ∷ steps) → MayRun k steps
  may_run_on m = record {
    formed = step_kept g s k formed step;
    end = m.end;
    run = subst (λ j. IsRun j steps m.end) (sym (one_end m.run.0 m.run.1)) m.run.2;
  }

-- one step more of a list of steps by their names
module _ (g : Graph) (steps : List named.Step) (i : ℕ) (x : named.Step) (there : i < length steps) (here : x ≡ get_or steps i x)
    (may : MayRun g (map step_named (drop i steps))) where
  cut : drop i steps ≡ x ∷ drop (i + 1) steps
  cut = drop-cons steps i x there ∙ ap (λ y. y ∷ drop (suc i) steps) (sym here) ∙ ap (λ j. x ∷ drop j steps) (sym (add-one i))

  begins : MayRun g (step_named x ∷ map step_named (drop (i + 1) steps))
  begins = subst (λ xs. MayRun g (map step_named xs)) cut may

  pub next_allowed : allowed g (step_named x) ≡ true
  next_allowed = step_allowed g (step_named x) begins.run.0 begins.formed begins.run.1

  module _ (k : Graph) (step : IsStep g (step_named x) k) where
    pub next_may_run : MayRun k (map step_named (drop (i + 1) steps))
    next_may_run = may_run_on g k (step_named x) (map step_named (drop (i + 1) steps)) begins.formed step begins

    -- whatever the steps lead to, those that are left lead to from here
    pub next_left : (h : Graph) → IsRun g (map step_named (drop i steps)) h → IsRun k (map step_named (drop (i + 1) steps)) h
    next_left h run =
        let all : IsRun g (step_named x ∷ map step_named (drop (i + 1) steps)) h = subst (λ xs. IsRun g (map step_named xs) h) cut run in
        subst (λ j. IsRun j (map step_named (drop (i + 1) steps)) h) (sym (one_end g k (step_named x) (map step_named (drop (i + 1) steps)) begins.formed step all.0 all.1)) all.2
