-- Steps that are done one after the other.
use Rattle.std.proofs.Common.{◌≡◌, refl, sym, ◌∙◌, ap, subst, ◌+◌, ◌≤◌, false, List, [], ◌∷◌, ◌++◌, append_assoc, length, map, arith}
use Rattle.std.proofs.lemmas.List.{append-nil}
use Rattle.std.specs.Prelude.{Option, None, Some}
use Rattle.zx_model.specs.Scalar.{IsScaled}
use Rattle.zx_model.proofs.Scalars.{scaled_trans}
use Rattle.zx_calculus.specs.Graph.{Graph}
use Rattle.zx_calculus.specs.Sum.{graph_sum}
use Rattle.zx_calculus.specs.Steps as calculus
use Rattle.zx_calculus.specs.Steps.{IsRun}
use Rattle.zx_calculus.specs.StepScalars.{step_scalar, IsSumTimes}
use Rattle.zx_calculus.proofs.Steps.{step_sum, inputs_kept, outputs_kept}
use Rattle.zx_calculus.proofs.StepScalars.{step_scaled}
use Rattle.phase_groups.specs.Groups.{Phases, IsFollowed, FollowRun}
use Rattle.graph_rewrites.specs.Steps.{step_named}
use Rattle.graph_rewrites.specs.declared.step.Step.{Step}
use Rattle.zx_reduce.specs.Internal.Ordering.{IsOrdered}
use Rattle.zx_reduce.specs.Internal.Progress.{Progress, IsDone, AreDone, AreFollowed, Tries, most_tried}

pub done_then : (p : Progress) (steps : List Step) (k : Progress) (more : List Step) (q : Progress) → AreDone p steps k → AreDone k more q → AreDone p (steps ++ more) q
done_then p [] k more q first second = subst (λ x. AreDone x more q) (sym first) second
done_then p (s ∷ steps) k more q first second = (first.0, first.1, done_then first.0 steps k more q first.2 second)

pub one_done : (p : Progress) (s : Step) (q : Progress) → IsDone p s q → AreDone p (s ∷ []) q
one_done p s q done = (q, done, refl)

pub done_count : (p : Progress) (steps : List Step) (q : Progress) → AreDone p steps q → q.steps ≡ p.steps + length steps
done_count p [] q same = let e = ap (λ (x : Progress). x.steps) same in omega (arith, e)
done_count p (s ∷ steps) q done =
    let later = done_count done.0 steps q done.2 in
    let one = done.1.count in
    omega (arith, later, one)

pub done_gates : (p : Progress) (steps : List Step) (q : Progress) → AreDone p steps q → q.takes_gates ≡ p.takes_gates
done_gates p [] q same = ap (λ (x : Progress). x.takes_gates) (sym same)
done_gates p (s ∷ steps) q done = done_gates done.0 steps q done.2 ∙ done.1.takes_gates

pub done_run : (p : Progress) (steps : List Step) (q : Progress) → AreDone p steps q → IsRun p.ordered.graph (map step_named steps) q.ordered.graph
done_run p [] q same = ap (λ (x : Progress). x.ordered.graph) same
done_run p (s ∷ steps) q done = (done.0.ordered.graph, done.1.step, done_run done.0 steps q done.2)

pub done_ordered : (p : Progress) (steps : List Step) (q : Progress) → AreDone p steps q → IsOrdered p.ordered → IsOrdered q.ordered
done_ordered p [] q same ordered = subst (λ (x : Progress). IsOrdered x.ordered) same ordered
done_ordered p (s ∷ steps) q done ordered = done_ordered done.0 steps q done.2 (done.1.ordered ordered)

pub done_trace : (p : Progress) (steps : List Step) (q : Progress) → AreDone p steps q → p.takes_gates ≡ false → q.trace ≡ p.trace ++ steps
done_trace p [] q same closed = ap (λ (x : Progress). x.trace) (sym same) ∙ sym (append-nil p.trace)
done_trace p (s ∷ steps) q done closed =
    done_trace done.0 steps q done.2 (done.1.takes_gates ∙ closed) ∙ ap (λ (t : List Step). t ++ steps) (done.1.trace closed)
    ∙ append_assoc p.trace (s ∷ []) steps

-- what a graph's sum is times that of p, before a step and after it
pub step_times : (g : Graph) (p : Progress) (s : Step) (q : Progress) → length p.ordered.graph.inputs ≡ length g.inputs →
    length p.ordered.graph.outputs ≡ length g.outputs → IsDone p s q → IsOrdered p.ordered → IsSumTimes g p.scalar p.ordered.graph →
    IsSumTimes g q.scalar q.ordered.graph
step_times g p s q inputs outputs done ordered times =
    let h = p.ordered.graph in
    let k = q.ordered.graph in
    let i = length g.inputs in
    let o = length g.outputs in
    let t = step_scalar h (step_named s) in
    subst (λ r. IsSumTimes g r k) (sym done.scalar)
    (scaled_trans i o (graph_sum g) (graph_sum h) (graph_sum k) p.scalar t times
    (subst (λ m. IsScaled i m (graph_sum h) t (graph_sum k)) outputs (subst (λ m. IsScaled m (length h.outputs) (graph_sum h) t (graph_sum k)) inputs
    (step_scaled h (step_named s) k ordered.well_formed (λ x y. step_sum h (step_named s) k x y ordered.well_formed done.step)))))

pub done_times : (g : Graph) (p : Progress) (steps : List Step) (q : Progress) → length p.ordered.graph.inputs ≡ length g.inputs →
    length p.ordered.graph.outputs ≡ length g.outputs → AreDone p steps q → IsOrdered p.ordered → IsSumTimes g p.scalar p.ordered.graph →
    IsSumTimes g q.scalar q.ordered.graph
done_times g p [] q inputs outputs same ordered times = subst (λ (x : Progress). IsSumTimes g x.scalar x.ordered.graph) same times
done_times g p (s ∷ steps) q inputs outputs done ordered times =
    let h = p.ordered.graph in
    let k = done.0.ordered.graph in
    done_times g done.0 steps q (inputs_kept h (step_named s) k done.1.step ∙ inputs) (outputs_kept h (step_named s) k done.1.step ∙ outputs) done.2
    (done.1.ordered ordered) (step_times g p s done.0 inputs outputs done.1 ordered times)

-- groups of gates follow their run
followed_one : (g : Graph) (s : calculus.Step) (x : Phases) (found : Option Phases) → AreFollowed g s (Some x) found → (y : Phases) × (found ≡ Some y) × IsFollowed g s x y
followed_one g s x None f = absurd f
followed_one g s x (Some y) f = (y, refl, f)

pub done_followed : (p : Progress) (steps : List Step) (q : Progress) (x : Phases) → AreDone p steps q → p.phases ≡ Some x →
    (y : Phases) × (q.phases ≡ Some y) × FollowRun p.ordered.graph (map step_named steps) q.ordered.graph x y
done_followed p [] q x same is = (x, ap (λ (k : Progress). k.phases) (sym same) ∙ is, (ap (λ (k : Progress). k.ordered.graph) same, refl))
done_followed p (s ∷ steps) q x done is =
    let one = followed_one p.ordered.graph (step_named s) x done.0.phases (subst (λ a. AreFollowed p.ordered.graph (step_named s) a done.0.phases) is done.1.phases) in
    let rest = done_followed done.0 steps q one.0 done.2 one.1 in
    (rest.0, rest.1, (done.0.ordered.graph, one.0, done.1.step, one.2, rest.2))

-- ---- steps that are tried
pub tries_none : (p : Progress) → Tries p p
tries_none p = record { steps = []; done = refl; few = λ few. few }

pub tries_then : (p k q : Progress) → Tries p k → Tries k q → Tries p q
tries_then p k q first second = record {
  steps = first.steps ++ second.steps;
  done = done_then p first.steps k second.steps q first.done second.done;
  few = λ few. second.few (first.few few);
}

pub tries_step : (p : Progress) (s : Step) (q : Progress) → p.steps + 1 ≤ most_tried → IsDone p s q → Tries p q
tries_step p s q fits done = record {
  steps = s ∷ [];
  done = one_done p s q done;
  few = λ few. let one = done.count in omega (arith, one, fits);
}
