-- A graph while it is simplified.
use Rattle.std.specs.Prelude.{◌≡◌, ◌≤◌, ◌+◌, ◌*◌, ◌^◌, ◌++◌, ℕ, Bool, true, false, Option, Some, None}
use Rattle.std.specs.Prelude.{List, [], ◌∷◌, map}
use Rattle.zx_model.specs.Scalar.{IsWithin, one_scalar, product_of_scalars}
use Rattle.zx_model.specs.declared.scalar.Scalar.{Scalar}
use Rattle.zx_calculus.specs.Graph.{Graph, WellFormed}
use Rattle.zx_calculus.specs.Moves.{IsStuck}
use Rattle.zx_calculus.specs.Reduced.{IsReduced}
use Rattle.zx_calculus.specs.Steps as calculus
use Rattle.zx_calculus.specs.Steps.{IsStep}
use Rattle.zx_calculus.specs.StepScalars.{step_scalar}
use Rattle.gflow_laws.specs.Flow.{Correction, IsFlow}
use Rattle.move_laws.specs.Orders.{is_split}
use Rattle.circuit_graph.specs.Translation.{last_spider}
use Rattle.phase_groups.specs.Groups.{Phases, IsAdded, IsFollowed}
use Rattle.graph_rewrites.specs.Steps.{step_named}
use Rattle.graph_rewrites.specs.declared.step.Step.{Step}
use Rattle.zx_reduce.specs.Scaling.{most_steps}
use Rattle.zx_reduce.specs.Internal.Ordering.{Ordered, IsOrdered}

-- the graph with its order, what a sum is times its own, how many steps were done, those that were done once no gate
-- comes any more, whether gates still come, and the groups of gates, where it is asked for them
pub record Progress : Type 0 where
  pub ordered : Ordered
  pub scalar : Scalar
  pub steps : ℕ
  pub trace : List Step
  pub takes_gates : Bool
  pub phases : Option Phases

-- what a step of g does to groups of gates, where it is asked for them
abbrev pub AreFollowed : Graph → calculus.Step → Option Phases → Option Phases → Type 0
AreFollowed g s None after = after ≡ None
AreFollowed g s (Some p) None = ⊥
AreFollowed g s (Some p) (Some q) = IsFollowed g s p q

-- what the phase k of the gate i does to them, which the vertex v holds from now on
abbrev pub AreAdded : ℕ → ℕ → ℕ → Option Phases → Option Phases → Type 0
AreAdded i v k None after = after ≡ None
AreAdded i v k (Some p) None = ⊥
AreAdded i v k (Some p) (Some q) = IsAdded i v k p q

-- the vertex at the output n holds the phase k of the gate i as well
pub record Notes (i n k : ℕ) (p q : Progress) : Type 0 where
  pub same : q ≡ record p { phases = q.phases }
  pub phases : AreAdded i (last_spider p.ordered.graph n) k p.phases q.phases

-- q is p after a step: it splits no end while gates come, and stands in the trace afterwards
pub record IsDone (p : Progress) (s : Step) (q : Progress) : Type 0 where
  pub step : IsStep p.ordered.graph (step_named s) q.ordered.graph
  pub ordered : IsOrdered p.ordered → IsOrdered q.ordered
  pub scalar : q.scalar ≡ product_of_scalars p.scalar (step_scalar p.ordered.graph (step_named s))
  pub count : q.steps ≡ p.steps + 1
  pub trace : p.takes_gates ≡ false → q.trace ≡ p.trace ++ s ∷ []
  pub whole : p.takes_gates ≡ true → is_split (step_named s) ≡ false
  pub takes_gates : q.takes_gates ≡ p.takes_gates
  pub phases : AreFollowed p.ordered.graph (step_named s) p.phases q.phases

-- q is p after these steps, one after the other
abbrev pub AreDone : Progress → List Step → Progress → Type 0
AreDone p [] q = p ≡ q
AreDone p (s ∷ steps) q = (k : Progress) × IsDone p s k × AreDone k steps q

-- no more steps are tried
abbrev pub most_tried : ℕ
most_tried = 2 ^ 51

-- some steps were done, no more than are tried
pub record Tries (p q : Progress) : Type 0 where
  pub steps : List Step
  pub done : AreDone p steps q
  pub few : p.steps ≤ most_tried → q.steps ≤ most_tried

-- the steps of a move were done
pub record Makes (named : List calculus.Step) (p q : Progress) : Type 0 where
  pub steps : List Step
  pub are : map step_named steps ≡ named
  pub done : AreDone p steps q

-- g is given to be simplified, and groups of gates, where it is asked for them
pub record Begins (g : Graph) (groups : Option Phases) (p : Progress) : Type 0 where
  pub graph : p.ordered.graph ≡ g
  pub ordered : IsOrdered p.ordered
  pub scalar : p.scalar ≡ one_scalar
  pub steps : p.steps ≡ 0
  pub trace : p.trace ≡ []
  pub takes_gates : p.takes_gates ≡ false
  pub phases : p.phases ≡ groups

-- after so many steps the scalar is small
pub record IsSmall (steps : ℕ) (s : Scalar) : Type 0 where
  pub small : IsWithin (2 * steps) s
  pub few : steps ≤ most_steps

-- steps were done until no move is left
pub record Exhausts (p q : Progress) : Type 0 where
  pub steps : List Step
  pub done : AreDone p steps q
  pub stuck : IsStuck q.ordered.graph

-- p is reduced: h is its graph, of which the table is a flow, with p's trace and scalar
pub record Finishes (p : Progress) (h : Graph) (table : List Correction) (trace : List Step) (s : Scalar)
    : Type 0 where
  pub graph : h ≡ p.ordered.graph
  pub reduced : IsReduced h
  pub well_formed : WellFormed h
  pub flow : IsFlow h table
  pub kept : trace ≡ p.trace
  pub scalar : s ≡ p.scalar
  pub small : IsSmall p.steps s

-- q is what is left of p once no gate comes any more and steps were done until no move is left
abbrev pub Completes : Progress → Progress → Type 0
Completes p q = Exhausts (record p { takes_gates = false }) q

-- q is what is left of g once steps were done until no move is left
pub record IsCompleted (g : Graph) (groups : Option Phases) (q : Progress) : Type 0 where
  pub begun : Progress
  pub begins : Begins g groups begun
  pub completes : Completes begun q
