-- The failure of a command's part is that of the command that was given.
use Rattle.std.proofs.Common.{◌≡◌, sym, subst, Some, Result, IfErr}
use Rattle.zx_words.specs.declared.words.Command.{Command}
use Rattle.zx_run.specs.declared.status.Status.{Status}
use Rattle.zx_run.specs.Answers.{ToldSource, IsFailure}
use Rattle.zx_run.proofs.program.made.Goals as goal

failed : {T : Type 0} (result : Result T Status) (given part : Command) (before after : ToldSource) → given ≡ part
    → IfErr result (IsFailure (Some part) before after) → IfErr result (IsFailure (Some given) before after)
failed result given part before after is = subst (λ command. IfErr result (IsFailure (Some command) before after)) (sym is)

pub returns-in-Optimise-clause-failure : goal.returns-in-Optimise-clause-failure
returns-in-Optimise-clause-failure g c = failed _ _ _ _ _ c.in-Optimise.is c.output_of_opt.ensures.failure

pub returns-in-Teleport-clause-failure : goal.returns-in-Teleport-clause-failure
returns-in-Teleport-clause-failure g c = failed _ _ _ _ _ c.in-Teleport.is c.output_of_teleport.ensures.failure

pub returns-in-Reduce-clause-failure : goal.returns-in-Reduce-clause-failure
returns-in-Reduce-clause-failure g c = failed _ _ _ _ _ c.in-Reduce.is c.output_of_reduce.ensures.failure

pub returns-in-Flow-clause-failure : goal.returns-in-Flow-clause-failure
returns-in-Flow-clause-failure g c = failed _ _ _ _ _ c.in-Flow.is c.output_of_flow.ensures.failure

pub returns-in-Graph-clause-failure : goal.returns-in-Graph-clause-failure
returns-in-Graph-clause-failure g c = failed _ _ _ _ _ c.in-Graph.is c.output_of_graph.ensures.failure

pub returns-in-Compile-clause-failure : goal.returns-in-Compile-clause-failure
returns-in-Compile-clause-failure g c = failed _ _ _ _ _ c.in-Compile.is c.output_of_compile.ensures.failure

pub returns-in-Same-clause-failure : goal.returns-in-Same-clause-failure
returns-in-Same-clause-failure g c = failed _ _ _ _ _ c.in-Same.is c.output_of_same.ensures.failure
