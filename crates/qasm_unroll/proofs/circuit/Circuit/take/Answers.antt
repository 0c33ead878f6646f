-- One statement more, at each stage.
use Rattle.std.proofs.Common.{◌++◌, ◌∷◌, [], sym, subst}
use Rattle.qasm_reader.specs.Views.{placed}
use Rattle.qasm_unroll.specs.Circuits.{HasTakenAt}
use Rattle.qasm_unroll.proofs.CircuitLemmas.{first-taken, stays-stopped}
use Rattle.qasm_unroll.proofs.circuit.Circuit.take.Goals as goal

pub returns-in-Empty : goal.returns-in-Empty
returns-in-Empty c = λ program taken. (
  first-taken (placed c.args.statement.now) _ program _ _ _ c.after_first-self.ensures
      (subst (λ stage. HasTakenAt stage program c.args.self.now.names c.args.self.now.measured c.args.self.now.unrolled) c.in-Empty.is taken.0),
  taken.1,
)

pub returns-in-Open : goal.returns-in-Open
returns-in-Open c = λ program taken. (
  c.after_next-self.ensures.stage program (subst (λ stage. HasTakenAt stage program c.args.self.now.names c.args.self.now.measured c.args.self.now.unrolled) c.in-Open.is taken.0),
  c.after_next-self.ensures.recent taken.1,
)

pub returns-in-Stopped : goal.returns-in-Stopped
returns-in-Stopped c = λ program taken. (
  subst (λ stage. HasTakenAt stage (program ++ placed c.args.statement.now ∷ []) c.args.self.now.names c.args.self.now.measured c.args.self.now.unrolled) (sym c.in-Stopped.is)
      (stays-stopped _ program (placed c.args.statement.now) _ _ _
      (subst (λ stage. HasTakenAt stage program c.args.self.now.names c.args.self.now.measured c.args.self.now.unrolled) c.in-Stopped.is taken.0)),
  taken.1,
)
