-- A gate that stands first.
use Rattle.std.proofs.Common.{subst, sym, ◌∷◌, ◌++◌, []}
use Rattle.qasm_unroll.specs.Circuits.{HasTakenAt, gate_at}
use Rattle.qasm_unroll.proofs.CircuitLemmas.{gate-first, stays-stopped}
use Rattle.qasm_unroll.proofs.circuit.Circuit.begin_gate.Goals as goal

pub returns-in-Empty-clause-begun : goal.returns-in-Empty-clause-begun
returns-in-Empty-clause-begun c = λ program taken any. (
  subst (λ stage. HasTakenAt stage (program ++ gate_at c.args.place any ∷ []) c.args.self.now.names c.args.self.now.measured c.args.self.now.unrolled) (sym c.without_version-self.ensures)
      (gate-first program c.args.self.now.names c.args.self.now.measured c.args.self.now.unrolled c.args.place any
      (subst (λ stage. HasTakenAt stage program c.args.self.now.names c.args.self.now.measured c.args.self.now.unrolled) c.in-Empty.is taken.0)),
  taken.1,
)

pub returns-in-Open-clause-begun : goal.returns-in-Open-clause-begun
returns-in-Open-clause-begun c = λ program taken.
    c.begun.ensures program c.args.place (subst (λ stage. HasTakenAt stage program c.args.self.now.names c.args.self.now.measured c.args.self.now.unrolled) c.in-Open.is taken.0) taken.1

pub returns-in-Stopped-clause-begun : goal.returns-in-Stopped-clause-begun
returns-in-Stopped-clause-begun c = λ program taken any. (
  subst (λ stage. HasTakenAt stage (program ++ gate_at c.args.place any ∷ []) c.args.self.now.names c.args.self.now.measured c.args.self.now.unrolled) (sym c.in-Stopped.is)
      (stays-stopped _ program (gate_at c.args.place any) _ _ _
      (subst (λ stage. HasTakenAt stage program c.args.self.now.names c.args.self.now.measured c.args.self.now.unrolled) c.in-Stopped.is taken.0)),
  taken.1,
)
