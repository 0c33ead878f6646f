use Rattle.std.proofs.Common.{◌≡◌, [], reverse, drop}
use Rattle.qasm_angle.proofs.EvaluationLemmas.{run}
use Rattle.qasm_angle.proofs.evaluation.angle_of.Given as goal

abbrev pub invariant-loop-step : goal.invariant-loop-step
invariant-loop-step l = run l.args (drop l.step-index l.before) (reverse l.angles.items) ≡ run l.args l.before []
