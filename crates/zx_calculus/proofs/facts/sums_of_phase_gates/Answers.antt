use Rattle.std.proofs.Common.{true, false}
use Rattle.zx_model.specs.Number.{root_power}
use Rattle.zx_model.proofs.Powers.{root_power-zero}
use Rattle.zx_model.proofs.Ring.{expand}
use Rattle.zx_calculus.specs.Sum.{term}
use Rattle.zx_calculus.proofs.PhaseGateSum.{gadget_at_one}
use Rattle.zx_calculus.proofs.facts.sums_of_phase_gates.Goals as goal

pub returns-clause-spider : goal.returns-clause-spider
returns-clause-spider c k false false = simp (term, expand)
returns-clause-spider c k false true = simp (term, expand)
returns-clause-spider c k true false = simp (term, expand)
returns-clause-spider c k true true = simp (term, expand)

pub returns-clause-gadget : goal.returns-clause-gadget
returns-clause-gadget c k false false = simp (term, expand)
returns-clause-gadget c k false true = simp (term, expand)
returns-clause-gadget c k true false = simp (term, expand)
returns-clause-gadget c k true true = gadget_at_one (root_power 0) (root_power k) root_power-zero
