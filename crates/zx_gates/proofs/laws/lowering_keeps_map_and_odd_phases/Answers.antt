-- Both by induction over the gates.
use Rattle.zx_gates.proofs.LoweringLemmas.{proportional_lowered, odd_lowered}
use Rattle.zx_gates.proofs.laws.lowering_keeps_map_and_odd_phases.Goals as goal

pub returns-clause-map : goal.returns-clause-map
returns-clause-map c = proportional_lowered

pub returns-clause-odd : goal.returns-clause-odd
returns-clause-odd c = odd_lowered
