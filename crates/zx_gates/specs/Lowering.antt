-- Elementary gates by the gates that the optimiser works on.
use Rattle.std.specs.Prelude.{ℕ, ◌+◌, ◌++◌, ◌==◌, List, [], ◌∷◌, if◌then◌else◌}
use Rattle.std.specs.List.{flat_map}
use Rattle.zx_model.specs.Phase.{half_turn, quarter_turn, sum_of_phases, opposite_phase}
use Rattle.zx_gates.specs.declared.gate.Gate.{Gate}
use Rattle.zx_gates.specs.declared.gate.Gate.TheVariants.{H, Phase, Not}
use Rattle.zx_gates.specs.declared.gate.Gate.TheVariants as gates
use Rattle.zx_gates.specs.declared.elementary.ElementaryGate.{ElementaryGate}
use Rattle.zx_gates.specs.declared.elementary.ElementaryGate.TheVariants.{U, Cx}
use Rattle.zx_gates.specs.Elementary.{difference_of_phases}

-- the phase gate as a list, empty where the phase is 0
abbrev pub phase_gates : ℕ → ℕ → List Gate
phase_gates q k = if k == 0 then [] else Phase q k ∷ []

-- The gates that stand for one, the first to act first. U(a, b, c) is P(c - pi/2), H, P(a), H, P(b + pi/2), where P is
-- the phase gate; where a is a whole number of quarter turns, there is a shorter list.
abbrev pub lowered_gate : ElementaryGate → List Gate
lowered_gate (U q a b c) =
    if a == 0 then phase_gates q (sum_of_phases b c) else
    if a == quarter_turn then phase_gates q (sum_of_phases c half_turn) ++ H q ∷ phase_gates q b else
    if a == half_turn then phase_gates q (sum_of_phases (difference_of_phases c b) half_turn) ++ Not q ∷ [] else
    if a == half_turn + quarter_turn then phase_gates q c ++ H q ∷ phase_gates q (sum_of_phases b half_turn) else
    phase_gates q (sum_of_phases c (opposite_phase quarter_turn)) ++ H q ∷
    phase_gates q a ++ H q ∷ phase_gates q (sum_of_phases b quarter_turn)
lowered_gate (Cx control target) = gates.Cx control target ∷ []

abbrev pub lowered : List ElementaryGate → List Gate
lowered list = flat_map lowered_gate list
