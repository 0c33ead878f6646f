-- The maps of lists of elementary gates as functions, and the scalar by which lowering a gate changes its map.
use Rattle.std.specs.Prelude.{ℕ, ◌+◌, ◌==◌, pos, Bool, List, [], ◌∷◌, if◌then◌else◌}
use Rattle.zx_model.specs.Number.{Number}
use Rattle.zx_model.specs.Phase.{half_turn, quarter_turn, eighth_turn, sum_of_phases, opposite_phase}
use Rattle.zx_model.specs.Scalar.{one_scalar}
use Rattle.zx_model.specs.declared.scalar.Scalar.{Scalar}
use Rattle.zx_gates.specs.declared.elementary.ElementaryGate.{ElementaryGate}
use Rattle.zx_gates.specs.declared.elementary.ElementaryGate.TheVariants.{U, Cx}
use Rattle.zx_gates.specs.ElementaryMaps.{act_elementary}
use Rattle.zx_gates.specs.Internal.Scalars.{scalar}

-- the same through a list of gates
abbrev pub acts_elementary : List ElementaryGate → (List Bool → Number) → List Bool → Number
acts_elementary [] f = f
acts_elementary (gate ∷ gates) f = act_elementary gate (acts_elementary gates f)

-- The scalar that U(a, b, c) is times the gates that stand for it: it is multiplied by 2*exp(i*(a+b+c)/2), and H by the
-- root of two.
abbrev pub unitary_scalar : ℕ → ℕ → Scalar
unitary_scalar a b =
    if a == 0 then scalar (pos 2) 0 else
    if a == quarter_turn then scalar (pos 1) eighth_turn else
    if a == half_turn then scalar (pos 2) (sum_of_phases b quarter_turn) else
    if a == half_turn + quarter_turn then scalar (pos 1) (opposite_phase eighth_turn) else one_scalar

abbrev pub lowering_scalar : ElementaryGate → Scalar
lowering_scalar (U q a b c) = unitary_scalar a b
lowering_scalar (Cx control target) = one_scalar
