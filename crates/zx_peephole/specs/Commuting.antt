-- Which gates may pass each other.
-- Nam, Ross, Su, Childs and Maslov, "Automated optimization of large quantum circuits with continuous parameters"
-- (npj Quantum Information 4, 23, 2018), on commutation rules.
use Rattle.std.specs.Prelude.{◌==◌, ◌&&◌, ◌||◌, not, ℕ, Bool, true, false}
use Rattle.zx_gates.specs.declared.gate.Gate.{Gate}
use Rattle.zx_gates.specs.declared.gate.Gate.TheVariants.{H, Phase, Cz, Cx, Not}
use Rattle.zx_gates.specs.Counting.{is_phase, is_cz}

-- whether a gate is on the qubit
abbrev pub is_on : ℕ → Gate → Bool
is_on q (H p) = (p == q)
is_on q (Phase p k) = (p == q)
is_on q (Cz p r) = ((p == q) || (r == q))
is_on q (Cx control target) = ((control == q) || (target == q))
is_on q (Not p) = (p == q)

-- whether two gates share no qubit
abbrev pub are_apart : Gate → Gate → Bool
are_apart (H q) other = not (is_on q other)
are_apart (Phase q k) other = not (is_on q other)
are_apart (Cz q r) other = not (is_on q other) && not (is_on r other)
are_apart (Cx control target) other = not (is_on control other) && not (is_on target other)
are_apart (Not q) other = not (is_on q other)

-- whether a gate is a phase gate or Cz
abbrev pub is_diagonal : Gate → Bool
is_diagonal gate = is_phase gate || is_cz gate

-- whether the second is a Cx, and the first is on its control, but not on its target
abbrev pub shares_control : Gate → Gate → Bool
shares_control gate (Cx control target) = is_on control gate && not (is_on target gate)
shares_control gate other = false

-- whether both are Cx, and neither's target is the other's control; or the first is NOT and the second a Cx, and they
-- share the target alone; or both are NOT
abbrev pub negate_freely : Gate → Gate → Bool
negate_freely (Cx control target) (Cx other_control other_target) =
    not (target == other_control) && not (other_target == control)
negate_freely (Not q) (Cx control target) = (q == target) && not (q == control)
negate_freely (Not q) (Not r) = true
negate_freely first second = false

-- the table of commuting gates, but that where it speaks of one and the other, the first is the one
abbrev pub passes : Gate → Gate → Bool
passes first second =
    are_apart first second || (is_diagonal first && (is_diagonal second || shares_control first second))
    || negate_freely first second

-- Whether two gates commute by the table: they share no qubit; or each is a phase gate or Cz; or one is a phase gate
-- or Cz and the other a Cx, and they share its control alone; or both are Cx and neither's target is the other's
-- control; or one is NOT and the other a Cx, and they share its target alone; or both are NOT.
abbrev pub commutes : Gate → Gate → Bool
commutes first second = passes first second || passes second first
