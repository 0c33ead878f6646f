-- The linear map of a circuit of elementary gates, the first gate acting first, as Maps.antt has it for other circuits.
-- The matrices are those of Cross, Bishop, Smolin and Gambetta, "Open quantum assembly language" (arXiv 1707.03429), of
-- which U is multiplied by 2*exp(i*(theta+phi+lambda)/2) here.
use Rattle.std.specs.Prelude.{ℕ, ◌+◌, Bool, true, false, if◌then◌else◌, List, [], ◌∷◌, slice_set}
use Rattle.zx_model.specs.Phase.{half_turn, quarter_turn}
use Rattle.zx_model.specs.Number.{Number, zero, one, add, neg, mul, root_power}
use Rattle.zx_model.specs.Bits.{xor, bit}
use Rattle.zx_gates.specs.Maps.{Matrix, act_on, same_bits}
use Rattle.zx_gates.specs.declared.elementary.ElementaryGate.{ElementaryGate}
use Rattle.zx_gates.specs.declared.elementary.ElementaryGate.TheVariants.{U, Cx}

-- U(a, b, c), its angles in sixteenth turns:
-- 1 + z^a               z^(c+4)*(z^a - 1)
-- z^(b+12)*(z^a - 1)    z^(b+c)*(1 + z^a)
-- This is the published matrix, times 2*exp(i*(a+b+c)/2) as above; z^4 is i, and z^12 is -i.
abbrev pub unitary : ℕ → ℕ → ℕ → Matrix
unitary a b c false false = add one (root_power a)
unitary a b c false true = mul (root_power (c + quarter_turn)) (add (root_power a) (neg one))
unitary a b c true false = mul (root_power (b + (half_turn + quarter_turn))) (add (root_power a) (neg one))
unitary a b c true true = mul (root_power (b + c)) (add one (root_power a))

-- What follows a gate is a function f of the bits after it. Before the gate it is this function.
abbrev pub act_elementary : ElementaryGate → (List Bool → Number) → List Bool → Number
act_elementary (U q theta phi lambda) f x = act_on (unitary theta phi lambda) q f x
-- the control's bit is added to the target's
act_elementary (Cx control target) f x = f (slice_set x target (xor (bit x control) (bit x target)))

-- The entry of a circuit's matrix at the column x and the row y, the bits of the qubits before and after it.
abbrev pub amp_elementary : List ElementaryGate → List Bool → List Bool → Number
amp_elementary [] x y = if same_bits x y then one else zero
amp_elementary (gate ∷ gates) x y = act_elementary gate (λ z. amp_elementary gates z y) x
