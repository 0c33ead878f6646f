-- Numbers with a name of their own.
use Rattle.std.specs.Prelude.{◌+◌}
use Rattle.zx_model.specs.Phase.{quarter_turn, eighth_turn}
use Rattle.zx_model.specs.Number.{Number, one, add, neg, root_power}

abbrev pub two : Number
two = add one one

-- exp(i*pi/2)
abbrev pub i : Number
i = root_power quarter_turn

-- w + w^7, where w = z^2 is exp(i*pi/4), and w^7 = -w^3 = -z^6
abbrev pub root_of_two : Number
root_of_two = add (root_power eighth_turn) (neg (root_power (quarter_turn + eighth_turn)))
