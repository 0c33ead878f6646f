-- Each by its entries.
use Rattle.header_laws.proofs.Definitions as definitions
use Rattle.header_laws.proofs.laws.worked_definitions.Goals as goal

pub returns-clause-i_is_a_root_of_minus_one : goal.returns-clause-i_is_a_root_of_minus_one
returns-clause-i_is_a_root_of_minus_one c = definitions.i_is_a_root_of_minus_one

pub returns-clause-root_of_two_squared : goal.returns-clause-root_of_two_squared
returns-clause-root_of_two_squared c = definitions.root_of_two_squared

pub returns-clause-hadamard_squared : goal.returns-clause-hadamard_squared
returns-clause-hadamard_squared c = definitions.hadamard_squared

pub returns-clause-x_y : goal.returns-clause-x_y
returns-clause-x_y c = definitions.x_y

pub returns-clause-root_of_x_squared : goal.returns-clause-root_of_x_squared
returns-clause-root_of_x_squared c = definitions.root_of_x_squared

pub returns-clause-roots_of_x : goal.returns-clause-roots_of_x
returns-clause-roots_of_x c = definitions.roots_of_x

pub returns-clause-half_turn_x : goal.returns-clause-half_turn_x
returns-clause-half_turn_x c = definitions.half_turn_x

pub returns-clause-half_turn_y : goal.returns-clause-half_turn_y
returns-clause-half_turn_y c = definitions.half_turn_y

pub returns-clause-toffoli : goal.returns-clause-toffoli
returns-clause-toffoli c = definitions.toffoli

pub returns-clause-fredkin : goal.returns-clause-fredkin
returns-clause-fredkin c = definitions.fredkin

pub returns-clause-controlled_z : goal.returns-clause-controlled_z
returns-clause-controlled_z c = definitions.controlled_z
