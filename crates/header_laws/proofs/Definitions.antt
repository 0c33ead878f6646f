-- The definitions in other words, by their entries.
use Rattle.std.specs.Prelude.{◌≡◌, Bool, false, true, ◌&&◌, if◌then◌else◌, List, [], ◌∷◌, length}
use Rattle.std.proofs.Common.{refl, ap, ◌∙◌}
use Rattle.zx_model.specs.Bits.{xor, bit}
use Rattle.zx_model.specs.Cyclotomic.{add_cyclotomic, mul_cyclotomic, neg_cyclotomic}
use Rattle.zx_model.specs.Number.{zero, one, add, neg, mul, sign, root_power}
use Rattle.zx_model.specs.Phase.{half_turn}
use Rattle.zx_model.proofs.Ring.{expand}
use Rattle.zx_model.proofs.Powers.{root_power-half_turn}
use Rattle.zx_gates.specs.Maps.{same_bits, swap_two}
use Rattle.zx_gates.proofs.WorkedLemmas.{each_pair}
use Rattle.zx_model.specs.Constants.{i, two, root_of_two}
use Rattle.header_laws.specs.Gates.{product, identity, pauli_x, pauli_y, pauli_z, hadamard, root_of_x, other_root_of_x, rotation_x, rotation_y, single, controlled}
use Rattle.header_laws.proofs.Certificates.{same_maps}

pub i_is_a_root_of_minus_one : mul i i ≡ neg one
unfolding add mul neg root_power add_cyclotomic mul_cyclotomic neg_cyclotomic
i_is_a_root_of_minus_one = refl

pub root_of_two_squared : mul root_of_two root_of_two ≡ two
unfolding add mul neg root_power add_cyclotomic mul_cyclotomic neg_cyclotomic
root_of_two_squared = refl

pub hadamard_squared : (row column : Bool) → product hadamard hadamard row column ≡ mul two (identity row column)
unfolding add mul neg root_power add_cyclotomic mul_cyclotomic neg_cyclotomic
hadamard_squared = each_pair (λ row column. product hadamard hadamard row column ≡ mul two (identity row column)) refl refl refl refl

pub x_y : (row column : Bool) → product pauli_x pauli_y row column ≡ mul i (pauli_z row column)
x_y false false = simp expand
x_y false true = simp expand
x_y true false = simp expand
x_y true true = simp expand

pub root_of_x_squared : (row column : Bool) → product root_of_x root_of_x row column ≡ mul two (mul two (pauli_x row column))
unfolding add mul neg root_power add_cyclotomic mul_cyclotomic neg_cyclotomic
root_of_x_squared = each_pair (λ row column. product root_of_x root_of_x row column ≡ mul two (mul two (pauli_x row column))) refl refl refl refl

pub roots_of_x : (row column : Bool) → product root_of_x other_root_of_x row column ≡ mul two (mul two (identity row column))
unfolding add mul neg root_power add_cyclotomic mul_cyclotomic neg_cyclotomic
roots_of_x = each_pair (λ row column. product root_of_x other_root_of_x row column ≡ mul two (mul two (identity row column))) refl refl refl refl

-- the rotations at the power of a half turn, which is minus one
pub half_turn_x : (row column : Bool) → rotation_x half_turn row column ≡ mul two (pauli_x row column)
half_turn_x false true = ap (λ r. add one (neg r)) root_power-half_turn ∙ simp expand
half_turn_x true false = ap (λ r. add one (neg r)) root_power-half_turn ∙ simp expand
half_turn_x _ _ = ap (add one) root_power-half_turn ∙ simp expand

pub half_turn_y : (row column : Bool) → rotation_y half_turn row column ≡ mul two (pauli_y row column)
half_turn_y false true = ap (λ r. mul i (add r (neg one))) root_power-half_turn ∙ simp expand
half_turn_y true false = ap (λ r. mul i (add one (neg r))) root_power-half_turn ∙ simp expand
half_turn_y _ _ = ap (add one) root_power-half_turn ∙ simp expand

pub toffoli : (x y : List Bool) → length x ≡ 3 → length y ≡ 3 → controlled one (controlled one (single pauli_x)) x y ≡ (if same_bits (bit x 0 ∷ bit x 1 ∷ xor (bit x 0 && bit x 1) (bit x 2) ∷ []) y then one else zero)
unfolding add mul neg root_power add_cyclotomic mul_cyclotomic neg_cyclotomic
toffoli = same_maps 3 (controlled one (controlled one (single pauli_x))) (λ x y. if same_bits (bit x 0 ∷ bit x 1 ∷ xor (bit x 0 && bit x 1) (bit x 2) ∷ []) y then one else zero) refl

pub fredkin : (x y : List Bool) → length x ≡ 3 → length y ≡ 3 → controlled one swap_two x y ≡ (if same_bits (if bit x 0 then bit x 0 ∷ bit x 2 ∷ bit x 1 ∷ [] else x) y then one else zero)
unfolding add mul neg root_power add_cyclotomic mul_cyclotomic neg_cyclotomic
fredkin = same_maps 3 (controlled one swap_two) (λ x y. if same_bits (if bit x 0 then bit x 0 ∷ bit x 2 ∷ bit x 1 ∷ [] else x) y then one else zero) refl

pub controlled_z : (x y : List Bool) → length x ≡ 3 → length y ≡ 3 → controlled one (controlled one (single pauli_z)) x y ≡ (if same_bits x y then sign (bit x 0 && bit x 1 && bit x 2) else zero)
unfolding add mul neg root_power add_cyclotomic mul_cyclotomic neg_cyclotomic
controlled_z = same_maps 3 (controlled one (controlled one (single pauli_z))) (λ x y. if same_bits x y then sign (bit x 0 && bit x 1 && bit x 2) else zero) refl
