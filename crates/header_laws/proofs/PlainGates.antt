-- What calls of gates without angles come to, and the maps of that, by computing.
use Rattle.std.specs.Prelude.{◌≡◌, ℕ, ◌+◌, Bool, true, false, List, [], ◌∷◌, ◌++◌, map, length, codes, Option, None}
use Rattle.std.specs.List.{list_all}
use Rattle.std.proofs.Common.{refl, ap}
use Rattle.std.proofs.lemmas.Bool.{and_parts}
use Rattle.zx_model.specs.Constants.{root_of_two}
use Rattle.zx_model.specs.Cyclotomic.{add_cyclotomic, mul_cyclotomic, neg_cyclotomic}
use Rattle.zx_model.specs.Number.{one, add, mul, neg, root_power}
use Rattle.zx_model.specs.Phase.{half_turn, quarter_turn, eighth_turn, opposite_phase}
use Rattle.zx_gates.specs.declared.elementary.ElementaryGate.{ElementaryGate}
use Rattle.zx_gates.specs.declared.elementary.ElementaryGate.TheVariants.{U, Cx}
use Rattle.zx_gates.specs.Maps.{phase, swap_two}
use Rattle.qasm_angle.specs.Ratio.{gcd, lowest, limited}
use Rattle.qasm_angle.specs.Sixteenths.{phase_of_angle}
use Rattle.qasm_angle.specs.Literals.{literal_value, decimal}
use Rattle.qasm_angle.specs.Values as values
use Rattle.qasm_scope.specs.Angles.{angle_of}
use Rattle.qasm_scope.specs.declared.causes.Cause.{Cause}
use Rattle.qasm_scope.specs.Calls.{applied, first_wrong}
use Rattle.qasm_scope.specs.Meaning.{most_calls, with_header}
use Rattle.header_laws.specs.Calls.{header_events, HasMap}
use Rattle.header_laws.specs.Gates.{Map, identity, pauli_x, pauli_y, pauli_z, hadamard, root_of_x, other_root_of_x, single, controlled}
use Rattle.header_laws.proofs.Comes.{has_map}
use Rattle.header_laws.proofs.Certificates.{certificate, certified}

-- a gate on qubits, the built-in gates that a call of it comes to, its map, and a column in which the map's first row
-- isn't 0
pub record Plain : Type 0 where
  pub name : List ℕ
  pub qubits : List ℕ
  pub gates : List ElementaryGate
  pub meant : Map
  pub column : List Bool

abbrev plain : List ℕ → List ℕ → List ElementaryGate → Map → List Bool → Plain
plain name qubits gates meant column = record { name = name; qubits = qubits; gates = gates; meant = meant; column = column }

-- what is wrong with a call, and what it comes to
abbrev come : Plain → Option Cause × List ElementaryGate
come g = (first_wrong most_calls 0 (header_events g.name [] g.qubits), applied (header_events g.name [] g.qubits))

abbrev row : Plain → List Bool
row g = map (λ q. false) g.qubits

abbrev computes : Plain → Bool
computes g = certificate (length g.qubits) g.gates g.meant g.column (row g)

abbrev pub Have : List Plain → Type 0
Have [] = Unit {0}
Have (g ∷ gs) = HasMap g.name [] g.qubits g.meant × Have gs

have : (gs : List Plain) → map come gs ≡ map (λ g. (None, g.gates)) gs → list_all computes gs ≡ true → Have gs
have [] e f = tt
have (g ∷ gs) e f =
    let here : come g ≡ (None, g.gates) = cc in
    let later : map come gs ≡ map (λ g. (None, g.gates)) gs = cc in
    let p : (computes g ≡ true) × (list_all computes gs ≡ true) = and_parts (computes g) (list_all computes gs) f in (
      has_map (record { faultless = ap (λ x. x.0) here; same = ap (λ x. x.1) here }) (certified (record { column = g.column; row = row g; computes = p.0 })),
      have gs later p.1,
    )

-- ---- gates on a qubit, as they come to U
abbrev h_on : ℕ → ElementaryGate
h_on q = U q quarter_turn 0 half_turn

abbrev s_on : ℕ → ElementaryGate
s_on q = U q 0 0 quarter_turn

abbrev sdg_on : ℕ → ElementaryGate
sdg_on q = U q 0 0 (half_turn + quarter_turn)

abbrev t_on : ℕ → ElementaryGate
t_on q = U q 0 0 eighth_turn

abbrev tdg_on : ℕ → ElementaryGate
tdg_on q = U q 0 0 (opposite_phase eighth_turn)

abbrev toffoli : List ElementaryGate
toffoli = h_on 2 ∷ Cx 1 2 ∷ tdg_on 2 ∷ Cx 0 2 ∷ t_on 2 ∷ Cx 1 2 ∷ tdg_on 2 ∷ Cx 0 2 ∷ t_on 1 ∷ t_on 2 ∷ h_on 2 ∷ Cx 0 1 ∷ t_on 0 ∷ tdg_on 1 ∷ Cx 0 1 ∷ []

-- ---- the gates
abbrev pub gates : List Plain
gates =
    plain (codes "id") (0 ∷ []) (U 0 0 0 0 ∷ []) (single identity) (false ∷ [])
    ∷ plain (codes "x") (0 ∷ []) (U 0 half_turn 0 half_turn ∷ []) (single pauli_x) (true ∷ [])
    ∷ plain (codes "y") (0 ∷ []) (U 0 half_turn quarter_turn quarter_turn ∷ []) (single pauli_y) (true ∷ [])
    ∷ plain (codes "z") (0 ∷ []) (U 0 0 0 half_turn ∷ []) (single pauli_z) (false ∷ [])
    ∷ plain (codes "h") (0 ∷ []) (h_on 0 ∷ []) (single hadamard) (false ∷ [])
    ∷ plain (codes "s") (0 ∷ []) (s_on 0 ∷ []) (single (phase quarter_turn)) (false ∷ [])
    ∷ plain (codes "sdg") (0 ∷ []) (sdg_on 0 ∷ []) (single (phase (half_turn + quarter_turn))) (false ∷ [])
    ∷ plain (codes "t") (0 ∷ []) (t_on 0 ∷ []) (single (phase eighth_turn)) (false ∷ [])
    ∷ plain (codes "tdg") (0 ∷ []) (tdg_on 0 ∷ []) (single (phase (opposite_phase eighth_turn))) (false ∷ [])
    ∷ plain (codes "sx") (0 ∷ []) (sdg_on 0 ∷ h_on 0 ∷ sdg_on 0 ∷ []) (single root_of_x) (false ∷ [])
    ∷ plain (codes "sxdg") (0 ∷ []) (s_on 0 ∷ h_on 0 ∷ s_on 0 ∷ []) (single other_root_of_x) (false ∷ [])
    ∷ plain (codes "cx") (0 ∷ 1 ∷ []) (Cx 0 1 ∷ []) (controlled one (single pauli_x)) (false ∷ false ∷ [])
    ∷ plain (codes "cy") (0 ∷ 1 ∷ []) (sdg_on 1 ∷ Cx 0 1 ∷ s_on 1 ∷ []) (controlled one (single pauli_y)) (false ∷ false ∷ [])
    ∷ plain (codes "cz") (0 ∷ 1 ∷ []) (h_on 1 ∷ Cx 0 1 ∷ h_on 1 ∷ []) (controlled one (single pauli_z)) (false ∷ false ∷ [])
    ∷ plain (codes "ch") (0 ∷ 1 ∷ []) (h_on 1 ∷ sdg_on 1 ∷ Cx 0 1 ∷ h_on 1 ∷ t_on 1 ∷ Cx 0 1 ∷ t_on 1 ∷ h_on 1 ∷ s_on 1 ∷ U 1 half_turn 0 half_turn ∷ s_on 0 ∷ []) (controlled root_of_two (single hadamard)) (false ∷ false ∷ [])
    ∷ plain (codes "swap") (0 ∷ 1 ∷ []) (Cx 0 1 ∷ Cx 1 0 ∷ Cx 0 1 ∷ []) swap_two (false ∷ false ∷ [])
    ∷ plain (codes "ccx") (0 ∷ 1 ∷ 2 ∷ []) toffoli (controlled one (controlled one (single pauli_x))) (false ∷ false ∷ false ∷ [])
    ∷ plain (codes "cswap") (0 ∷ 1 ∷ 2 ∷ []) (Cx 2 1 ∷ toffoli ++ Cx 2 1 ∷ []) (controlled one swap_two) (false ∷ false ∷ false ∷ [])
    ∷ plain (codes "ccz") (0 ∷ 1 ∷ 2 ∷ []) (h_on 2 ∷ toffoli ++ h_on 2 ∷ []) (controlled one (controlled one (single pauli_z))) (false ∷ false ∷ false ∷ [])
    ∷ []

they_come : map come gates ≡ map (λ g. (None, g.gates)) gates
unfolding with_header angle_of values.applied gcd lowest limited phase_of_angle literal_value decimal
they_come = refl

they_compute : list_all computes gates ≡ true
unfolding add mul neg root_power add_cyclotomic mul_cyclotomic neg_cyclotomic
they_compute = refl

pub they_have : Have gates
they_have = have gates they_come they_compute
