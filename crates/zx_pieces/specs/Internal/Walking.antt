-- What a walk along a list of gates keeps.
use Rattle.std.specs.Prelude.{◌≡◌, ◌<◌, ℕ, Bool, true, false, List, [], ◌++◌, length, get_or}
use Rattle.zx_gates.specs.declared.gate.Gate.{Gate}
use Rattle.piece_laws.specs.Places.{ArePlaces}
use Rattle.piece_laws.specs.Reordering.{gates_on, IsReordered}
use Rattle.zx_pieces.specs.declared.walking.Walk.{Walk}

-- the piece is on different qubits of the circuit, for each of which there is a flag
pub record IsWide (walk : Walk) : Type 0 where
  pub places : ArePlaces walk.piece.qubits walk.places.items
  pub blocked : length walk.blocked.items ≡ walk.piece.qubits

-- a qubit that isn't blocked has no gate that was passed over
abbrev pub IsBlocking : List Bool → List Gate → Type 0
IsBlocking blocked passed = (q : ℕ) → get_or blocked q true ≡ false → gates_on q passed ≡ []

-- of the gates `seen` these were taken, and these passed over
pub record AreWalked (seen piece passed : List Gate) (blocked : List Bool) : Type 0 where
  pub order : IsReordered seen (piece ++ passed)
  pub blocking : IsBlocking blocked passed
  pub first : length piece ≡ 0 → passed ≡ []
  pub some : 0 < length seen → 0 < length piece

abbrev pub IsWalk : List Gate → Walk → Type 0
IsWalk seen walk = AreWalked seen walk.piece.gates walk.passed.items walk.blocked.items
