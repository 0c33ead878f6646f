-- Where the replacement of pieces stands.
use Rattle.std.specs.Prelude.{◌≡◌, ◌≤◌, ◌+◌, ◌-◌, ℕ, Bool, List, ◌++◌, length, drop}
use Rattle.zx_model.specs.Number.{Number}
use Rattle.zx_model.specs.Scalar.{IsScaled, IsWithin}
use Rattle.zx_model.specs.declared.scalar.Scalar.{Scalar}
use Rattle.zx_gates.specs.Circuit.{Circuit}
use Rattle.zx_gates.specs.Maps.{amp}
use Rattle.zx_gates.specs.declared.gate.Gate.{Gate}
use Rattle.piece_laws.specs.Replacement.{AreScaled, IsReplacement}
use Rattle.zx_pieces.specs.Scaling.{most_root2_of_pass}
use Rattle.zx_pieces.specs.declared.replacing.Work.{Work}

-- what is done, then the gates that were passed over, then those that weren't reached: they replace all of a list of
-- gates on n qubits, whose map is the scalar times theirs
pub record IsAt (n : ℕ) (gates : List Gate) (work : Work) : Type 0 where
  pub qubits : work.done.qubits ≡ n
  pub within : work.next ≤ length gates
  pub all : IsReplacement n gates (work.done.gates ++ (work.passed.items ++ drop work.next gates))
  pub scaled : AreScaled n gates work.scalar (work.done.gates ++ (work.passed.items ++ drop work.next gates))
  pub small : IsWithin most_root2_of_pass work.scalar

-- how many gates are left
abbrev pub left_of : List Gate → Work → ℕ
left_of gates work = length work.passed.items + (length gates - work.next)

-- gates were added that replace a piece on n qubits
pub record Adds (n : ℕ) (before piece after : List Gate) : Type 0 where
  pub new : List Gate
  pub gates : after ≡ before ++ new
  pub replaces : IsReplacement n piece new

-- whatever gates come behind: where a map is s times that with the old gates, it is t times that with the new ones
abbrev pub IsRescaled : ℕ → (old new : List Gate) → Scalar → Scalar → Type 0
IsRescaled n old new s t = (f : List Bool → List Bool → Number) (behind : List Gate) →
    IsScaled n n f s (amp (old ++ behind)) → IsScaled n n f t (amp (new ++ behind))

-- a piece's gates were added to a circuit, or gates that replace them, which turns one scalar into another
pub record AddsScaled (piece before after : Circuit) (s t : Scalar) : Type 0 where
  pub qubits : after.qubits ≡ before.qubits
  pub adds : Adds piece.qubits before.gates piece.gates after.gates
  pub scalar : IsRescaled piece.qubits (before.gates ++ piece.gates) after.gates s t
  pub small : IsWithin most_root2_of_pass t
