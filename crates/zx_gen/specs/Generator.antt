-- Circuits from a seed, by the words of PCG32: O'Neill, "PCG: A family of simple fast
-- space-efficient statistically good algorithms for random number generation" (Harvey Mudd College,
-- HMC-CS-2014-0905). How words choose gates is this project's own.
use Rattle.std.specs.Prelude.{ℕ, zero, suc, ◌+◌, ◌-◌, ◌%◌, ◌==◌, ◌&&◌, nat_lt, nat_le}
use Rattle.std.specs.Prelude.{Bool, if◌then◌else◌, List, [], ◌∷◌}
use Rattle.rand_pcg.specs.Lcg.{Lcg, started, increment_of}
use Rattle.rand_pcg.specs.Pcg.{pcg32, multiplier_64}
use Rattle.zx_model.specs.Phase.{quarter_turn, eighth_turn, opposite_phase}
use Rattle.zx_gates.specs.declared.gate.Gate.{Gate}
use Rattle.zx_gates.specs.declared.gate.Gate.TheVariants.{H, Phase, Cz, Cx}

-- the most gates that are asked for
abbrev pub most_drawn_gates : ℕ
most_drawn_gates = 1000000

-- the generator of a seed, on the first of its streams
abbrev pub seeded : ℕ → Lcg
seeded seed = started 64 multiplier_64 seed (increment_of 64 0)

-- The gate on a qubit by its kind: phase gates of an eighth turn, a quarter turn and an eighth turn back, which are
-- T, S and the inverse of T, and else H.
abbrev pub one_qubit_gate : ℕ → ℕ → Gate
one_qubit_gate kind q =
    if kind == 1 then Phase q eighth_turn else
    if kind == 2 then Phase q quarter_turn else
    if kind == 3 then Phase q (opposite_phase eighth_turn) else H q

-- the gate on two qubits by its kind, the first of them the control of a controlled NOT
abbrev pub two_qubit_gate : ℕ → ℕ → ℕ → Gate
two_qubit_gate kind q r = if kind == 4 then Cz q r else Cx q r

-- whether a gate of this kind is on two qubits, where there are n; with one qubit it is an H
abbrev pub is_on_two : ℕ → ℕ → Bool
is_on_two n kind = nat_le 4 kind && nat_le 2 n

-- one of n qubits by a word, but not q
abbrev pub other_qubit : ℕ → ℕ → ℕ → ℕ
other_qubit n q word =
    let r = word % (n - 1) in
    if nat_lt r q then r else r + 1

-- a gate, and the generator after the words that it took
pub record Drawn : Type 0 where
  pub gate : Gate
  pub after : Lcg

-- The next gate on n qubits: a word for its kind, of six; a word for its qubit; and for a gate on
-- two qubits a word for the other one. `pcg32` gives a word, and the generator after it.
unfoldable pub drawn : ℕ → Lcg → Drawn
drawn n generator =
    let first = pcg32 generator in
    let second = pcg32 first.1 in
    let third = pcg32 second.1 in
    let kind = first.0 % 6 in
    let q = second.0 % n in
    if is_on_two n kind
    then record { gate = two_qubit_gate kind q (other_qubit n q third.0); after = third.1 }
    else record { gate = one_qubit_gate kind q; after = second.1 }

-- so many gates on n qubits, the first to act first
abbrev pub next_gates : ℕ → ℕ → Lcg → List Gate
next_gates n zero generator = []
next_gates n (suc count) generator = (drawn n generator).gate ∷ next_gates n count (drawn n generator).after

-- the gates of a seed, so many on n qubits
abbrev pub generated : ℕ → ℕ → ℕ → List Gate
generated seed n count = next_gates n count (seeded seed)
