-- What calls without angles come to, as it is kept for the next calls: a private matter of the program.
use Rattle.std.specs.Prelude.{◌≡◌, ℕ, ◌+◌, ◌≤◌, List, [], ◌∷◌, length, Option, None, Some, slice_get, slice_index_or}
use Rattle.qasm_names.specs.declared.gates.CalledGate.{CalledGate}
use Rattle.qasm_names.specs.declared.gates.CalledGate.TheVariants as called_gate
use Rattle.qasm_names.specs.Kept.{gate_count}
use Rattle.qasm_scope.specs.Calls.{Event, Called, applied, call_count, first_wrong}
use Rattle.qasm_scope.specs.Meaning.{most_calls}
use Rattle.qasm_scope.specs.Scope.{Scope}
use Rattle.qasm_unroll.specs.declared.expansions.Expansion.{Expansion}
use Rattle.qasm_unroll.specs.declared.expansions.Known.{Known}
use Rattle.qasm_unroll.specs.declared.expansions.Known.TheVariants as known_call
use Rattle.qasm_unroll.specs.declared.unroll.Unrolled.{Unrolled}
use Rattle.qasm_unroll.specs.Internal.KeptCalls.{Numbered, expand_number}

-- the places of a call's qubits, from 1
abbrev pub places : List ℕ
places = 1 ∷ 2 ∷ 3 ∷ 4 ∷ []

-- the qubit at a place; 0 where there is none
abbrev pub at : List ℕ → ℕ → ℕ
at qubits place = slice_index_or qubits place 0

-- what is known of a gate that is called
abbrev pub known_of : List Known → CalledGate → Option Known
known_of known called_gate.U = None
known_of known called_gate.Cx = None
known_of known (called_gate.Gate number) = slice_get known number

-- what a call of a gate without angles comes to on places for qubits
abbrev pub placed_events : Numbered → ℕ → List Event
placed_events numbered number = Called 1 ∷ numbered number 1 [] places

-- this is what it comes to, with no fault where it makes not too many calls
pub record IsExpansion (numbered : Numbered) (number : ℕ) (kept : Expansion) : Type 0 where
  pub same_gates : applied (placed_events numbered number) ≡ kept.gates
  pub same_calls : call_count (placed_events numbered number) ≡ kept.calls
  pub faultless : (before : ℕ) → before + kept.calls ≤ most_calls
      → first_wrong most_calls before (placed_events numbered number) ≡ None

-- what is known is of the first so many gates, and it is what calls come to
pub record AreKnown (numbered : Numbered) (count : ℕ) (known : List Known) : Type 0 where
  pub few : length known ≤ count
  pub each : (number : ℕ) (kept : Expansion) → slice_get known number ≡ Some (known_call.Kept kept)
      → IsExpansion numbered number kept

-- so it is in a scope
abbrev pub Knows : Scope → Unrolled → Type 0
Knows scope unrolled = AreKnown (expand_number scope) (gate_count scope) unrolled.known.items
