-- What is told of inputs and outputs, by their side.
use Rattle.std.specs.Prelude.{ℕ, List, Option, Some, None}
use Rattle.open_graph.specs.declared.slot.Slot.{Slot}
use Rattle.open_graph.specs.Internal.Slots.{Told, told_at}
use Rattle.open_graph.specs.Internal.Changes.{Puts}
use Rattle.open_graph.specs.declared.side.Side.{Side}
use Rattle.open_graph.specs.declared.side.Side.TheVariants.{Input, Output}

-- what is told, with another place of the end of a side
abbrev pub with_side_place : Side → Option ℕ → Told → Told
with_side_place Input place t = record t { input = place }
with_side_place Output place t = record t { output = place }

-- the end of a side at a place goes from u to v
abbrev pub Moves : Side → ℕ → ℕ → ℕ → List (Option Slot) → List (Option Slot) → Type 0
Moves side place u v old new =
    (mid : List (Option Slot)) × Puts old mid u (with_side_place side None (told_at old u))
    × Puts mid new v (with_side_place side (Some place) (told_at mid v))
