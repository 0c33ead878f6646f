-- The memory that a graph or a flow has.
use Rattle.std.specs.Prelude.{◌≡◌, ◌≤◌, ◌+◌, ◌-◌, ℕ}

-- places for so many vertices more; and edges between vertices with ids below the reach, or sets of such vertices,
-- change without memory
pub record Room : Type 0 where
  pub spare : ℕ
  pub reach : ℕ

-- a place for a vertex fewer, and one more
abbrev pub without_place : Room → Room
without_place room = record room { spare = room.spare - 1 }

abbrev pub with_place : Room → Room
with_place room = record room { spare = room.spare + 1 }

-- the places are no fewer, and the reach is the same
pub record IsLeft (old new : Room) : Type 0 where
  pub spare : old.spare ≤ new.spare
  pub reach : new.reach ≡ old.reach

-- neither the places nor the reach are less
pub record IsAtLeast (old new : Room) : Type 0 where
  pub spare : old.spare ≤ new.spare
  pub reach : old.reach ≤ new.reach
