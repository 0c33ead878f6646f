-- What is handed on piece by piece.
use Rattle.std.specs.Prelude.{ℕ, ◌+◌, ◌^◌, ◌<◌, List, length}

-- so many bytes more, and one, are no more than a `usize` counts
abbrev pub HasRoomFor : List ℕ → ℕ → Type 0
HasRoomFor before limit = length before + (limit + 1) < 2 ^ 64
