-- How a count of faults tells what caused an answer.
use Rattle.std.specs.Prelude.{ℕ, ◌+◌, ◌-◌, ◌^◌, ◌≤◌, min}

-- the greatest number that a count reaches: there it stands still
abbrev pub greatest_count : ℕ
greatest_count = 2 ^ 64 - 1

-- a count after one more
abbrev pub counted : ℕ → ℕ
counted n = min (n + 1) greatest_count

-- the count rose; of a count that stood at its end already, this says nothing
abbrev pub Rose : ℕ → ℕ → Type 0
Rose before now = counted before ≤ now
