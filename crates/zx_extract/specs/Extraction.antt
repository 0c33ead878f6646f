-- How many gates a graph with a flow is turned into.
-- Backens, Miller-Bakewell, de Felice, Lobski and van de Wetering, "There and back again: a circuit
-- extraction tale" (Quantum 5, 421, 2021), on circuit extraction.
use Rattle.std.specs.Prelude.{ℕ, ◌+◌, ◌-◌, ◌*◌, ◌/◌}

-- The most gates of a graph of n outputs, with p XY vertices that have no output and q vertices that
-- aren't XY. The edges between outputs and the ends of the wires give n*(n-1)/2 + 6n, an XY vertex gives
-- 2n, any other 3n.
abbrev pub most_extracted_gates : ℕ → ℕ → ℕ → ℕ
most_extracted_gates n p q = n * (n - 1) / 2 + 6 * n + 2 * n * p + 3 * n * q
