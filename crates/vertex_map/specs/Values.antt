-- Values by number: those of a list, and behind its end absent ones.
use Rattle.std.specs.Prelude.{ℕ, List, slice_index_or}

-- the value at a number: that of the list, and behind its end the absent one
abbrev pub value_at : {A : Type 0} → (ℕ → A) → List A → ℕ → A
value_at absent values n = slice_index_or values n (absent n)
