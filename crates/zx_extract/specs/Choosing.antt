-- How many rows a set of rows has.
use Rattle.std.specs.Prelude.{ℕ, Bool, List, count_by}

-- how many bits are set
abbrev pub member_count : List Bool → ℕ
member_count set = count_by (λ picked. picked) set
