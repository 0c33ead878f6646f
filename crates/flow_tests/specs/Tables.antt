-- What tables of corrections of a graph have to be.
use Rattle.std.specs.Prelude.{ℕ, Bool, not, ◌&&◌, ◌||◌, List}
use Rattle.std.specs.List.{list_all}
use Rattle.zx_model.specs.Bits.{member}
use Rattle.gflow_laws.specs.Seen.{Seen}
use Rattle.gflow_laws.specs.Flow.{Correction, order_of, set_of}

-- v is a vertex and not an output
abbrev pub is_non_output : Seen → ℕ → Bool
is_non_output s v = member v s.ids && not (s.output v)

-- v stands in the order, is such a vertex, and its set holds vertices alone
abbrev pub is_entry : Seen → List Correction → ℕ → Bool
is_entry s table v =
    member v (order_of table) && (is_non_output s v && list_all (λ w. member w s.ids) (set_of table v))

-- v stands in the order where it is such a vertex
abbrev pub is_placed : Seen → List ℕ → ℕ → Bool
is_placed s order v = not (is_non_output s v) || member v order
