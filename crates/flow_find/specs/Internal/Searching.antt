-- A search as it goes on.
use Rattle.std.specs.Prelude.{◌≡◌, ℕ, Bool, true, false, not, ◌&&◌, ◌||◌, List, length, filter, reverse}
use Rattle.zx_model.specs.Bits.{member}
use Rattle.zx_calculus.specs.Graph.{Graph, WellFormed, Distinct}
use Rattle.gflow_laws.specs.Seen.{seen}
use Rattle.gflow_laws.specs.Flow.{Correction, order_of, set_of, is_in, is_later, Corrects}
use Rattle.flow_find.specs.declared.search.Search.{Search}
use Rattle.flow_find.specs.Frontiers.{IsFrontierOf}
use Rattle.flow_find.specs.Stuck.{IsStuck}

-- the order from a vertex on, and none that is left
abbrev pub goes_after : (ℕ → Bool) → List ℕ → ℕ → ℕ → Bool
goes_after left order v w = not (left w) && is_later order v w

-- the vertices taken so far, the last one first, have their sets, and each stuck vertex is left
pub record IsSearch (g : Graph) (order : List ℕ) (left : ℕ → Bool) (table : List Correction) : Type 0 where
  pub each_once : Distinct order
  pub parts : (w : ℕ) → (left w || member w order) ≡ (member w (seen g).ids && not ((seen g).output w))
  pub apart : (w : ℕ) → member w order ≡ true → left w ≡ false
  pub listed : (w : ℕ) → member w (order_of table) ≡ (member w (seen g).ids && not ((seen g).output w))
  pub corrected : (u : ℕ) → member u order ≡ true → Corrects (seen g) (goes_after left order) u (is_in (set_of table u))
  pub kept : (other : List ℕ) → IsStuck g other → (v : ℕ) → member v other ≡ true → left v ≡ true

-- so far it has come to this
pub record IsUnderWay (g : Graph) (search : Search) : Type 0 where
  pub valid : WellFormed g
  pub taken : IsSearch g (reverse search.order.items) (is_in search.left.ids) search.table.table
  pub frontier : IsFrontierOf (seen g) (is_in search.left.ids) search.rows.items

-- how many vertices are left
abbrev pub left_in : Graph → Search → ℕ
left_in g search = length (filter (is_in search.left.ids) (seen g).ids)
