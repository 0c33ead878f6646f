-- Flows with sets and orders as functions, for proofs, and when two views of graphs agree.
use Rattle.std.specs.Prelude.{◌≡◌, ℕ, Bool, true, false, not, ◌&&◌, List}
use Rattle.zx_model.specs.Bits.{member}
pub use Rattle.zx_calculus.specs.Graph.{Distinct}
use Rattle.gflow_laws.specs.Seen.{Seen}
use Rattle.gflow_laws.specs.Flow.{Correction, order_of, set_of, is_in, is_later, Corrects}

-- a simple graph
pub record Simple (s : Seen) : Type 0 where
  pub distinct : Distinct s.ids
  pub symmetric : (p q : ℕ) → s.adjacent p q ≡ s.adjacent q p
  pub no_loop : (p : ℕ) → s.adjacent p p ≡ false

-- a strict order
pub record Strict (before : ℕ → ℕ → Bool) : Type 0 where
  pub transitive : (u v w : ℕ) → before u v ≡ true → before v w ≡ true → before u w ≡ true
  pub irreflexive : (v : ℕ) → before v v ≡ false

-- two views agree on the vertices
pub record Alike (s t : Seen) : Type 0 where
  pub ids : (v : ℕ) → member v s.ids ≡ member v t.ids
  pub adjacent : (p q : ℕ) → member p s.ids ≡ true → member q s.ids ≡ true → s.adjacent p q ≡ t.adjacent p q
  pub plane : (v : ℕ) → member v s.ids ≡ true → s.plane v ≡ t.plane v
  pub input : (v : ℕ) → member v s.ids ≡ true → s.input v ≡ t.input v
  pub output : (v : ℕ) → member v s.ids ≡ true → s.output v ≡ t.output v

-- the flow conditions, with the sets as functions: the same as `IsFlowOf`
pub record FlowAsFunctions (s : Seen) (table : List Correction) : Type 0 where
  pub each_once : Distinct (order_of table)
  pub non_outputs : (v : ℕ) → member v (order_of table) ≡ (member v s.ids && not (s.output v))
  pub corrects : (v : ℕ) → member v (order_of table) ≡ true →
      Corrects s (is_later (order_of table)) v (is_in (set_of table v))
