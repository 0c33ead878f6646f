-- One spider more, before an end moves to it.
use Rattle.std.specs.Prelude.{◌≡◌, ℕ, false, ◌||◌}
use Rattle.zx_model.specs.Bits.{member}
use Rattle.zx_calculus.specs.Graph.{Graph, ids, joined, insert_vertex}
use Rattle.zx_calculus.specs.Splits.{spider_of_phase_zero}
use Rattle.zx_calculus.specs.Edits.{KeepsEnds, is_pair}

-- h is g with a new XY vertex of phase 0, adjacent to b alone
pub record IsSpiderAdded (g : Graph) (b new : ℕ) (h : Graph) : Type 0 where
  pub fresh : member new (ids g.vertices) ≡ false
  pub vertices : h.vertices ≡ insert_vertex (spider_of_phase_zero new) g.vertices
  pub edges : (p q : ℕ) → joined h.edges p q ≡ (joined g.edges p q || is_pair b new p q)
  pub frame : KeepsEnds g h
