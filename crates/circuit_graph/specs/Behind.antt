-- A spider that is put behind an output.
use Rattle.std.specs.Prelude.{◌≡◌, ℕ}
use Rattle.zx_calculus.specs.Graph.{Graph, ids}
use Rattle.zx_calculus.specs.Splits.{least_free}
use Rattle.circuit_laws.specs.Peeling.{IsSpiderPeel}

-- t is s with a spider of the least free id behind the output q, which stood at the vertex `here` before
pub record IsSpiderPut (s : Graph) (q here spider : ℕ) (t : Graph) : Type 0 where
  pub peel : IsSpiderPeel t q s
  pub here_is : peel.next ≡ here
  pub spider_is : peel.spider ≡ spider
  pub least : spider ≡ least_free (ids s.vertices)
