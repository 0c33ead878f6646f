-- Sets of vertices none of which is correctable, and the largest of them.
-- Mhalla and Perdrix, "Finding optimal flows efficiently" (ICALP 2008), and Backens,
-- Miller-Bakewell, de Felice, Lobski and van de Wetering, "There and back again: a circuit extraction
-- tale" (Quantum 5, 421, 2021), on maximally delayed generalised flows: they are found from the
-- outputs on, and there is none where vertices are left of which no set corrects any.
use Rattle.std.specs.Prelude.{◌≡◌, ℕ, Bool, true, not, ◌&&◌, List, ltb}
use Rattle.zx_model.specs.Bits.{member}
use Rattle.zx_calculus.specs.Graph.{Graph, in_order}
use Rattle.gflow_laws.specs.Seen.{Seen, seen}
use Rattle.gflow_laws.specs.Flow.{Correction, IsFlow, Corrects}

-- the order in which what is left comes before all that isn't
abbrev pub after_those : (ℕ → Bool) → ℕ → ℕ → Bool
after_those left v w = not (left w)

-- some set meets the conditions of v, where all others that are left come before v's set and before
-- its odd neighbourhood
pub record HasSet (s : Seen) (left : ℕ → Bool) (v : ℕ) : Type 0 where
  pub set : ℕ → Bool
  pub corrects : Corrects s (after_those left) v set

-- vertices without outputs, none of which has such a set
pub record IsStuck (g : Graph) (left : List ℕ) : Type 0 where
  pub non_outputs : (v : ℕ) → member v left ≡ true →
      (member v (seen g).ids && not ((seen g).output v)) ≡ true
  pub uncorrectable : (v : ℕ) → member v left ≡ true → HasSet (seen g) (λ w. member w left) v → ⊥

-- it is stuck, and has all vertices of each set that is; they stand by rising id
pub record IsLargestStuck (g : Graph) (left : List ℕ) : Type 0 where
  pub stuck : IsStuck g left
  pub holds : (other : List ℕ) → IsStuck g other → (v : ℕ) → member v other ≡ true → member v left ≡ true
  pub rising : in_order ltb left ≡ true

-- some table is a flow of the graph
pub record HasFlow (g : Graph) : Type 0 where
  pub table : List Correction
  pub flow : IsFlow g table
