-- Which spiders of a diagram fuse into one: those that plain edges join, directly or one after the other.
-- van de Wetering, "ZX-calculus for the working quantum computer scientist" (arXiv 2012.13966, 2020), on spider
-- fusion and on graph-like diagrams; Duncan, Kissinger, Perdrix and van de Wetering (Quantum 4, 279, 2020).
use Rattle.std.specs.Prelude.{◌≡◌, ℕ, ◌≤◌, Bool, false, List, slice_index_or}
use Rattle.std.specs.List.{All}
use Rattle.zx_diagram.specs.Diagram.{Diagram}
use Rattle.zx_diagram.specs.Sum.{edge_mark}

-- a test is the same at both ends of each plain edge; an edge is plain where an even number of Hadamards is on it,
-- those of X spiders at its ends counted
abbrev pub IsSameAlong : Diagram → (ℕ → Bool) → Type 0
IsSameAlong d test = All (λ edge. edge_mark d.spiders edge ≡ false → test edge.a ≡ test edge.b) d.edges

-- u and v are of one class: no test that is the same along each plain edge tells them apart
abbrev pub AreFused : Diagram → ℕ → ℕ → Type 0
AreFused d u v = (test : ℕ → Bool) → IsSameAlong d test → test u ≡ test v

-- to each spider the smallest one of its class
pub record NamesClasses (d : Diagram) (least : ℕ → ℕ) : Type 0 where
  pub fused : (u : ℕ) → AreFused d u (least u)
  pub smallest : (u v : ℕ) → AreFused d u v → least u ≤ v

-- the number that a table has for each spider; what isn't a spider keeps its number
abbrev pub named_by : List ℕ → ℕ → ℕ
named_by least u = slice_index_or least u u
