-- Phases that are added at the vertices of an open graph, and what becomes of them as the graph is rewritten.
-- Kissinger and van de Wetering, "Reducing the number of non-Clifford gates in quantum circuits" (Phys. Rev. A 102,
-- 022406, 2020), on phase teleportation: rewrites are the same whatever the phases are, but for signs.
use Rattle.std.specs.Prelude.{◌≡◌, ◌<◌, ℕ, Bool, false, if◌then◌else◌, not, ◌&&◌, ◌||◌, ◌==◌}
use Rattle.zx_model.specs.Phase.{turn, half_turn, sum_of_phases, opposite_phase}
use Rattle.zx_model.specs.Bits.{member}
use Rattle.zx_calculus.specs.Graph.{Kind, Graph, ids, joined, plane_of, phase_of, neighbours, is_XY, is_XZ, with_kinds}
use Rattle.zx_calculus.specs.Turns.{with_phase_added}
use Rattle.zx_calculus.specs.Gadgets.{first_of_list}
use Rattle.zx_calculus.specs.Steps.{Step, LocalComplement, Delete, Pivot, DropLone}
use Rattle.zx_calculus.specs.Steps.{FuseInto, FuseTwin}

-- each vertex v gains the phase `more v`
abbrev pub add_kind : (ℕ → ℕ) → ℕ → Kind → Kind
add_kind more v kind = with_phase_added (more v) kind

abbrev pub shifted : (ℕ → ℕ) → Graph → Graph
shifted more g = record g { vertices = with_kinds (add_kind more) g.vertices }

-- phases below a turn, and none where there is no vertex
pub record IsShift (g : Graph) (more : ℕ → ℕ) : Type 0 where
  pub below : (v : ℕ) → more v < turn
  pub absent : (v : ℕ) → member v (ids g.vertices) ≡ false → more v ≡ 0

-- the phase, negated or not
abbrev pub signed : Bool → ℕ → ℕ
signed negated k = if negated then opposite_phase k else k

-- Whether a rewrite negates the phase of the vertex v: a neighbour in XZ of the vertex of a local complement, and
-- that vertex itself in XZ; a neighbour, not XY, of a vertex that is deleted with a half turn; a common neighbour, not
-- XY, of the two vertices of a pivot, and each of these two in XZ.
abbrev pub negates : Graph → Step → ℕ → Bool
negates g (LocalComplement u) v = ((v == u) || joined g.edges u v) && is_XZ (plane_of g v)
negates g (Delete u) v = ((phase_of g u == half_turn) && joined g.edges u v) && not (is_XY (plane_of g v))
negates g (Pivot u w) v =
    if (v == u) || (v == w) then is_XZ (plane_of g v)
    else (joined g.edges u v && joined g.edges w v) && not (is_XY (plane_of g v))
negates g other v = false

-- the vertex into which u is fused
abbrev pub into_of : Graph → ℕ → ℕ
into_of g u = first_of_list (neighbours g u)

-- at `into` the sum, at u nothing
abbrev pub joined_phases : ℕ → ℕ → (ℕ → ℕ) → ℕ → ℕ
joined_phases u into more v =
    if v == u then 0 else if v == into then sum_of_phases (more into) (more u) else more v

-- what becomes of phases that are added: a vertex that goes leaves nothing, or hands its own on to the one it is
-- fused into
abbrev pub more_after : Graph → Step → (ℕ → ℕ) → ℕ → ℕ
more_after g (Delete u) more v = if v == u then 0 else signed (negates g (Delete u) v) (more v)
more_after g (DropLone u) more v = if v == u then 0 else more v
more_after g (FuseInto u) more v = joined_phases u (into_of g u) more v
more_after g (FuseTwin u w) more v = joined_phases w u more v
more_after g s more v = signed (negates g s v) (more v)

-- a rewrite looks at one phase alone, that of a vertex which is deleted
abbrev pub IsFree : (ℕ → ℕ) → Step → Type 0
IsFree more (Delete u) = more u ≡ 0
IsFree more other = Unit {0}
