-- What a flow sees of a graph, and what turns do to planes.
use Rattle.std.proofs.Common.{◌≡◌, refl, ℕ, Bool, true, false, cond}
use Rattle.zx_calculus.specs.Graph.{WellFormed, ids, Graph, Plane, XY, YZ, XZ, Kind}
use Rattle.zx_calculus.specs.Turns.{quarter_turned_in, half_turned_in, half_turned}
use Rattle.zx_calculus.proofs.Edges.{joined_comm}
use Rattle.zx_calculus.proofs.Ids.{Distinct-rising}
use Rattle.zx_calculus.proofs.Splitting.{joined-self}
use Rattle.gflow_laws.specs.Correcting.{Simple}
use Rattle.gflow_laws.specs.Seen.{seen, turned_plane}

-- a well-formed graph is simple
pub Simple-seen : (g : Graph) → WellFormed g → Simple (seen g)
Simple-seen g wf = record {
  distinct = Distinct-rising (ids g.vertices) wf.vertices_rising;
  symmetric = joined_comm g.edges;
  no_loop = λ p. joined-self g.edges p wf.edges.lower_first;
}

pub plane-quarter : (p : Plane) (k : ℕ) → (quarter_turned_in p k).plane ≡ turned_plane p
plane-quarter XY k = refl
plane-quarter XZ k = refl
plane-quarter YZ k = refl

plane-half : (p : Plane) (k : ℕ) → (half_turned_in p k).plane ≡ p
plane-half XY k = refl
plane-half XZ k = refl
plane-half YZ k = refl

pub half_kept : (b : Bool) (k : Kind) → (cond b (half_turned k) k).plane ≡ k.plane
half_kept true k = plane-half k.plane k.phase
half_kept false k = refl
