-- What it says that a rewrite is allowed, fact by fact.
use Rattle.std.proofs.Common.{◌≡◌, ℕ, Bool, true, not, ◌&&◌, eqb}
use Rattle.zx_model.specs.Bits.{member}
use Rattle.zx_calculus.specs.Graph.{YZ, Graph, ids, plane_of, joined, IsVertex, Interior, is_YZ}
use Rattle.zx_calculus.specs.Steps.{allowed, LocalComplement, Delete, Pivot, DropLone, FuseInto, FuseTwin}
use Rattle.zx_calculus.proofs.Ids.{and-left, and-right}
use Rattle.zx_calculus.proofs.Results.{interior_from}
use Rattle.zx_calculus.proofs.Splitting.{plane_YZ}

module _ (g : Graph) where
  pub complement_live : (u : ℕ) → allowed g (LocalComplement u) ≡ true → IsVertex g u
  complement_live u h = and-left _ _ h

  pub complement_interior : (u : ℕ) → allowed g (LocalComplement u) ≡ true → Interior g u
  complement_interior u h = interior_from g u (and-right _ _ h)

  pub delete_live : (u : ℕ) → allowed g (Delete u) ≡ true → IsVertex g u
  delete_live u h = and-left _ _ (and-left _ _ h)

  pub pivot_live : (u v : ℕ) → allowed g (Pivot u v) ≡ true → IsVertex g u
  pivot_live u v h = and-left _ _ (and-left _ _ h)

  pub pivot_live_too : (u v : ℕ) → allowed g (Pivot u v) ≡ true → IsVertex g v
  pivot_live_too u v h = and-right _ _ (and-left _ _ h)

  pub pivot_interior : (u v : ℕ) → allowed g (Pivot u v) ≡ true → Interior g u
  pivot_interior u v h = interior_from g u (and-left _ _ (and-left _ _ (and-right _ _ h)))

  pub pivot_interior_too : (u v : ℕ) → allowed g (Pivot u v) ≡ true → Interior g v
  pivot_interior_too u v h = interior_from g v (and-right _ _ (and-left _ _ (and-right _ _ h)))

  pub pivot_joined : (u v : ℕ) → allowed g (Pivot u v) ≡ true → joined g.edges u v ≡ true
  pivot_joined u v h = and-right _ _ (and-right _ _ h)

  pub drop_lone_live : (u : ℕ) → allowed g (DropLone u) ≡ true → IsVertex g u
  drop_lone_live u h = and-left _ _ (and-left _ _ h)

  pub drop_lone_YZ : (u : ℕ) → allowed g (DropLone u) ≡ true → plane_of g u ≡ YZ
  drop_lone_YZ u h = plane_YZ (plane_of g u) (and-right _ _ (and-left _ _ h))

  pub fuse_into_live : (u : ℕ) → allowed g (FuseInto u) ≡ true → IsVertex g u
  fuse_into_live u h = and-left _ _ (and-left _ _ h)

  pub fuse_into_YZ : (u : ℕ) → allowed g (FuseInto u) ≡ true → plane_of g u ≡ YZ
  fuse_into_YZ u h = plane_YZ (plane_of g u) (and-right _ _ (and-left _ _ h))

  pub fuse_twin_live : (u v : ℕ) → allowed g (FuseTwin u v) ≡ true → IsVertex g v
  fuse_twin_live u v h = and-right _ _ (and-left _ _ (and-left _ _ h))

  pub fuse_twin_YZ : (u v : ℕ) → allowed g (FuseTwin u v) ≡ true → plane_of g v ≡ YZ
  fuse_twin_YZ u v h =
      let vertices : Bool = member u (ids g.vertices) && member v (ids g.vertices) in
      let planes : Bool = is_YZ (plane_of g u) && is_YZ (plane_of g v) in
      let kinds : (vertices && (not (eqb u v) && planes)) ≡ true = and-left _ _ h in
      plane_YZ (plane_of g v) (and-right (is_YZ (plane_of g u)) _ (and-right (not (eqb u v)) planes (and-right vertices _ kinds)))
