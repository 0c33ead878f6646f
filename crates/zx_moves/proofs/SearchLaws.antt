-- Which rewrites are allowed where a move applies.
use Rattle.std.proofs.Common.{◌≡◌, ◌≢◌, refl, ap, ℕ, true, false, ◌&&◌, List, [], ◌∷◌, length}
use Rattle.zx_model.specs.Bits.{member}
use Rattle.zx_calculus.specs.Graph.{Plane, XY, XZ, YZ, Graph, ids, is_XY, plane_of, joined, neighbours, IsVertex, WellFormed, is_YZ, is_interior}
use Rattle.zx_calculus.specs.Steps.{allowed}
use Rattle.zx_calculus.specs.Gadgets.{is_one_XY, is_empty}
use Rattle.zx_calculus.specs.Moves.{IsInXZ, IsGadgetPair, IsGadgetOf, AreTwins}
use Rattle.zx_calculus.specs.Steps as calculus
use Rattle.zx_calculus.proofs.Ids.{by_test, member-here}
use Rattle.zx_calculus.proofs.Kept.{both}
use Rattle.zx_moves.proofs.SearchTests.{live_near, joined_near, near_joined}

pub complement_allowed : (g : Graph) (u : ℕ) → IsVertex g u → is_interior g u ≡ true → allowed g (calculus.LocalComplement u) ≡ true
complement_allowed g u there i = both (member u (ids g.vertices)) (is_interior g u) there i

empty_of : (xs : List ℕ) → length xs ≡ 0 → is_empty xs ≡ true
empty_of [] e = refl
empty_of (x ∷ xs) e = cc

pub lone_allowed : (g : Graph) (u : ℕ) → IsGadgetOf g u 0 → allowed g (calculus.DropLone u) ≡ true
lone_allowed g u a =
    both (member u (ids g.vertices) && is_YZ (plane_of g u)) (is_empty (neighbours g u))
    (both (member u (ids g.vertices)) (is_YZ (plane_of g u)) a.there (ap is_YZ a.plane)) (empty_of (neighbours g u) a.legs)

-- the plane of the one neighbour, where it is neither XZ nor YZ
one_XY : (g : Graph) (xs : List ℕ) → length xs ≡ 1 → ((v : ℕ) → member v xs ≡ true → plane_of g v ≢ XZ)
    → ((v : ℕ) → member v xs ≡ true → plane_of g v ≢ YZ) → is_one_XY g xs ≡ true
one_XY g [] e xz yz = cc
one_XY g (v ∷ []) e xz yz = only (plane_of g v) (xz v (member-here v [])) (yz v (member-here v []))
  where
    only : (plane : Plane) → plane ≢ XZ → plane ≢ YZ → is_XY plane ≡ true
    only XY n m = refl
    only XZ n m = absurd (n refl)
    only YZ n m = absurd (m refl)
one_XY g (v ∷ (y ∷ ys)) e xz yz = cc

-- where no two gadgets are adjacent, twins aren't
pub apart_where : (g : Graph) (u v : ℕ) → AreTwins g u v → ¬ IsGadgetPair g u v → joined g.edges u v ≡ false
apart_where g u v a none =
    by_test (joined g.edges u v)
    (λ t. absurd (none (record {
      there = a.there;
      there_too = a.there_too;
      plane = a.plane;
      plane_too = a.plane_too;
      adjacent = t;
    })))
    (λ f. f)

module _ (g : Graph) (w : WellFormed g) where
  pub pivot_allowed : (u v : ℕ) → IsVertex g u → is_interior g u ≡ true → is_interior g v ≡ true → joined g.edges u v ≡ true
      → allowed g (calculus.Pivot u v) ≡ true
  pivot_allowed u v there i j e =
      both (member u (ids g.vertices) && member v (ids g.vertices)) ((is_interior g u && is_interior g v) && joined g.edges u v)
      (both (member u (ids g.vertices)) (member v (ids g.vertices)) there (live_near g u v (near_joined g w u v e)))
      (both (is_interior g u && is_interior g v) (joined g.edges u v) (both (is_interior g u) (is_interior g v) i j) e)

  -- where there is no XZ vertex, and no two gadgets are adjacent
  pub single_allowed : (u : ℕ) → IsGadgetOf g u 1 → ((v : ℕ) → ¬ IsInXZ g v) → ((v : ℕ) → ¬ IsGadgetPair g u v)
      → allowed g (calculus.FuseInto u) ≡ true
  single_allowed u a no_XZ no_pair =
      both (member u (ids g.vertices) && is_YZ (plane_of g u)) (is_one_XY g (neighbours g u))
      (both (member u (ids g.vertices)) (is_YZ (plane_of g u)) a.there (ap is_YZ a.plane))
      (one_XY g (neighbours g u) a.legs
      (λ v near e. no_XZ v (record { there = live_near g u v near; plane = e }))
      (λ v near e. no_pair v (record {
        there = a.there;
        there_too = live_near g u v near;
        plane = a.plane;
        plane_too = e;
        adjacent = joined_near g w u v near;
      })))
