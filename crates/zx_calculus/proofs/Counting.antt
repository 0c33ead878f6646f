-- What turns do to the counts of vertices.
use Rattle.std.proofs.Common.{◌≡◌, ◌≢◌, refl, sym, ◌∙◌, ap, ap₂, ℕ, ◌+◌, ◌<◌, Bool, true, false, cond, not, ◌&&◌, ◌||◌, eqb, List, [], ◌∷◌, arith}
use Rattle.zx_model.specs.Phase.{is_odd, turn}
use Rattle.zx_model.specs.Bits.{member}
use Rattle.zx_model.proofs.Odd.{is_odd-sum_quarter, is_odd-opposite, is_odd-sum_half}
use Rattle.zx_calculus.specs.Graph.{is_XY, is_interior, Graph, end_vertices, Kind, YZ, Plane, XY, XZ, kind_of, ids, with_kinds, Vertex, WellFormed, plane_of, without}
use Rattle.zx_calculus.specs.Counts.{even_interior}
use Rattle.zx_calculus.specs.Edits.{KeepsEnds}
use Rattle.zx_calculus.specs.Turns.{quarter_turned_in, half_turned_in}
use Rattle.zx_calculus.proofs.CountLemmas.{Test, count, count-with_kinds, count_same}
use Rattle.zx_calculus.proofs.Ids.{Distinct, by_test}
use Rattle.zx_calculus.proofs.Vertices.{phase-kind_of, list_all-without}
use Rattle.zx_calculus.proofs.Results.{interior_true}
use Rattle.zx_calculus.proofs.Splitting.{interior_of, off_XY}

abbrev pub odd_test : Test
odd_test p k = is_odd k.phase

abbrev pub plane_test : Test
plane_test p k = not (is_XY k.plane)

abbrev pub even_test : Graph → Test
even_test g p k = is_interior g p && not (is_odd k.phase)

-- where the ends stay, so does what is interior
pub even_kept : (g h : Graph) → KeepsEnds g h → even_interior h ≡ count (even_test g) h.vertices
even_kept g h frame =
    ap₂ (λ ins outs. count (λ p k. not (member p (end_vertices ins) || member p (end_vertices outs)) && not (is_odd k.phase)) h.vertices) frame.inputs frame.outputs

abbrev pub Change : Type 0
Change = ℕ → Kind → Kind

-- a change keeps which phases are odd
abbrev pub KeepsOdd : Change → Type 0
KeepsOdd f = (p : ℕ) (k : Kind) → k.phase < turn → is_odd (f p k).phase ≡ is_odd k.phase

pub quarter_odd : (plane : Plane) (k : ℕ) → k < turn → is_odd (quarter_turned_in plane k).phase ≡ is_odd k
quarter_odd XY k h = is_odd-sum_quarter k
quarter_odd XZ k h = is_odd-opposite k h
quarter_odd YZ k h = refl

pub half_odd : (plane : Plane) (k : ℕ) → k < turn → is_odd (half_turned_in plane k).phase ≡ is_odd k
half_odd XY k h = is_odd-sum_half k
half_odd XZ k h = is_odd-opposite k h
half_odd YZ k h = is_odd-opposite k h

pub cond_odd : (b : Bool) (k l : Kind) (r : Bool) → is_odd k.phase ≡ r → is_odd l.phase ≡ r → is_odd (cond b k l).phase ≡ r
cond_odd true k l r s t = s
cond_odd false k l r s t = t

pub quarter_plane : (plane : Plane) (k : ℕ) → is_XY (quarter_turned_in plane k).plane ≡ is_XY plane
quarter_plane XY k = refl
quarter_plane XZ k = refl
quarter_plane YZ k = refl

pub half_plane : (plane : Plane) (k : ℕ) → is_XY (half_turned_in plane k).plane ≡ is_XY plane
half_plane XY k = refl
half_plane XZ k = refl
half_plane YZ k = refl

pub cond_plane : (b : Bool) (k l : Kind) (r : Bool) → is_XY k.plane ≡ r → is_XY l.plane ≡ r → is_XY (cond b k l).plane ≡ r
cond_plane true k l r s t = s
cond_plane false k l r s t = t

-- a change that keeps which phases are odd keeps the numbers of odd phases and of even interior vertices
module _ (g : Graph) (f : Change) (vs : List Vertex) (keeps : KeepsOdd f) (d : Distinct (ids vs)) (below : (p : ℕ) → (kind_of vs p).phase < turn) where
  pub odd_changed : count odd_test (with_kinds f vs) ≡ count odd_test vs
  odd_changed = count-with_kinds odd_test f vs ∙ count_same _ odd_test vs d (λ p m. keeps p (kind_of vs p) (below p))

  pub even_changed : count (even_test g) (with_kinds f vs) ≡ count (even_test g) vs
  even_changed =
      count-with_kinds (even_test g) f vs
      ∙ count_same _ (even_test g) vs d (λ p m. ap (λ b. is_interior g p && not b) (keeps p (kind_of vs p) (below p)))

pub phases_below : (g : Graph) → WellFormed g → (p : ℕ) → (kind_of g.vertices p).phase < turn
phases_below g w p = phase-kind_of p g.vertices w.phases_below_a_turn

-- a vertex that isn't XY is interior
pub gone_interior : (g : Graph) (u : ℕ) → WellFormed g → plane_of g u ≢ XY → is_interior g u ≡ true
gone_interior g u w n = interior_true g u (interior_of g u w (off_XY (plane_of g u) n))

pub YZ_apart : (plane : Plane) → plane ≡ YZ → plane ≢ XY
YZ_apart plane e f = let h : XY ≡ YZ = sym f ∙ e in cc

-- an id in the YZ plane is that of a vertex
pub YZ_live : (vs : List Vertex) (u : ℕ) → (kind_of vs u).plane ≡ YZ → member u (ids vs) ≡ true
YZ_live [] u e = absurd (YZ_apart XY e refl)
YZ_live (v ∷ vs) u e =
    by_test (eqb u v.id) (λ t. rw t refl) (λ f. let later : (kind_of vs u).plane ≡ YZ = rw f at e in rw f (YZ_live vs u later))

pub phases_left : (g : Graph) (u : ℕ) → WellFormed g → (p : ℕ) → (kind_of (without u g.vertices) p).phase < turn
phases_left g u w p = phase-kind_of p (without u g.vertices) (list_all-without _ u g.vertices w.phases_below_a_turn)

pub left_one : (a b c d x : ℕ) → a ≡ b → b ≡ c → d ≡ x + c → a + x ≡ d
left_one a b c d x e f g = omega arith
