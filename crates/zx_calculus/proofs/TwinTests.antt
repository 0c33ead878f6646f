-- Gadgets that may be fused: by their lists of neighbours.
use Rattle.std.proofs.Common.{◌≡◌, ◌≢◌, refl, sym, ◌∙◌, ap, ℕ, Bool, true, false, not, ◌&&◌, List, filter, nat_eq, ne_eqb}
use Rattle.std.specs.Cmp.Lexicographic.{pointwise}
use Rattle.std.proofs.lemmas.Bool.Decides.{Decides-eqb}
use Rattle.std.proofs.lemmas.Slice.Eq.{slice_eq-Decides}
use Rattle.zx_model.specs.Bits.{xor, member}
use Rattle.zx_calculus.specs.Graph.{Graph, ids, plane_of, joined, neighbours, WellFormed, is_YZ}
use Rattle.zx_calculus.specs.Steps.{allowed, after, FuseTwin}
use Rattle.zx_calculus.specs.Gadgets.{IsFuseTwin}
use Rattle.zx_calculus.specs.Moves.{AreTwins}
use Rattle.zx_calculus.proofs.Booleans.{xor-same}
use Rattle.zx_calculus.proofs.Splitting.{plane_YZ}
use Rattle.zx_calculus.proofs.Ids.{and-left, and-right}
use Rattle.zx_calculus.proofs.Kept.{both, all_by}
use Rattle.zx_calculus.proofs.Steps.{after_step}
use Rattle.zx_calculus.proofs.Programs.{neighbour}

pub equal_lists : (xs ys : List ℕ) → pointwise nat_eq xs ys ≡ true → xs ≡ ys
equal_lists xs ys h = (slice_eq-Decides Decides-eqb xs ys (pointwise nat_eq xs ys) refl).0 h

pub lists_equal : (xs ys : List ℕ) → xs ≡ ys → pointwise nat_eq xs ys ≡ true
lists_equal xs ys e = (slice_eq-Decides Decides-eqb xs ys (pointwise nat_eq xs ys) refl).1 e

-- vertices of equal neighbours are joined to the same
same_row : (g : Graph) → WellFormed g → (u v : ℕ) → neighbours g u ≡ neighbours g v → (p : ℕ) →
    not (xor (joined g.edges u p) (joined g.edges v p)) ≡ true
same_row g w u v e p =
    ap (λ b. not (xor b (joined g.edges v p))) (neighbour g w u p ∙ ap (member p) e ∙ sym (neighbour g w v p))
    ∙ ap not (xor-same (joined g.edges v p))

pub twins_allowed : (g : Graph) → WellFormed g → (u v : ℕ) → AreTwins g u v → joined g.edges u v ≡ false →
    allowed g (FuseTwin u v) ≡ true
twins_allowed g w u v a apart =
    both _ _
    (both _ _ (both _ _ a.there a.there_too)
    (both _ _ (ap not (ne_eqb u v a.different)) (both _ _ (ap is_YZ a.plane) (ap is_YZ a.plane_too))))
    (both _ _ (ap not apart)
    (all_by (λ p. not (xor (joined g.edges u p) (joined g.edges v p))) (ids g.vertices)
    (λ p there. same_row g w u v a.equal_neighbours p)))

twins_from : (g : Graph) (u v : ℕ) → WellFormed g → allowed g (FuseTwin u v) ≡ true → AreTwins g u v
twins_from g u v w h =
    let s : IsFuseTwin g u v (after (FuseTwin u v) g) = after_step g (FuseTwin u v) w h in
    record {
      there = s.there;
      there_too = s.there_too;
      different = s.different;
      plane = s.plane;
      plane_too = s.plane_too;
      equal_neighbours = ap (λ (near : ℕ → Bool). filter near (ids g.vertices)) (λ i p. s.equal_neighbours p i);
    }

same_truth : (a b : Bool) → (a ≡ true → b ≡ true) → (b ≡ true → a ≡ true) → a ≡ b
same_truth true b f h = sym (f refl)
same_truth false true f h = h refl
same_truth false false f h = refl

-- two gadgets apart are twins where their lists of neighbours are equal
pub twins_tested : (g : Graph) (u v : ℕ) → WellFormed g → (member u (ids g.vertices) && is_YZ (plane_of g u)) ≡ true →
    (member v (ids g.vertices) && is_YZ (plane_of g v)) ≡ true → u ≢ v → joined g.edges u v ≡ false → (b : Bool) →
    b ≡ pointwise nat_eq (neighbours g u) (neighbours g v) → b ≡ allowed g (FuseTwin u v)
twins_tested g u v w gu gv different apart b is =
    same_truth b (allowed g (FuseTwin u v))
    (λ t. twins_allowed g w u v
    (record {
      there = and-left _ _ gu;
      there_too = and-left _ _ gv;
      different = different;
      plane = plane_YZ (plane_of g u) (and-right _ _ gu);
      plane_too = plane_YZ (plane_of g v) (and-right _ _ gv);
      equal_neighbours = equal_lists (neighbours g u) (neighbours g v) (sym is ∙ t);
    })
    apart)
    (λ t. is ∙ lists_equal (neighbours g u) (neighbours g v) (twins_from g u v w t).equal_neighbours)
