-- What the changes of a graph, one after the other, make of it.
use Rattle.std.proofs.Common.{◌≡◌, refl, sym, ◌∙◌, ap, ap₂, subst, ℕ, true, false, cond, ◌&&◌, eqb, List}
use Rattle.std.specs.Prelude.{pos}
use Rattle.zx_model.specs.Phase.{half_turn}
use Rattle.zx_model.specs.Scalar.{product_of_scalars}
use Rattle.zx_model.specs.Bits.{xor, member}
use Rattle.zx_calculus.specs.Graph.{Plane, Kind, Vertex, Graph, kind_of, joined, neighbours, end_vertices, plane_of, phase_of, with_kinds, IsVertex, Interior, WellFormed}
use Rattle.zx_calculus.specs.Complements.{IsLocalComplement, complement_kind, complement_scalar_in, complement_scalar}
use Rattle.zx_calculus.specs.Deletions.{IsDelete, delete_kind, delete_scalar_in, delete_scalar}
use Rattle.zx_calculus.specs.Scalars.{root_of_two_to, turn_by, quarter_power, quarter_powers, half_powers, sum_of_powers}
use Rattle.zx_calculus.specs.Steps.{allowed, after, Delete}
use Rattle.zx_calculus.specs.Edits.{IsRemoval, at_vertex}
use Rattle.zx_calculus.specs.Turns.{quarter_turned, half_turned, complemented}
use Rattle.zx_calculus.proofs.Ids.{by_equal}
use Rattle.zx_calculus.proofs.Vertices.{with_kinds_same, with_kinds-unchanged, without-with_kinds}
use Rattle.zx_calculus.proofs.Splitting.{no_loop, interior_of, off_XY}
use Rattle.zx_calculus.specs.Toggles.{IsToggled, among}
use Rattle.zx_calculus.specs.Internal.ChangedKinds.{changed_in, with_changed}
use Rattle.zx_calculus.proofs.Toggling.{member-neighbours, row_stays}
use Rattle.zx_calculus.proofs.ChangedKinds.{KeepsEnds-changed, with_kinds-with_kinds, turned_live}
use Rattle.zx_calculus.proofs.Allowed.{delete_live}
use Rattle.zx_calculus.proofs.Steps.{after_step}

-- edges, then the neighbours, then the vertex itself
pub complement_step : (g h : Graph) (u : ℕ) → WellFormed g → IsVertex g u → Interior g u →
    IsToggled g (among (neighbours g u)) h →
    IsLocalComplement g u (with_changed (at_vertex u complemented)
    (with_changed (changed_in (neighbours g u) quarter_turned) h))
complement_step g h u w there interior c = record {
  there = there;
  interior = interior;
  vertices = with_kinds-with_kinds own near h.vertices ∙ ap (with_kinds (λ p k. own p (near p k))) c.vertices
      ∙ with_kinds_same (λ p k. own p (near p k)) (complement_kind u (joined g.edges u)) g.vertices (λ p k t. at p k);
  edges = λ p q n. c.edges p q n
      ∙ ap₂ (λ a b. xor (joined g.edges p q) (a && b)) (member-neighbours g u p w) (member-neighbours g u q w);
  frame = KeepsEnds-changed own g (with_changed near h) (KeepsEnds-changed near g h c.frame);
}
  where
    own : ℕ → Kind → Kind
    own = at_vertex u complemented

    near : ℕ → Kind → Kind
    near = changed_in (neighbours g u) quarter_turned

    at : (p : ℕ) (k : Kind) → own p (near p k) ≡ complement_kind u (joined g.edges u) p k
    at p k =
        ap (λ b. cond (eqb p u) (complemented (cond b (quarter_turned k) k)) (cond b (quarter_turned k) k))
        (member-neighbours g u p w)
        ∙ by_equal p u (λ t e. let apart : joined g.edges u p ≡ false = ap (joined g.edges u) e ∙ no_loop g u w in rw
        (t, apart) refl)
        (λ f n. rw f refl)

pub complement_all : (g h k l : Graph) (u : ℕ) → WellFormed g → WellFormed h → IsVertex g u → Interior g u →
    IsToggled g (among (neighbours g u)) h → k ≡ with_changed (changed_in (neighbours h u) quarter_turned) h →
    l ≡ with_changed (at_vertex u complemented) k → IsLocalComplement g u l
complement_all g h k l u wg wh there interior c turned own =
    subst (IsLocalComplement g u)
    (sym (own ∙ ap (with_changed (at_vertex u complemented)) turned
    ∙ ap (λ row. with_changed (at_vertex u complemented) (with_changed (changed_in row quarter_turned) h))
    (row_stays g h u wg wh c)))
    (complement_step g h u wg there interior c)

-- the scalar, by the powers of the turns after the toggles
pub complement_scalar_is : (g h : Graph) (u : ℕ) → WellFormed g → WellFormed h → IsToggled g (among (neighbours g u)) h →
    (kind : Kind) → kind ≡ kind_of g.vertices u → (powers : ℕ) → powers ≡ quarter_powers h (neighbours h u) →
    product_of_scalars (complement_scalar_in kind.plane kind.phase) (turn_by powers) ≡ complement_scalar g u
complement_scalar_is g h u wg wh c kind is powers e =
    ap₂ (λ (k : Kind) (n : ℕ). product_of_scalars (complement_scalar_in k.plane k.phase) (turn_by n)) is
    (e ∙ ap₂ (λ (vs : List Vertex) (ps : List ℕ). sum_of_powers (λ p. quarter_power (kind_of vs p)) ps) c.vertices
    (row_stays g h u wg wh c))

-- a half turn of the neighbours of a vertex of a half turn
pub half_turn_passed : (g h : Graph) (u : ℕ) → WellFormed g → phase_of g u ≡ half_turn →
    h ≡ with_changed (changed_in (neighbours g u) half_turned) g →
    h ≡ with_changed (delete_kind (phase_of g u) (joined g.edges u)) g
half_turn_passed g h u w half turned =
    turned
    ∙ ap (λ vs. record g { vertices = vs })
    (with_kinds_same (changed_in (neighbours g u) half_turned) (delete_kind (phase_of g u) (joined g.edges u))
    g.vertices
    (λ p k t. ap (λ b. cond b (half_turned k) k) (member-neighbours g u p w)
    ∙ sym (ap (λ x. cond (eqb x half_turn && joined g.edges u p) (half_turned k) k) half)))

pub no_half_turn_passed : (g : Graph) (u : ℕ) → eqb (phase_of g u) half_turn ≡ false →
    g ≡ with_changed (delete_kind (phase_of g u) (joined g.edges u)) g
no_half_turn_passed g u other =
    ap (λ vs. record g { vertices = vs })
    (sym (with_kinds-unchanged (delete_kind (phase_of g u) (joined g.edges u)) g.vertices
    (λ p k t. ap (λ b. cond (b && joined g.edges u p) (half_turned k) k) other)))

-- the scalar of a deletion, with a half turn and without
pub scalar_of_half_turn : (g : Graph) (u : ℕ) → phase_of g u ≡ half_turn → (plane : Plane) → plane ≡ plane_of g u →
    (powers : ℕ) → powers ≡ half_powers g (neighbours g u) →
    product_of_scalars (delete_scalar_in plane) (turn_by powers) ≡ delete_scalar g u
scalar_of_half_turn g u half plane is powers e =
    ap₂ (λ p n. product_of_scalars (delete_scalar_in p) (turn_by n)) is e
    ∙ sym (ap (λ x. cond (eqb x half_turn)
    (product_of_scalars (delete_scalar_in (plane_of g u)) (turn_by (half_powers g (neighbours g u))))
    (root_of_two_to (pos 2))) half)

pub scalar_of_no_turn : (g : Graph) (u : ℕ) → eqb (phase_of g u) half_turn ≡ false → root_of_two_to (pos 2) ≡ delete_scalar g u
scalar_of_no_turn g u other =
    sym (ap (λ b. cond b
    (product_of_scalars (delete_scalar_in (plane_of g u)) (turn_by (half_powers g (neighbours g u))))
    (root_of_two_to (pos 2))) other)

-- a vertex that is to be deleted stays one without ends while its half turn is passed on
module _ (g h : Graph) (u : ℕ) where
  pub deletable_live : h ≡ with_changed (delete_kind (phase_of g u) (joined g.edges u)) g →
      allowed g (Delete u) ≡ true → IsVertex h u
  deletable_live e may = turned_live (delete_kind (phase_of g u) (joined g.edges u)) g h u e (delete_live g u may)

  pub deletable_interior : WellFormed g → h ≡ with_changed (delete_kind (phase_of g u) (joined g.edges u)) g →
      allowed g (Delete u) ≡ true → Interior h u
  deletable_interior w e may =
      let s : IsDelete g u (after (Delete u) g) = after_step g (Delete u) w may in
      let inside : Interior g u = interior_of g u w (off_XY (plane_of g u) s.deletable.plane) in
      record {
        no_input = ap (λ l. member u (end_vertices l.inputs)) e ∙ inside.no_input;
        no_output = ap (λ l. member u (end_vertices l.outputs)) e ∙ inside.no_output;
      }

-- the neighbours, then the removal
pub delete_step : (g h k : Graph) (u : ℕ) → WellFormed g →
    h ≡ with_changed (delete_kind (phase_of g u) (joined g.edges u)) g → allowed g (Delete u) ≡ true →
    IsRemoval h u k → IsDelete g u k
delete_step g h k u w e may c = removed (subst (λ (l : Graph). IsRemoval l u k) e c)
  where
    removed : IsRemoval (with_changed (delete_kind (phase_of g u) (joined g.edges u)) g) u k → IsDelete g u k
    removed r =
        let s : IsDelete g u (after (Delete u) g) = after_step g (Delete u) w may in
        record {
          deletable = s.deletable;
          vertices = r.vertices ∙ without-with_kinds (delete_kind (phase_of g u) (joined g.edges u)) u g.vertices;
          edges = r.edges;
          frame = record { ordered = r.frame.ordered; inputs = r.frame.inputs; outputs = r.frame.outputs };
        }
